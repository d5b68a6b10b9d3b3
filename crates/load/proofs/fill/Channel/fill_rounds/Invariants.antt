-- `load::fill::Channel::fill_rounds`: round after round (`Goes`). Assumes nothing.
use Prim.Native.Nat.{◌-◌}
use lib.ListN.{length}
use Rattle.load.proofs.Rounds.{Goes}
use Rattle.load.proofs.fill.Channel.fill_rounds.Given as goal

abbrev pub invariant-loop-at : goal.invariant-loop-at
invariant-loop-at l = Goes l.self.symbols l.self.depth l.self.guard l.seed (length l.initial.out) l.at l.g.state l.out

abbrev pub decreases-loop-at : goal.decreases-loop-at
decreases-loop-at l = length l.initial.out - l.at
