-- `load::fill::Channel::fill_errors`: the errors, stored in turn, while the generator goes on. Assumes nothing.
use mathlib.Core.Path.{◌≡◌}
use lib.ListN.{length}
use Rattle.load.specs.Draws.{after}
use Rattle.load.specs.Load.{errors}
use Rattle.span.proofs.Stored.{Storing}
use Rattle.load.proofs.fill.Channel.fill_errors.Given as goal

abbrev pub invariant-loop-block : goal.invariant-loop-block
invariant-loop-block l =
    Storing (errors l.fn.self.symbols (length l.initial.out) l.initial.g.state) l.initial.out l.out l.block-index
    × (l.g.state ≡ after l.block-index l.initial.g.state)
