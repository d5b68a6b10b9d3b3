-- `tables::read::read`: the parse of all the bytes comes by the place and the progress that the loop has; a table is
-- judged. Assumes nothing.
use Prim.Native.Nat.{◌-◌, ◌≤◌}
use lib.ListN.{length}
use Rattle.tables.proofs.Format.{Reaches}
use Rattle.tables.proofs.Progress.{Good}
use Rattle.tables.proofs.read.read.Given as goal

abbrev pub invariant-loop-fault : goal.invariant-loop-fault
invariant-loop-fault l = (l.at ≤ length l.bytes) × Good l.g × Reaches l.bytes l.at l.g

abbrev pub decreases-loop-fault : goal.decreases-loop-fault
decreases-loop-fault l = length l.bytes - l.at
