-- `tables::make::made_row`: before turn i the row has what the first i − 1 columns add. Assumes nothing.
use mathlib.Core.Path.{◌≡◌}
use Prim.Native.Nat.{◌+◌, ◌-◌, ◌^◌, ◌<◌}
use Rattle.tables.specs.Made.{columns, upper}
use Rattle.tables.proofs.make.made_row.Given as goal

abbrev pub invariant-loop-i : goal.invariant-loop-i
invariant-loop-i l =
    (l.row ≡ 2 ^ (l.n - l.j) + upper columns l.n l.j (l.i - 1)) × (l.row < 2 ^ (l.n + l.i))
