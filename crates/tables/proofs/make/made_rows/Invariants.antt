-- `tables::make::made_rows`: after i turns the first i rows stand, and zeros after them. Assumes nothing.
use mathlib.Core.Path.{◌≡◌}
use mathlib.Core.List.{◌++◌}
use Prim.Native.Nat.{◌-◌}
use lib.ListN.{replicate}
use Rattle.tables.specs.Made.{columns, made_rows}
use Rattle.tables.proofs.make.made_rows.Given as goal

abbrev pub invariant-loop-i : goal.invariant-loop-i
invariant-loop-i l = l.rows ≡ made_rows columns l.n l.i ++ replicate (15 - l.i) 0
