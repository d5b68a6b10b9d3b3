-- `tables::write::put_rows`: what is still to be stored makes of the bytes so far all rows. Assumes nothing.
use mathlib.Core.Path.{◌≡◌}
use Prim.Native.Nat.{◌-◌, ◌*◌}
use lib.ListN.{length}
use lib.Seq.{sets}
use Rattle.tables.specs.Written.{row_records}
use Rattle.tables.specs.Writing.{ascending}
use Rattle.tables.proofs.write.put_rows.Given as goal

abbrev pub invariant-loop-j : goal.invariant-loop-j
invariant-loop-j l = (length l.out ≡ length l.initial.out)
    × (sets l.out (10 * l.j - 6) (row_records l.t (ascending l.j (l.t.symbols - l.j)))
    ≡ sets l.initial.out 4 (row_records l.t (ascending 1 (l.t.symbols - 1))))
