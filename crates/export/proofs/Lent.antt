-- The rows of a table lent where they stand among its numbers. Assumes nothing.
use mathlib.Core.Path.{◌≡◌, ap, ◌∙◌}
use mathlib.Core.List.{List}
use Prim.Native.Nat.{ℕ, ◌-◌}
use native.Mathlib.Omega.{arith}
use lib.ListN.{length, drop, length-drop}
use lib.Seq.{take_all}
use borrow.Rule.Slice.PartMut.{mid_of}
use Rattle.tables.specs.declared.table.Table.{Table}
use Rattle.tables.specs.Lent.{with_rows, lent}
use Rattle.tables.proofs.Lent.{lent_rows}

pub rows-lent : (t : Table) (numbers : List ℕ) → length numbers ≡ 18
    → lent t (mid_of 3 (18 - 3) numbers) ≡ with_rows t (drop 3 numbers)
rows-lent t numbers e =
    let size : length (drop 3 numbers) ≡ 15 = length-drop 3 numbers ∙ ap (λ (k : ℕ). k - 3) e in
    ap (lent t) (take_all 15 (drop 3 numbers) (omega arith)) ∙ (lent_rows t (drop 3 numbers)).0 size
