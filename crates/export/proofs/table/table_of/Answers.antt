-- `export::table::table_of`: the sizes, and the rows after them. Assumes nothing.
use mathlib.Core.Path.{ap₂, ◌∙◌}
use mathlib.Core.List.{List}
use Prim.Native.Nat.{ℕ}
use native.Mathlib.Omega.{arith}
use lib.ListN.{drop, length-drop}
use lib.Seq.{take_all}
use Rattle.tables.specs.declared.table.Table.{Table}
use Rattle.tables.specs.Table.{table}
use Rattle.export.proofs.Numbers.{table-parts}
use Rattle.export.proofs.table.table_of.Goals as goal

pub returns : goal.returns
returns c =
    let numbers = c.args.numbers.now in
    let rows = take_all 15 (drop 3 numbers) (omega (arith, length-drop 3 numbers, c.told-numbers)) in
    ap₂ (λ (t : Table) (rows : List ℕ). table t.symbols t.span t.depth rows) c.sizes_of.ensures
    (c.copy_from_slice.ensures.after ∙ rows)
    ∙ table-parts numbers
