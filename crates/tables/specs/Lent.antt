-- A table whose rows are lent beside it, so that a caller need not copy them into one: its own rows do not count then.
--
--   with_rows t rows   the table of t's sizes and these rows
--   lent t rows        the same, if they are fifteen, as a table holds; otherwise the zero table, which 12 refuses
--   LentLaw            fifteen rows are the table's, any other count is the zero table; a table with its own rows is
--                      that table
use Rattle.std.specs.Prelude.{◌≡◌, cond, ◌≢◌, List, ℕ, eqb, length}
use Rattle.tables.specs.declared.table.Table.{Table}
use Rattle.tables.specs.Table.{table, zero_table}

abbrev pub with_rows : Table → List ℕ → Table
with_rows t rows = table t.symbols t.span t.depth rows

unfoldable pub lent : Table → List ℕ → Table
lent t rows = cond (eqb (length rows) 15) (with_rows t rows) zero_table

abbrev pub LentLaw : Type 0
LentLaw =
    (t : Table) (rows : List ℕ)
    → (length rows ≡ 15 → lent t rows ≡ with_rows t rows) × (length rows ≢ 15 → lent t rows ≡ zero_table)
    × (with_rows t t.rows ≡ t)
