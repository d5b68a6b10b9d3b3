-- A table as 18 numbers: n, N, m, then rows 1 to 15. Row n is 1 always and is not among them.
--
--   table_of ns    the table of these numbers; numbers out of range are 12's matter
--   sizes_of ns    the same with rows of 0
--   numbers_of t   the numbers of a table
--   given_back a before   what a call that answers a leaves of the numbers lent for a table: those of the table, or, of a
--                          refusal, what stood there
--   TableBack      a table that is given back, handed in again, is that table
use Rattle.std.specs.Prelude.{◌≡◌, List, ◌∷◌, ℕ, get_or, drop, replicate, Result, Ok, Err}
use Rattle.tables.specs.declared.table.Table.{Table}
use Rattle.tables.specs.Table.{table}

unfoldable pub table_of : List ℕ → Table
table_of ns = table (get_or ns 0 0) (get_or ns 1 0) (get_or ns 2 0) (drop 3 ns)

unfoldable pub sizes_of : List ℕ → Table
sizes_of ns = table (get_or ns 0 0) (get_or ns 1 0) (get_or ns 2 0) (replicate 15 0)

unfoldable pub numbers_of : Table → List ℕ
numbers_of t = t.symbols ∷ t.span ∷ t.depth ∷ t.rows

-- "It writes no lent word"
abbrev pub given_back : {E : Type 0} → Result Table E → List ℕ → List ℕ
given_back (Ok t) before = numbers_of t
given_back (Err e) before = before

abbrev pub TableBack : Type 0
TableBack = (t : Table) → table_of (numbers_of t) ≡ t
