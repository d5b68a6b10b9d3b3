-- A table by value: n symbols in a block, decoding span N, depth m (the interleaving depth), and rows 1 to n − 1. Row n
-- is 1 always and is not stored.
--
--   table n N m rows   the one constructor
--   zero_table         the table that a reading begins from, which refusal 12 refuses
--   info_rows t        rows 1 to n − 1, those of the information
--   code_rows n rows   rows 1 to n of the code: those stored, and the parity's
--   rows_of t          the same of a table
--   sizes_fit n N m    n is 2 to 16, N is 2 to 64, m is 1 to 64
--   rows_fit N rows    no row has a one at bit N or above
--   fit t              refusal 12 does not apply
--   Whole t            t is fit, it holds fifteen rows, and those past n − 1 are 0
--   SameTable u t      u and t have the same n, N, m and rows 1 to n − 1: no call tells them apart
use Rattle.std.specs.Prelude.{◌≡◌, Bool, true, ◌&&◌, List, [], ◌∷◌, ◌++◌, ℕ, suc, ◌-◌, ◌^◌, ◌≤◌, leb, ltb, length}
use Rattle.std.specs.Prelude.{get_or, take, replicate}
use Rattle.tables.specs.declared.table.Table.{Table}

abbrev pub table : ℕ → ℕ → ℕ → List ℕ → Table
table n N m rows = record { symbols = n; span = N; depth = m; rows = rows }

abbrev pub zero_table : Table
zero_table = table 0 0 0 (replicate 15 0)

abbrev pub info_rows : Table → List ℕ
info_rows t = take (t.symbols - 1) t.rows

-- 01, The code: "Row j (1 to n − 1) is a number below 2^N whose bit k is the coefficient of D^k in generator j. Row n
-- is 1 always."
abbrev pub code_rows : ℕ → List ℕ → List ℕ
code_rows n rows = take (n - 1) rows ++ (1 ∷ [])

abbrev pub rows_of : Table → List ℕ
rows_of t = code_rows t.symbols t.rows

-- "n is 2 to 16, N is 2 to 64, m is 1 to 64."
unfoldable pub sizes_fit : ℕ → ℕ → ℕ → Bool
sizes_fit n N m = leb 2 n && leb n 16 && leb 2 N && leb N 64 && leb 1 m && leb m 64

unfoldable pub rows_fit : ℕ → List ℕ → Bool
rows_fit N [] = true
rows_fit N (w ∷ ws) = ltb w (2 ^ N) && rows_fit N ws

-- 01, refusal 12: "The handed table has n, N or m out of range, or one of its rows 1 to n − 1 has a one at bit N or
-- above."
unfoldable pub fit : Table → Bool
fit t = sizes_fit t.symbols t.span t.depth && rows_fit t.span (take (t.symbols - 1) t.rows)

-- a table as reading gives it: fit, of fifteen rows, and those past n − 1 are 0
pub record Whole (t : Table) : Type 0 where
  pub fits : fit t ≡ true
  pub room : length t.rows ≡ 15
  pub blank : (i : ℕ) → t.symbols ≤ suc i → get_or t.rows i 0 ≡ 0

pub record SameTable (u t : Table) : Type 0 where
  pub symbols : u.symbols ≡ t.symbols
  pub span : u.span ≡ t.span
  pub depth : u.depth ≡ t.depth
  pub rows : take (t.symbols - 1) u.rows ≡ take (t.symbols - 1) t.rows
