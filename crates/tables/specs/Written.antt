-- The bytes that say a table: the sizes record, the row records in some order, the end. The format read backwards.
--
--   bytes_of c w     the c bytes of the number w, low byte first
--   sizes_record t   the sizes record of t
--   row_record t j, row_records t js   the row record of t for row j, and those for the row numbers js
--   times j js       how often j stands in js
--   EachOnce n js    each of 1 to n − 1 stands in js exactly once, and nothing else does
--   Says bytes t     the bytes say t
--   ParsesExactly    bytes parse to a table exactly if they are written so
use Rattle.std.specs.Prelude.{◌≡◌, ◌↔◌, cond, ◌&&◌, List, [], ◌∷◌, ◌++◌, ℕ, zero, suc, ◌+◌, ◌-◌, ◌/◌, ◌%◌, ◌<◌, leb}
use Rattle.std.specs.Prelude.{ltb, eqb, get_or}
use Rattle.tables.specs.declared.table.Table.{Table}
use Rattle.tables.specs.Table.{Whole}
use Rattle.tables.specs.Format.{parsed, parse}

unfoldable pub bytes_of : ℕ → ℕ → List ℕ
bytes_of zero w = []
bytes_of (suc c) w = w % 256 ∷ bytes_of c (w / 256)

-- "Kind 1, sizes: three bytes n, N, m."
abbrev pub sizes_record : Table → List ℕ
sizes_record t = 1 ∷ t.symbols ∷ t.span ∷ t.depth ∷ []

-- "Kind 2, row: one byte j, then eight bytes of the row, low byte first."
abbrev pub row_record : Table → ℕ → List ℕ
row_record t j = 2 ∷ j ∷ bytes_of 8 (get_or t.rows (j - 1) 0)

unfoldable pub row_records : Table → List ℕ → List ℕ
row_records t [] = []
row_records t (j ∷ js) = row_record t j ++ row_records t js

unfoldable pub times : ℕ → List ℕ → ℕ
times j [] = 0
times j (k ∷ ks) = cond (eqb j k) 1 0 + times j ks

abbrev pub EachOnce : ℕ → List ℕ → Type 0
EachOnce n js = (j : ℕ) → times j js ≡ cond (leb 1 j && ltb j n) 1 0

-- "Sizes come first, rows in any order, end last."
pub record Says (bytes : List ℕ) (t : Table) : Type 0 where
  pub whole : Whole t
  pub order : List ℕ
  pub each_once : EachOnce t.symbols order
  pub same : bytes ≡ sizes_record t ++ (row_records t order ++ (0 ∷ []))

abbrev pub ParsesExactly : Type 0
ParsesExactly =
    (bytes : List ℕ) (t : Table) → ((i : ℕ) → get_or bytes i 0 < 256) → (parse bytes ≡ parsed t) ↔ Says bytes t
