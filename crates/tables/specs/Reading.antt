-- What reading a table says.
--
--   read_number e       the number of 01 of a refusal
--   read_numbers a      the same with the values that a refusal returns; 0 of an accepted table
--   read_table t o      what is read of bytes that say t, by its first clash
--   read_parse p        what is read of bytes whose parse is p
--   reading bytes       what reading answers: the table, or the refusal
--   clash_result, read_result   the numbers that are due, by the first clash, and by the parse
--   Read bytes r        what `read` promises
--   AcceptedSuitable    an accepted table is the one that the bytes say, fit and suitable
--   SuitableAccepted    bytes that say a suitable table are accepted
--   RefusedRange        a parse that is refused has a number from 1 to 9
--   RefusedPlace        its place lies in the bytes, or, of 1, at their end
--   RefusedNumbers      the number and place of a parse that is refused are those of the reading
--   RefusedUnsuitable   a table refused for 10 is unsuitable, and the triple is the first that shows it
--   UnsuitableNumbers   10, with the first triple, is the answer to bytes that say a table that is not suitable
use Rattle.std.specs.Prelude.{◌≡◌, true, ◌≢◌, List, [], ◌∷◌, ℕ, ◌≤◌, ◌<◌, length, Option, None, Some, Result, Ok, Err}
use Rattle.tables.specs.declared.table.Table.{Table}
use Rattle.tables.specs.declared.judge.Clash.{Clash}
use Rattle.tables.specs.declared.read.ReadError.{ReadError}
use Rattle.tables.specs.declared.read.ReadError.TheVariants.{Refused, Unsuitable}
use Rattle.tables.specs.Code.{Suitable, Unsuitable as CodeUnsuitable}
use Rattle.tables.specs.Clash.{triple, first_clash, First}
use Rattle.tables.specs.Table.{rows_of, fit}
use Rattle.tables.specs.Format.{fault_of, fault_number, Parse, refused, parsed, parse}

-- "A refusal returns its number, with place or pair as said."
abbrev pub read_number : ReadError → ℕ
read_number (Refused f p) = fault_number f
read_number (Unsuitable c) = 10

abbrev pub read_numbers : Result Table ReadError → List ℕ
read_numbers (Ok t) = 0 ∷ []
read_numbers (Err (Refused f p)) = fault_number f ∷ p ∷ []
read_numbers (Err (Unsuitable c)) = 10 ∷ c.l ∷ c.e0 ∷ c.e1 ∷ []

-- 10. "The table is unsuitable; l, some e0 and e1 that show it are returned instead of a place." 02, CR 5: "It should
-- be the first". Otherwise the table is accepted.
abbrev pub read_table : Table → Option Clash → Result Table ReadError
read_table t None = Ok t
read_table t (Some c) = Err (Unsuitable c)

abbrev pub read_parse : Parse → Result Table ReadError
read_parse (refused k p) = Err (Refused (fault_of k) p)
read_parse (parsed t) = read_table t (first_clash t.span (rows_of t))

unfoldable pub reading : List ℕ → Result Table ReadError
reading bytes = read_parse (parse bytes)

-- 0 of an accepted table, 10 and its triple, or the number and place of refusals 1 to 9
abbrev pub clash_result : Option Clash → List ℕ
clash_result None = 0 ∷ []
clash_result (Some c) = 10 ∷ c.l ∷ c.e0 ∷ c.e1 ∷ []

abbrev pub read_result : Parse → List ℕ
read_result (refused k p) = k ∷ p ∷ []
read_result (parsed t) = clash_result (first_clash t.span (rows_of t))

pub record Read (bytes : List ℕ) (r : Result Table ReadError) : Type 0 where
  pub answer : r ≡ reading bytes
  pub numbers : read_numbers r ≡ read_result (parse bytes)

-- "An accepted table is one that reading returned, with the sizes and rows of the records read"
abbrev pub AcceptedSuitable : Type 0
AcceptedSuitable =
    (bytes : List ℕ) (t : Table) → reading bytes ≡ Ok t → (parse bytes ≡ parsed t) × (fit t ≡ true) × Suitable t.span (rows_of t)

abbrev pub SuitableAccepted : Type 0
SuitableAccepted =
    (bytes : List ℕ) (t : Table) → parse bytes ≡ parsed t → Suitable t.span (rows_of t)
    → reading bytes ≡ Ok t

-- 0 is no refusal, so a caller who gets numbers only can tell an accepted table
abbrev pub RefusedRange : Type 0
RefusedRange = (bytes : List ℕ) (k p : ℕ) → parse bytes ≡ refused k p → (1 ≤ k) × (k ≤ 9)

-- "place is the record's first byte", and of 1 "where a kind byte is due"
abbrev pub RefusedPlace : Type 0
RefusedPlace =
    (bytes : List ℕ) (k p : ℕ) → parse bytes ≡ refused k p
    → (p ≤ length bytes) × (k ≡ 1 → p ≡ length bytes) × (k ≢ 1 → p < length bytes)

abbrev pub RefusedNumbers : Type 0
RefusedNumbers =
    (bytes : List ℕ) (k p : ℕ) → parse bytes ≡ refused k p
    → (read_numbers (reading bytes) ≡ k ∷ p ∷ []) × (reading bytes ≡ Err (Refused (fault_of k) p))

-- "least l, then least e0, then least e1"
abbrev pub RefusedUnsuitable : Type 0
RefusedUnsuitable =
    (bytes : List ℕ) (l e0 e1 : ℕ) → reading bytes ≡ Err (Unsuitable (triple l e0 e1))
    → (t : Table) × (parse bytes ≡ parsed t) × First t.span (rows_of t) l e0 e1 × CodeUnsuitable t.span (rows_of t)

abbrev pub UnsuitableNumbers : Type 0
UnsuitableNumbers =
    (bytes : List ℕ) (t : Table) → parse bytes ≡ parsed t → (Suitable t.span (rows_of t) → ⊥)
    → (l : ℕ) × (e0 : ℕ) × (e1 : ℕ) × (read_numbers (reading bytes) ≡ 10 ∷ l ∷ e0 ∷ e1 ∷ [])
    × First t.span (rows_of t) l e0 e1 × (reading bytes ≡ Err (Unsuitable (triple l e0 e1)))
