-- 02, CR 5, "The first clash": which triple refusal 10 returns. The rows are n in number, the parity's among them.
--
--   triple l e0 e1         a shift l and two error blocks, e0 and e1
--   first_from f a c       what f finds at the first number where it finds something, of the c numbers from a on
--   clash_by N rows l e0 e1 the triple, if the image of e0 is that of e1 shifted by l
--   clash_of N rows l e0   the first clash of the block e0 at the shift l
--   clash_at N rows l      the first clash at the shift l
--   first_clash N rows     the first clash of a table, or none
--   First N rows l e0 e1   of all triples that clash this one has the least l, of those the least e0, of those the
--                          least e1
--   FirstClash             the search finds exactly that triple
--   NoClash                it finds none exactly if the table is suitable
--   ClashZero              a first clash with e1 = 0 is at the shift 1, and the image of e0 is 0
use Rattle.std.specs.Prelude.{◌≡◌, ◌↔◌, cond, List, ℕ, zero, suc, ◌-◌, ◌^◌, ◌≤◌, eqb, length, Option, None, Some}
use Rattle.std.specs.Option.{option_or}
use Rattle.tables.specs.declared.judge.Clash.{Clash}
use Rattle.tables.specs.Code.{image, shifted_image, Clashes, Suitable}

abbrev pub triple : ℕ → ℕ → ℕ → Clash
triple l e0 e1 = record { l = l; e0 = e0; e1 = e1 }

-- by ascending search
unfoldable pub first_from : {A : Type 0} → (ℕ → Option A) → ℕ → ℕ → Option A
first_from f a zero = None
first_from f a (suc c) = option_or (f a) (first_from f (suc a) c)

abbrev pub clash_by : ℕ → List ℕ → ℕ → ℕ → ℕ → Option Clash
clash_by N rows l e0 e1 = cond (eqb (image rows e0) (shifted_image N rows l e1)) (Some (triple l e0 e1)) None

-- "least l, then least e0, then least e1": of a block e0 at a shift l, second blocks from 0 to 2^n − 1; at a shift,
-- first blocks from 1 to 2^n − 1; and shifts from 1 to N − 1
unfoldable pub clash_of : ℕ → List ℕ → ℕ → ℕ → Option Clash
clash_of N rows l e0 = first_from (clash_by N rows l e0) 0 (2 ^ length rows)

unfoldable pub clash_at : ℕ → List ℕ → ℕ → Option Clash
clash_at N rows l = first_from (clash_of N rows l) 1 (2 ^ length rows - 1)

unfoldable pub first_clash : ℕ → List ℕ → Option Clash
first_clash N rows = first_from (clash_at N rows) 1 (N - 1)

-- the same by its order
pub record First (N : ℕ) (rows : List ℕ) (l e0 e1 : ℕ) : Type 0 where
  pub clashes : Clashes N rows l e0 e1
  pub least_shift : (k d0 d1 : ℕ) → Clashes N rows k d0 d1 → l ≤ k
  pub least_first : (d0 d1 : ℕ) → Clashes N rows l d0 d1 → e0 ≤ d0
  pub least_second : (d1 : ℕ) → Clashes N rows l e0 d1 → e1 ≤ d1

abbrev pub FirstClash : Type 0
FirstClash =
    (N : ℕ) (rows : List ℕ) (l e0 e1 : ℕ) → (first_clash N rows ≡ Some (triple l e0 e1)) ↔ First N rows l e0 e1

abbrev pub NoClash : Type 0
NoClash = (N : ℕ) (rows : List ℕ) → (first_clash N rows ≡ None) ↔ Suitable N rows

-- "with e1 = 0 added so that the rows are independent": what a table designer is told by e1 = 0 is that the rows of the
-- ones of e0 sum to 0
abbrev pub ClashZero : Type 0
ClashZero = (N : ℕ) (rows : List ℕ) (l e0 : ℕ) → First N rows l e0 0 → (l ≡ 1) × (image rows e0 ≡ 0)
