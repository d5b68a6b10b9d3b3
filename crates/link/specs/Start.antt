-- Starting a memory, the coder's or the decoder's: they differ in their length only.
--
--   start_answer, start_memory   answer and memory of any start
--   length_fault                 13 or 0, of a memory that is to have so many words
--   StartsWords                  what `start` promises, of any code
--   start_numbers                the numbers of an answer
--   Starts                       what `start_coder` and `start_decoder` promise
--   StartedLaw                   what is not refused
use Rattle.std.specs.Prelude.{◌≡◌, true, not, List, [], ◌∷◌, ℕ, eqb, length, Ok, Err, ⊤}
use Rattle.tables.specs.declared.table.Table.{Table}
use Rattle.tables.specs.Table.{fit}
use Rattle.tables.specs.Refusal.{first_of}
use Rattle.link.specs.Memory.{started}
use Rattle.link.specs.Refusals.{Answer, start_fault, answered, leaves, call_numbers, refused, refusal_number}

unfoldable pub start_answer : Table → ℕ → List ℕ → Answer ⊤
start_answer t words s = answered (start_fault t words s) (Ok tt) refused

unfoldable pub start_memory : Table → ℕ → List ℕ → List ℕ
start_memory t words s = leaves (start_fault t words s) (started words) s

abbrev pub start_numbers : Answer ⊤ → List ℕ
start_numbers (Ok u) = 0 ∷ []
start_numbers (Err e) = refusal_number e ∷ []

pub record Starts (t : Table) (words : ℕ) (before : List ℕ) (r : Answer ⊤) (after : List ℕ) : Type 0 where
  pub answer : r ≡ start_answer t words before
  pub memory : after ≡ start_memory t words before
  pub numbers : start_numbers r ≡ call_numbers (start_fault t words before) []

-- 13. "The lent memory is not exactly as long as stated."
unfoldable pub length_fault : ℕ → List ℕ → ℕ
length_fault words s = first_of 13 (not (eqb (length s) words) ∷ [])

pub record StartsWords (words : ℕ) (before : List ℕ) (r : Answer ⊤) (after : List ℕ) : Type 0 where
  pub answer : r ≡ answered (length_fault words before) (Ok tt) refused
  pub memory : after ≡ leaves (length_fault words before) (started words) before
  pub numbers : start_numbers r ≡ call_numbers (length_fault words before) []

-- a fit table starts a memory of the stated length
abbrev pub StartedLaw : Type 0
StartedLaw =
    (t : Table) (words : ℕ) (s : List ℕ) → fit t ≡ true → length s ≡ words
    → (start_answer t words s ≡ Ok tt) × (start_memory t words s ≡ started words)
