-- The coder's step: 01, "Coder and decoder memory".
--
--   coder_joining             w
--   coded_block, coder_next   the coded block, and the memory after a step that is taken
--   code_answer, code_memory answer and memory of any step
--   code_numbers              the numbers of an answer
--   Codes                     what `code` promises
--   CodedBelow                a coded block is below 2^n
use Rattle.std.specs.Prelude.{◌≡◌, List, [], ◌∷◌, ℕ, ◌+◌, ◌-◌, ◌*◌, ◌^◌, ◌<◌, set, Ok, Err}
use Rattle.span.specs.Word.{odd, digit}
use Rattle.tables.specs.declared.table.Table.{Table}
use Rattle.tables.specs.Table.{info_rows}
use Rattle.link.specs.Memory.{turn_of, pending_at, joining, next_pending, next_turn}
use Rattle.link.specs.Refusals.{Answer, coder_fault, answered, leaves, call_numbers, refused, refusal_number}

unfoldable pub coder_joining : Table → List ℕ → ℕ → ℕ
coder_joining t s b = joining (info_rows t) (pending_at s (turn_of s)) b

-- "Bit 0 of w is the parity", and symbol n is the parity
unfoldable pub coded_block : Table → List ℕ → ℕ → ℕ
coded_block t s b = b + digit (odd (coder_joining t s b)) * 2 ^ (t.symbols - 1)

unfoldable pub coder_next : Table → List ℕ → ℕ → List ℕ
coder_next t s b = set (set s (1 + turn_of s) (next_pending (coder_joining t s b))) 0 (next_turn t.depth (turn_of s))

unfoldable pub code_answer : Table → List ℕ → ℕ → Answer ℕ
code_answer t s b = answered (coder_fault t s b) (Ok (coded_block t s b)) refused

unfoldable pub code_memory : Table → List ℕ → ℕ → List ℕ
code_memory t s b = leaves (coder_fault t s b) (coder_next t s b) s

-- 0 and the coded block, or the refusal's number
abbrev pub code_numbers : Answer ℕ → List ℕ
code_numbers (Ok c) = 0 ∷ c ∷ []
code_numbers (Err e) = refusal_number e ∷ []

pub record Codes (t : Table) (before : List ℕ) (info : ℕ) (r : Answer ℕ) (after : List ℕ) : Type 0 where
  pub answer : r ≡ code_answer t before info
  pub memory : after ≡ code_memory t before info
  pub numbers : code_numbers r ≡ call_numbers (coder_fault t before info) (coded_block t before info ∷ [])

abbrev pub CodedBelow : Type 0
CodedBelow = (t : Table) (s : List ℕ) (b : ℕ) → coder_fault t s b ≡ 0 → coded_block t s b < 2 ^ t.symbols
