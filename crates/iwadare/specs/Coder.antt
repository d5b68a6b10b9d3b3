-- The coder's step: 02, CR 6. The word that joins is formed as in 01 (`joining` of `link`).
--
--   coder_joining             the word w of a step
--   coded_block, coder_next   the coded block, and the memory after a step that is taken
--   code_answer, code_memory answer and memory of any step
--   Codes                     what `code` promises
use Rattle.std.specs.Prelude.{◌≡◌, List, [], ◌∷◌, ℕ, ◌+◌, ◌*◌, ◌^◌, set, Ok}
use Rattle.span.specs.Word.{odd, digit}
use Rattle.link.specs.Memory.{joining, next_pending}
use Rattle.link.specs.Refusals.{Answer, answered, leaves, call_numbers, refused}
use Rattle.link.specs.Coder.{code_numbers}
use Rattle.iwadare.specs.Memory.{generators, coder_pending}
use Rattle.iwadare.specs.Refusals.{coder_fault}

unfoldable pub coder_joining : List ℕ → ℕ → ℕ
coder_joining s b = joining generators (coder_pending s) b

-- "three symbols, numbered 0 and 1 (information) and 2 (parity)": the parity, bit 0 of w, has the weight 4
unfoldable pub coded_block : List ℕ → ℕ → ℕ
coded_block s b = b + digit (odd (coder_joining s b)) * 2 ^ 2

unfoldable pub coder_next : List ℕ → ℕ → List ℕ
coder_next s b = set s 0 (next_pending (coder_joining s b))

unfoldable pub code_answer : List ℕ → ℕ → Answer ℕ
code_answer s b = answered (coder_fault s b) (Ok (coded_block s b)) refused

unfoldable pub code_memory : List ℕ → ℕ → List ℕ
code_memory s b = leaves (coder_fault s b) (coder_next s b) s

pub record Codes (before : List ℕ) (info : ℕ) (r : Answer ℕ) (after : List ℕ) : Type 0 where
  pub answer : r ≡ code_answer before info
  pub memory : after ≡ code_memory before info
  pub numbers : code_numbers r ≡ call_numbers (coder_fault before info) (coded_block before info ∷ [])
