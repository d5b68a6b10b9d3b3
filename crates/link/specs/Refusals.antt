-- 01, "Why a call declines", 12 to 15: which refusal applies to a start or a step, and what a call that is refused
-- answers and leaves.
--
--   start_fault t words s    the first of 12 and 13 that applies to a start, or 0
--   step_fault t words malformed bound s b   the first of 12 to 15 that applies to a step, or 0
--   some_above bound s from i   whether one of i words of s, from `from` on, is the bound or more
--   coder_malformed, decoder_malformed   the condition of 14
--   coder_fault t s b, decoder_fault t s r   the first of 12 to 15, of a coder's step and of a decoder's
--   refusal_number e         the number of a refusal
--   refusal_of k             the refusal of a number from 12 to 15
--   Answer X                 what a call answers that may be refused: an X, or why not
--   refused k                what a call that is refused answers
--   answered fault x refused   the answer of a call that has this fault: x, or its refusal
--   settled fault            whether a call is refused, and why
--   leaves fault next before   the memory after it
--   call_numbers fault values   the numbers of its answer
use Rattle.std.specs.Prelude.{Bool, false, cond, not, ◌||◌, List, [], ◌∷◌, ℕ, zero, suc, ◌+◌, ◌-◌, ◌^◌, leb, ltb, eqb}
use Rattle.std.specs.Prelude.{length, get_or, Result, Ok, Err, ⊤}
use Rattle.tables.specs.declared.table.Table.{Table}
use Rattle.tables.specs.Table.{fit}
use Rattle.tables.specs.Refusal.{first_of}
use Rattle.link.specs.declared.refusal.Refusal.{Refusal}
use Rattle.link.specs.declared.refusal.Refusal.TheVariants.{UnfitTable, WrongLength, MalformedMemory, BlockTooLarge}
use Rattle.link.specs.Memory.{coder_words, decoder_words, turn_of, fill_of, delay_of, stream_at, pending_at, pending_of}
use Rattle.link.specs.Memory.{syndrome_of, delayed_bound}

-- "Start and step, in this order": 12, of the table, and 13, "The lent memory is not exactly as long as stated."
unfoldable pub start_fault : Table → ℕ → List ℕ → ℕ
start_fault t words s = first_of 12 (not (fit t) ∷ not (eqb (length s) words) ∷ [])

-- in a step also 14, and 15, "the block is .. or more"
unfoldable pub step_fault : Table → ℕ → Bool → ℕ → List ℕ → ℕ → ℕ
step_fault t words malformed bound s b =
    first_of 12 (not (fit t) ∷ not (eqb (length s) words) ∷ malformed ∷ leb bound b ∷ [])

-- 14. "In a step: turn is m or more, fill exceeds m × (N − 1), or in the turn's stream a pending or syndrome word is
-- 2^(N−1) or more or a delayed block 2^(n−1) or more." A coder has no fill, no syndrome word and no delayed block.
abbrev pub coder_malformed : Table → List ℕ → Bool
coder_malformed t s = leb t.depth (turn_of s) || leb (2 ^ (t.span - 1)) (pending_at s (turn_of s))

unfoldable pub some_above : ℕ → List ℕ → ℕ → ℕ → Bool
some_above bound s from zero = false
some_above bound s from (suc i) = some_above bound s from i || leb bound (get_or s (from + i) 0)

abbrev pub decoder_malformed : Table → List ℕ → Bool
decoder_malformed t s =
    let k = turn_of s in
    leb t.depth k || ltb (delay_of t) (fill_of s) || leb (2 ^ (t.span - 1)) (pending_of t s k)
    || leb (2 ^ (t.span - 1)) (syndrome_of t s k)
    || some_above (delayed_bound t) s (stream_at t k + 2) (t.span - 1)

-- 15. "In a step: the block is 2^(n−1) or more (information) or 2^n or more (received)."
unfoldable pub coder_fault : Table → List ℕ → ℕ → ℕ
coder_fault t s b = step_fault t (coder_words t) (coder_malformed t s) (2 ^ (t.symbols - 1)) s b

unfoldable pub decoder_fault : Table → List ℕ → ℕ → ℕ
decoder_fault t s r = step_fault t (decoder_words t) (decoder_malformed t s) (2 ^ t.symbols) s r

abbrev pub refusal_number : Refusal → ℕ
refusal_number UnfitTable = 12
refusal_number WrongLength = 13
refusal_number MalformedMemory = 14
refusal_number BlockTooLarge = 15

abbrev pub refusal_of : ℕ → Refusal
refusal_of k =
    cond (eqb k 12) UnfitTable (cond (eqb k 13) WrongLength (cond (eqb k 14) MalformedMemory BlockTooLarge))

abbrev pub Answer : Type 0 → Type 0
Answer X = Result X Refusal

abbrev pub refused : {X : Type 0} → ℕ → Answer X
refused k = Err (refusal_of k)

-- "A refusal returns its number .. It writes no lent word, so a sequence goes on as if the call had not come."
unfoldable pub answered : {X : Type 0} → ℕ → X → (ℕ → X) → X
answered fault x refused = cond (eqb fault 0) x (refused fault)

abbrev pub settled : ℕ → Answer ⊤
settled fault = answered fault (Ok tt) refused

unfoldable pub leaves : ℕ → List ℕ → List ℕ → List ℕ
leaves fault next before = cond (eqb fault 0) next before

-- "If the answer is an enum, a definition gives this paper's number and values for each of its cases. The promises use
-- that definition." The first number is the refusal's, or 0 where the call is not refused; then come the values. A
-- refusal has its number only.
unfoldable pub call_numbers : ℕ → List ℕ → List ℕ
call_numbers fault values = cond (eqb fault 0) (0 ∷ values) (fault ∷ [])
