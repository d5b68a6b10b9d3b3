-- The decoder's step: 02, CR 6. Its 13 terms are the newest, which is bit 12, and the 12 before it: bit 12 − k is the
-- term k before the newest.
--
--   decoder_joining, raw_of   the word w of a step, and its raw term
--   register_of s r           the 13 terms
--   flips_symbol1 x, flips_symbol0 x   whether these terms flip symbol 1 of the block 15 back, and symbol 0 of the block
--                             18 back
--   matched x                 the two ones that a flip matched
--   terms_next x              the last 12 terms after the step
--   decoder_next              the memory after a step that is taken
--   delivered, delivery       the information that such a step delivers, and its answer
--   decode_answer, decode_memory   answer and memory of any step
--   decode_numbers            the numbers of an answer
--   decode_values             the values of a step that is taken
--   Decodes                   what `decode` promises
use Rattle.std.specs.Prelude.{◌≡◌, Bool, cond, not, ◌&&◌, List, [], ◌∷◌, ◌++◌, ℕ, ◌+◌, ◌/◌, ◌^◌, ltb, set, drop}
use Rattle.std.specs.Prelude.{Option, Some, None, Ok, Err}
use Rattle.span.specs.Word.{◌⊕◌, bit, sel}
use Rattle.link.specs.Memory.{joining, next_pending}
use Rattle.link.specs.Step.{information, raw_term, register}
use Rattle.link.specs.Refusals.{Answer, answered, leaves, call_numbers, refused, refusal_number}
use Rattle.iwadare.specs.Memory.{generators, delay, fill_of, pending_of, terms_of, word_back, delayed_back, fill_next}
use Rattle.iwadare.specs.Refusals.{decoder_fault}

-- "Raw terms are formed as for our own codes": 01, a decoding step, line 1, with n = 3
unfoldable pub decoder_joining : List ℕ → ℕ → ℕ
decoder_joining s r = joining generators (pending_of s) (information 3 r)

unfoldable pub raw_of : List ℕ → ℕ → Bool
raw_of s r = raw_term (decoder_joining s r) 3 r

unfoldable pub register_of : List ℕ → ℕ → ℕ
register_of s r = register 13 (terms_of s) (raw_of s r)

-- "Symbol 1 of the block 15 back is flipped if the newest term and the one 12 before it are both 1."
unfoldable pub flips_symbol1 : ℕ → Bool
flips_symbol1 x = bit 12 x && bit 0 x

-- "Symbol 0 of the block 18 back is flipped if the newest term and the one 11 before it are 1 and the one 12 before it
-- is 0."
unfoldable pub flips_symbol0 : ℕ → Bool
flips_symbol0 x = bit 12 x && bit 1 x && not (bit 0 x)

-- "A flip sets the two ones that it matched to 0." At most one of the two flips comes, since one asks for bit 0 and the
-- other for its absence.
unfoldable pub matched : ℕ → ℕ
matched x = sel (flips_symbol1 x) (2 ^ 12 + 2 ^ 0) ⊕ sel (flips_symbol0 x) (2 ^ 12 + 2 ^ 1)

-- what is left of the 13 terms, without the oldest
unfoldable pub terms_next : ℕ → ℕ
terms_next x = (x ⊕ matched x) / 2

-- The fill; the pending word; the terms; and the delayed blocks, the one 15 back flipped in symbol 1, of weight 2,
-- where it is to be: the oldest leaves, and the received information joins as the youngest.
unfoldable pub decoder_next : List ℕ → ℕ → List ℕ
decoder_next s r =
    let x = register_of s r in
    fill_next (fill_of s) ∷ next_pending (decoder_joining s r) ∷ terms_next x
    ∷ (drop 4 (set s (word_back 15) (delayed_back s 15 ⊕ sel (flips_symbol1 x) 2)) ++ (information 3 r ∷ []))

-- "Both symbols of a block are delivered together, without a mark, when the eighteenth block after it is taken": the
-- oldest, flipped in symbol 0, of weight 1, where it is to be
unfoldable pub delivered : List ℕ → ℕ → ℕ
delivered s r = delayed_back s delay ⊕ sel (flips_symbol0 (register_of s r)) 1

-- "before that the answer is "nothing yet""
unfoldable pub delivery : List ℕ → ℕ → Answer (Option ℕ)
delivery s r = cond (ltb (fill_of s) delay) (Ok None) (Ok (Some (delivered s r)))

unfoldable pub decode_answer : List ℕ → ℕ → Answer (Option ℕ)
decode_answer s r = answered (decoder_fault s r) (delivery s r) refused

unfoldable pub decode_memory : List ℕ → ℕ → List ℕ
decode_memory s r = leaves (decoder_fault s r) (decoder_next s r) s

-- 0, whether a block is delivered, and its information, or 0; or the refusal's number
abbrev pub decode_numbers : Answer (Option ℕ) → List ℕ
decode_numbers (Ok (Some info)) = 0 ∷ 1 ∷ info ∷ []
decode_numbers (Ok None) = 0 ∷ 0 ∷ 0 ∷ []
decode_numbers (Err e) = refusal_number e ∷ []

abbrev pub decode_values : List ℕ → ℕ → List ℕ
decode_values s r = cond (ltb (fill_of s) delay) (0 ∷ 0 ∷ []) (1 ∷ delivered s r ∷ [])

pub record Decodes (before : List ℕ) (received : ℕ) (r : Answer (Option ℕ)) (after : List ℕ) : Type 0 where
  pub answer : r ≡ decode_answer before received
  pub memory : after ≡ decode_memory before received
  pub numbers : decode_numbers r ≡ call_numbers (decoder_fault before received) (decode_values before received)
