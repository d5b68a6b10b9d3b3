-- 02, CR 6: "Answers: 13 for another length, 14 for a word outside the bounds just given, 15 for information of 4 or
-- more or a received block of 8 or more, in that order; the table of 12 does not exist here." That of a start is 13
-- (`length_fault` of `link`).
--
--   step_fault words malformed bound s b   the first of 13 to 15 that applies to a step, or 0
--   coder_malformed, decoder_malformed     the condition of 14
--   coder_fault s b, decoder_fault s r     the first of 13 to 15, of a coder's step and of a decoder's
use Rattle.std.specs.Prelude.{Bool, not, ◌||◌, List, [], ◌∷◌, ℕ, leb, ltb, eqb, length}
use Rattle.tables.specs.Refusal.{first_of}
use Rattle.link.specs.Refusals.{some_above}
use Rattle.iwadare.specs.Memory.{coder_words, coder_pending, pending_bound, decoder_words, delay, fill_of, pending_of}
use Rattle.iwadare.specs.Memory.{terms_of, terms_bound, word_back, delayed_bound, received_bound}

unfoldable pub step_fault : ℕ → Bool → ℕ → List ℕ → ℕ → ℕ
step_fault words malformed bound s b =
    first_of 13 (not (eqb (length s) words) ∷ malformed ∷ leb bound b ∷ [])

abbrev pub coder_malformed : List ℕ → Bool
coder_malformed s = leb pending_bound (coder_pending s)

abbrev pub decoder_malformed : List ℕ → Bool
decoder_malformed s =
    ltb delay (fill_of s) || leb pending_bound (pending_of s) || leb terms_bound (terms_of s)
    || some_above delayed_bound s (word_back delay) delay

unfoldable pub coder_fault : List ℕ → ℕ → ℕ
coder_fault s b = step_fault coder_words (coder_malformed s) delayed_bound s b

unfoldable pub decoder_fault : List ℕ → ℕ → ℕ
decoder_fault s r = step_fault decoder_words (decoder_malformed s) received_bound s r
