-- 02, CR 6, of the terms over runs from a started memory, refused steps anywhere: those of a step are the raw terms of
-- the last 13 taken places, without the ones that flips have set to 0.
--
--   term_at s rs p k       of the 13 terms of the step at place p, counted from 1, the one k before the newest
--   flip1_at, flip0_at s rs p   whether that step flips symbol 1 of the block 15 back, and symbol 0 of the block 18 back
--   cleared_at s rs p k    whether a flip before place p has set the term of place p − k to 0
--   IwadareRegister      which terms flip, and each term is the raw term of its place, 0 where a flip has set it to 0
use Rattle.std.specs.Prelude.{◌≡◌, Bool, false, cond, not, ◌&&◌, ◌||◌, List, ℕ, ◌-◌, ◌^◌, ◌≤◌, ◌<◌, ltb, eqb, length}
use Rattle.span.specs.Word.{bit}
use Rattle.link.specs.Memory.{started}
use Rattle.iwadare.specs.Memory.{decoder_words}
use Rattle.iwadare.specs.Decoder.{flips_symbol1, flips_symbol0}
use Rattle.iwadare.specs.Runs.{taken_by}
use Rattle.iwadare.specs.Taps.{raw_at}
use Rattle.iwadare.specs.Delivery.{register_at}

abbrev pub term_at : List ℕ → List ℕ → ℕ → ℕ → Bool
term_at s rs p k = bit (12 - k) (register_at s rs p)

-- "Symbol 1 of the block 15 back is flipped if the newest term and the one 12 before it are both 1."
abbrev pub flip1_at : List ℕ → List ℕ → ℕ → Bool
flip1_at s rs p = flips_symbol1 (register_at s rs p)

-- "Symbol 0 of the block 18 back is flipped if the newest term and the one 11 before it are 1 and the one 12 before it
-- is 0."
abbrev pub flip0_at : List ℕ → List ℕ → ℕ → Bool
flip0_at s rs p = flips_symbol0 (register_at s rs p)

-- "A flip sets the two ones that it matched to 0." One of the two is the newest term. The other is the term 12 before
-- it, which leaves with the step, or, of a flip of symbol 0, the term 11 before it, which is the one 12 before the
-- newest at the next place.
abbrev pub cleared_at : List ℕ → List ℕ → ℕ → ℕ → Bool
cleared_at s rs p k =
    (ltb 0 k && (flip1_at s rs (p - k) || flip0_at s rs (p - k))) || (eqb k 12 && flip0_at s rs (p - 1))

-- The flips of a step by its terms; and these, which are below 2^13: for k from 0 to 12 the raw term of place p − k.
-- There are none before the start. `raw_at` counts places from 0, so that place p − k is its p − k − 1.
abbrev pub IwadareRegister : Type 0
IwadareRegister =
    (rs : List ℕ) →
    let memory = started decoder_words in
    (p : ℕ) → 1 ≤ p → p ≤ length (taken_by memory rs) →
    let term = term_at memory rs p in
    (flip1_at memory rs p ≡ term 0 && term 12) × (flip0_at memory rs p ≡ term 0 && term 11 && not (term 12))
    × (register_at memory rs p < 2 ^ 13)
    × ((k : ℕ) → k ≤ 12 → term k ≡ cond (ltb k p) (raw_at memory rs (p - k - 1) && not (cleared_at memory rs p k)) false)
