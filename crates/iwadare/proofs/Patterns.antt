-- The one computed test: what the decoder makes of a burst alone, from a memory of zeros with the fill complete. A
-- burst that begins in a block and lies in 10 consecutive bits reaches into three blocks more: bit 0 of the first of
-- them leaves one bit of the last, bit 1 two, and bit 2 all three. Each of these 1,536 patterns, followed by 18 right
-- blocks, delivers zeros only and ends in the same memory. Assumes nothing.
--
--   quiet               that memory
--   quiet_next, quiet-delivers   a right block leaves it
--   settles s es        from s on, the blocks es deliver zeros only and end in the quiet memory
--   calm                18 right blocks
--   goes rest s e       the block e delivers zero, settles with the calm after it if it is wrong, and then the rest
--                       holds
--   patterns s bounds   so does each list of blocks below these bounds that ends with a wrong one, and the calm
--   room_of e           what the fourth block is below, after a first block e
--   tested e            the test of all bursts with the first block e
--   computed            it holds of all of them
use mathlib.Core.Path.{◌≡◌, refl, ap₂}
use mathlib.Core.Bool.{Bool, true, false, cond, xor, ◌&&◌, ◌||◌}
use mathlib.Core.Logic.{◌≢◌}
use mathlib.Core.List.{List, [], ◌∷◌}
use Prim.Native.Nat.{ℕ, zero, suc, ◌<◌}
use native.Mathlib.Omega.{arith}
use borrow.Author.Tests.{eq-eqb, ne_eqb, eqb-true}
use lib.Dec.{eqb}
use lib.ListN.{replicate}
use Rattle.span.specs.Word.{◌⊕◌, odd, bit}
use Rattle.span.specs.Combination.{combination}
use Rattle.tables.proofs.Fit.{and_left, and_right}
use Rattle.tables.proofs.Every.{every, every-at}
use Rattle.link.specs.Memory.{joining}
use Rattle.iwadare.specs.Decoder.{decoder_joining, raw_of, register_of, flips_symbol1, flips_symbol0, matched}
use Rattle.iwadare.specs.Decoder.{terms_next, decoder_next, delivered}

abbrev pub quiet : List ℕ
quiet = 18 ∷ replicate 20 0

alike : List ℕ → List ℕ → Bool
alike [] [] = true
alike [] (y ∷ ys) = false
alike (x ∷ xs) [] = false
alike (x ∷ xs) (y ∷ ys) = eqb x y && alike xs ys

pub settles : List ℕ → List ℕ → Bool
settles s [] = alike s quiet
settles s (e ∷ es) = eqb (delivered s e) 0 && settles (decoder_next s e) es

abbrev pub calm : List ℕ
calm = replicate 18 0

-- of one block, and of what comes after it
goes : (List ℕ → Bool) → List ℕ → ℕ → Bool
goes rest s e =
    eqb (delivered s e) 0 && (eqb e 0 || settles (decoder_next s e) calm) && rest (decoder_next s e)

pub patterns : List ℕ → List ℕ → Bool
patterns s [] = true
patterns s (bound ∷ bounds) = every (goes (λ t. patterns t bounds) s) bound

pub room_of : ℕ → ℕ
room_of e = cond (bit 0 e) 2 (cond (bit 1 e) 4 8)

tested : ℕ → Bool
tested e = goes (λ t. patterns t (8 ∷ 8 ∷ room_of e ∷ [])) quiet e

computed : every (λ i. tested (suc i)) 7 ≡ true
unfolding every tested room_of patterns goes settles alike delivered decoder_next terms_next matched flips_symbol0 flips_symbol1
    register_of raw_of decoder_joining joining combination bit odd xor ◌⊕◌
computed = refl

-- ---- what the tests say

pub room-odd : (e : ℕ) → bit 0 e ≡ true → room_of e ≡ 2
unfolding room_of
room-odd e p = rw p

pub room-second : (e : ℕ) → bit 0 e ≡ false → bit 1 e ≡ true → room_of e ≡ 4
unfolding room_of
room-second e p q = rw (p, q)

pub room-last : (e : ℕ) → bit 0 e ≡ false → bit 1 e ≡ false → room_of e ≡ 8
unfolding room_of
room-last e p q = rw (p, q)

pub quiet_next : decoder_next quiet 0 ≡ quiet
unfolding decoder_next terms_next matched flips_symbol0 flips_symbol1 register_of raw_of decoder_joining joining combination
    bit odd xor ◌⊕◌
quiet_next = refl

pub quiet-delivers : delivered quiet 0 ≡ 0
unfolding delivered flips_symbol0 register_of raw_of decoder_joining joining combination bit odd xor ◌⊕◌
quiet-delivers = refl

alike-so : (xs ys : List ℕ) → alike xs ys ≡ true → xs ≡ ys
unfolding alike
alike-so [] [] h = refl
alike-so [] (y ∷ ys) h = let z : ◌≡◌ {A = ℕ} 0 1 = cc in absurd (omega arith)
alike-so (x ∷ xs) [] h = let z : ◌≡◌ {A = ℕ} 0 1 = cc in absurd (omega arith)
alike-so (x ∷ xs) (y ∷ ys) h =
    ap₂ (λ (z : ℕ) (zs : List ℕ). z ∷ zs) (eqb-true x y (and_left (eqb x y) (alike xs ys) h))
    (alike-so xs ys (and_right (eqb x y) (alike xs ys) h))

pub settles_end : (s : List ℕ) → settles s [] ≡ true → s ≡ quiet
unfolding settles
settles_end s h = alike-so s quiet h

pub settles-more : (s : List ℕ) (e : ℕ) (es : List ℕ) → settles s (e ∷ es) ≡ true
    → (delivered s e ≡ 0) × (settles (decoder_next s e) es ≡ true)
unfolding settles
settles-more s e es h =
    let first = eqb (delivered s e) 0 in
    let rest = settles (decoder_next s e) es in
    (eqb-true (delivered s e) 0 (and_left first rest h), and_right first rest h)

pub settles-so : (s : List ℕ) (e : ℕ) (es : List ℕ) → delivered s e ≡ 0 → settles (decoder_next s e) es ≡ true
    → settles s (e ∷ es) ≡ true
unfolding settles
settles-so s e es d h = ap₂ ◌&&◌ (eq-eqb (delivered s e) 0 d) h

-- a block of such a list: it delivers zero; where it is wrong, the calm after it settles; and so does the rest
pub record Goes (s : List ℕ) (e : ℕ) (bounds : List ℕ) : Type 0 where
  pub delivers : delivered s e ≡ 0
  pub stops : e ≢ 0 → settles (decoder_next s e) calm ≡ true
  pub goes : patterns (decoder_next s e) bounds ≡ true

goes_so : (bounds s : List ℕ) (e : ℕ) → goes (λ t. patterns t bounds) s e ≡ true → Goes s e bounds
unfolding goes
goes_so bounds s e h = record {
  delivers = eqb-true (delivered s e) 0 (and_left a b (and_left (a && b) c h));
  stops = λ ne. stop (eqb e 0) (ne_eqb e 0 ne) (and_right a b (and_left (a && b) c h));
  goes = and_right (a && b) c h;
}
  where
    a : Bool
    a = eqb (delivered s e) 0

    b : Bool
    b = eqb e 0 || settles (decoder_next s e) calm

    c : Bool
    c = patterns (decoder_next s e) bounds

    stop : (q : Bool) → q ≡ false → q || settles (decoder_next s e) calm ≡ true → settles (decoder_next s e) calm ≡ true
    stop true n k = let z : ◌≡◌ {A = ℕ} 0 1 = cc in absurd (omega arith)
    stop false n k = k

pub patterns-go : (s : List ℕ) (bound : ℕ) (bounds : List ℕ) → patterns s (bound ∷ bounds) ≡ true
    → (e : ℕ) → e < bound → Goes s e bounds
unfolding patterns
patterns-go s bound bounds h e l = goes_so bounds s e (every-at (goes (λ t. patterns t bounds) s) bound h e l)

-- of a first block that is wrong
pub first_goes : (e : ℕ) → 0 < e → e < 8 → Goes quiet e (8 ∷ 8 ∷ room_of e ∷ [])
unfolding tested
first_goes zero some l = absurd (omega arith)
first_goes (suc i) some l =
    goes_so (8 ∷ 8 ∷ room_of (suc i) ∷ []) quiet (suc i) (every-at (λ i. tested (suc i)) 7 computed i (omega arith))
