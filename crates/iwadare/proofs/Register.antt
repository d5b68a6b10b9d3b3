-- The terms of a run from a started memory. What a step leaves of its 13 terms is one law for each of three places; a
-- term is followed from the place at which it is the newest. Assumes nothing.
--
--   newest-left, between_left, oldest-left   what a step leaves of its newest term, of that 11 before it, and of those
--                              between
--   registers                  the theorem
use mathlib.Core.Path.{◌≡◌, refl, sym, ap, ap₂, ◌∙◌, subst}
use mathlib.Core.Bool.{Bool, true, false, cond, not, xor, ◌&&◌, ◌||◌}
use mathlib.Core.List.{List}
use Prim.Native.Nat.{ℕ, zero, suc, ◌+◌, ◌-◌, ◌*◌, ◌^◌, ◌≤◌, ◌<◌}
use native.Mathlib.Decide.{dec_lt, ℕ_discrete}
use native.Mathlib.Omega.{arith}
use borrow.Author.Tests.{lt-ltb, le-ltb, eq-eqb, ne_eqb}
use lib.Dec.{ltb, eqb}
use lib.ListN.{length, get_or}
use lib.Pow.{pow_pos}
use Rattle.link.specs.Refusals.{Answer}
use Rattle.std.specs.Prelude.{Option}
use Rattle.span.specs.Word.{◌⊕◌, bit, odd, sel, digit}
use Rattle.span.proofs.Word.{bit-suc, bit-xor, bit-low, bit-none}
use Rattle.tables.proofs.Every.{every, every-at}
use Rattle.link.specs.Memory.{started}
use Rattle.link.specs.Runs.{run, placed}
use Rattle.link.proofs.Step.{topped_low, topped_bit}
use Rattle.iwadare.specs.Memory.{decoder_words, terms_of}
use Rattle.iwadare.specs.Refusals.{decoder_fault}
use Rattle.iwadare.specs.Decoder.{raw_of, register_of, flips_symbol1, flips_symbol0, matched, terms_next, decode_memory}
use Rattle.iwadare.specs.Runs.{handed, taken_by}
use Rattle.iwadare.specs.Taps.{block_taken, raw_at}
use Rattle.iwadare.specs.Delivery.{register_at}
use Rattle.iwadare.specs.Register.{term_at, cleared_at, IwadareRegister}
use Rattle.iwadare.proofs.Decoder.{register_lt}
use Rattle.iwadare.proofs.Runs.{DecoderRun, decoder_before, decoder-first, answerTaken, decoded, told_place}

-- ---- what a step leaves of its terms

bit-sel : (a : ℕ) (b : Bool) (v : ℕ) → bit a (sel b v) ≡ b && bit a v
bit-sel a true v = refl
bit-sel a false v = bit-none a 0 (pow_pos a)

-- bit a of what is left is bit a + 1 without those that were matched
left : (a x : ℕ)
    → bit a (terms_next x)
    ≡ xor (bit (suc a) x)
    (xor (flips_symbol1 x && bit (suc a) (2 ^ 12 + 2 ^ 0)) (flips_symbol0 x && bit (suc a) (2 ^ 12 + 2 ^ 1)))
unfolding terms_next matched
left a x =
    let one = sel (flips_symbol1 x) (2 ^ 12 + 2 ^ 0) in
    let zeros = sel (flips_symbol0 x) (2 ^ 12 + 2 ^ 1) in
    sym (bit-suc a (x ⊕ (one ⊕ zeros))) ∙ bit-xor (suc a) x (one ⊕ zeros)
    ∙ ap (xor (bit (suc a) x))
    (bit-xor (suc a) one zeros
    ∙ ap₂ xor (bit-sel (suc a) (flips_symbol1 x) (2 ^ 12 + 2 ^ 0)) (bit-sel (suc a) (flips_symbol0 x) (2 ^ 12 + 2 ^ 1)))

pub newest-left : (x : ℕ) → bit 11 (terms_next x) ≡ bit 12 x && not (flips_symbol1 x || flips_symbol0 x)
unfolding flips_symbol1 flips_symbol0 bit odd xor
newest-left x = left 11 x ∙ go (bit 12 x) (bit 1 x) (bit 0 x)
  where
    go : (n e o : Bool)
        → xor n (xor ((n && o) && true) ((n && e && not o) && true)) ≡ n && not ((n && o) || (n && e && not o))
    go false e o = refl
    go true false false = refl
    go true false true = refl
    go true true false = refl
    go true true true = refl

pub oldest-left : (x : ℕ) → bit 0 (terms_next x) ≡ bit 1 x && not (flips_symbol0 x)
unfolding flips_symbol1 flips_symbol0 bit odd xor
oldest-left x = left 0 x ∙ go (bit 12 x) (bit 1 x) (bit 0 x)
  where
    go : (n e o : Bool)
        → xor e (xor ((n && o) && false) ((n && e && not o) && true)) ≡ e && not (n && e && not o)
    go false false o = refl
    go false true o = refl
    go true false false = refl
    go true false true = refl
    go true true false = refl
    go true true true = refl

-- neither flip matches these
unmatched : ℕ → Bool
unmatched i = not (bit (suc (suc i)) (2 ^ 12 + 2 ^ 0)) && not (bit (suc (suc i)) (2 ^ 12 + 2 ^ 1))

unmatched-all : every unmatched 10 ≡ true
unfolding every unmatched bit odd
unmatched-all = refl

pub between_left : (a x : ℕ) → 1 ≤ a → a < 11 → bit a (terms_next x) ≡ bit (suc a) x
unfolding unmatched xor
between_left zero x from to = absurd (omega arith)
between_left (suc i) x from to =
    left (suc i) x
    ∙ go (bit (suc (suc i)) x) (flips_symbol1 x) (flips_symbol0 x) (bit (suc (suc i)) (2 ^ 12 + 2 ^ 0))
    (bit (suc (suc i)) (2 ^ 12 + 2 ^ 1)) (every-at unmatched 10 unmatched-all i (omega arith))
  where
    go : (t f g m n : Bool) → not m && not n ≡ true → xor t (xor (f && m) (g && n)) ≡ t
    go t f g true n h = let z : ◌≡◌ {A = ℕ} 0 1 = cc in absurd (omega arith)
    go t f g false true h = let z : ◌≡◌ {A = ℕ} 0 1 = cc in absurd (omega arith)
    go false false false false false h = refl
    go false false true false false h = refl
    go false true false false false h = refl
    go false true true false false h = refl
    go true false false false false h = refl
    go true false true false false h = refl
    go true true false false false h = refl
    go true true true false false h = refl

-- a term that is 0 stays 0
zero_left : (a x : ℕ) → a < 12 → bit (suc a) x ≡ false → bit a (terms_next x) ≡ false
zero_left a x h e = go (ℕ_discrete a 11) (ℕ_discrete a 0)
  where
    none : (b c : Bool) → b ≡ false → b && c ≡ false
    none b c z = rw z

    go : Dec (a ≡ 11) → Dec (a ≡ 0) → bit a (terms_next x) ≡ false
    go (yes k) d =
        ap (λ (i : ℕ). bit i (terms_next x)) k ∙ newest-left x
        ∙ none (bit 12 x) (not (flips_symbol1 x || flips_symbol0 x)) (ap (λ (i : ℕ). bit (suc i) x) (sym k) ∙ e)
    go (no n) (yes k) =
        ap (λ (i : ℕ). bit i (terms_next x)) k ∙ oldest-left x
        ∙ none (bit 1 x) (not (flips_symbol0 x)) (ap (λ (i : ℕ). bit (suc i) x) (sym k) ∙ e)
    go (no n) (no m) = between_left a x (omega arith) (omega arith) ∙ e

-- ---- a term on its way, from the place i at which it is the newest, counted from 0

module _ {S : ℕ → List ℕ} {R : ℕ → ℕ} {A : ℕ → Answer (Option ℕ)} {count : ℕ} (r : DecoderRun S R A count) where
  abbrev terms : ℕ → ℕ
  terms p = register_of (S p) (R p)

  abbrev raw : ℕ → Bool
  raw p = raw_of (S p) (R p)

  terms-lt : (p : ℕ) → p < count → terms p < 2 ^ 13
  terms-lt p h = register_lt (S p) (R p) (r.taken p h).formed.terms

  newest : (p : ℕ) → p < count → bit 12 (terms p) ≡ raw p
  unfolding register_of
  newest p h = topped_bit 12 (terms_of (S p)) (raw p) (r.taken p h).formed.terms

  older : (a p : ℕ) → a < 12 → p < count → bit a (terms p) ≡ bit a (terms_of (S p))
  unfolding register_of
  older a p l h =
      sym (bit-low a 12 (terms_of (S p) + digit (raw p) * 2 ^ 12) l)
      ∙ ap (bit a) (topped_low 12 (terms_of (S p)) (raw p) (r.taken p h).formed.terms)

  on : (a p : ℕ) → a < 12 → suc p < count → bit a (terms (suc p)) ≡ bit a (terms_next (terms p))
  on a p l h = older a (suc p) l h ∙ ap (bit a) (r.decodes p (omega arith)).terms_on

  -- the newest of a flip is matched
  kept : (i k a : ℕ) → a + suc k ≡ 12 → 1 ≤ a → i + suc k < count
      → bit a (terms (i + suc k)) ≡ raw i && not (flips_symbol1 (terms i) || flips_symbol0 (terms i))
  kept i zero a e from h =
      ap₂ (λ (j p : ℕ). bit j (terms p)) (let z : a ≡ 11 = omega arith in z)
      (let z : i + 1 ≡ suc i = omega arith in z)
      ∙ on 11 i (omega arith) (omega arith) ∙ newest-left (terms i)
      ∙ ap (λ (t : Bool). t && not (flips_symbol1 (terms i) || flips_symbol0 (terms i))) (newest i (omega arith))
  kept i (suc k) a e from h =
      ap (λ (p : ℕ). bit a (terms p)) (let z : i + suc (suc k) ≡ suc (i + suc k) = omega arith in z)
      ∙ on a (i + suc k) (omega arith) (omega arith)
      ∙ between_left a (terms (i + suc k)) from (omega arith)
      ∙ kept i k (suc a) (omega arith) (omega arith) (omega arith)

  last : (i : ℕ) → i + 12 < count
      → bit 0 (terms (i + 12))
      ≡ raw i && not (flips_symbol1 (terms i) || flips_symbol0 (terms i)) && not (flips_symbol0 (terms (i + 11)))
  last i h =
      ap (λ (p : ℕ). bit 0 (terms p)) (let z : i + 12 ≡ suc (i + 11) = omega arith in z)
      ∙ on 0 (i + 11) (omega arith) (omega arith) ∙ oldest-left (terms (i + 11))
      ∙ ap (λ (t : Bool). t && not (flips_symbol0 (terms (i + 11)))) (kept i 10 1 refl (omega arith) (omega arith))

  -- no term comes from before the start
  before-start : terms_of (S 0) ≡ 0 → (p a k : ℕ) → a + k ≡ 12 → p < k → p < count → bit a (terms p) ≡ false
  before-start z zero a k e early h = older a 0 (omega arith) h ∙ ap (bit a) z ∙ bit-none a 0 (pow_pos a)
  before-start z (suc p) a k e early h =
      on a p (omega arith) h
      ∙ zero_left a (terms p) (omega arith)
      (before-start z p (suc a) (k - 1) (omega arith) (omega arith) (omega arith))

-- ---- the theorem

-- as `cleared_at` tells it: of the newest term, of those 1 to 11 before it, and of the one 12 before it
same-newest : (t f g : Bool) → t ≡ t && not ((false && f) || (false && g))
same-newest true f g = refl
same-newest false f g = refl

same_kept : (t f g : Bool) → t && not f ≡ t && not ((true && f) || (false && g))
same_kept true true g = refl
same_kept true false g = refl
same_kept false f g = refl

same-last : (t f g : Bool) → t && not f && not g ≡ t && not ((true && f) || (true && g))
same-last true true g = refl
same-last true false g = refl
same-last false f g = refl

module _ (rs : List ℕ) where
  abbrev memory : List ℕ
  memory = started decoder_words

  abbrev count : ℕ
  count = length (taken_by memory rs)

  abbrev steps : DecoderRun (decoder_before memory rs) (block_taken (taken_by memory rs)) (answerTaken memory rs) count
  steps = decoded memory rs

  -- places count from 1 for `register_at`, and from 0 for `raw_at`
  terms-at : (p i : ℕ) → p ≡ suc i → i < count → register_at memory rs p ≡ terms steps i
  terms-at p i e h =
      ap (λ (k : ℕ). get_or (run (λ none. decode_memory) (placed (λ none. decoder_fault) (λ none. register_of)) memory
      (handed rs)) k 0) (let z : p - 1 ≡ i = omega arith in z)
      ∙ told_place memory rs register_of 0 i h

  raw_at_lem : (p i : ℕ) → p ≡ i → i < count → raw_at memory rs p ≡ raw steps i
  raw_at_lem p i e h = ap (raw_at memory rs) e ∙ told_place memory rs raw_of false i h

  -- the term of place i + 1, k places after it
  module _ (i k : ℕ) (low : k ≤ 12) (h : i + k < count) where
    -- the place of the term, and the place before the step
    abbrev own : ℕ
    own = suc (i + k) - k

    abbrev previous : ℕ
    previous = suc (i + k) - 1

    abbrev term : ℕ → ℕ → Bool
    term a q = bit a (terms steps q)

    abbrev flips : ℕ → Bool
    flips x = flips_symbol1 x || flips_symbol0 x

    abbrev value : Bool → Bool → Bool
    value matchedNewest matchedOther =
        raw_at memory rs (own - 1)
        && not ((matchedNewest && flips (register_at memory rs own))
        || (matchedOther && flips_symbol0 (register_at memory rs previous)))

    raw-own : raw steps i ≡ raw_at memory rs (own - 1)
    raw-own = sym (raw_at_lem (own - 1) i (omega arith) (omega arith))

    terms-own : terms steps i ≡ register_at memory rs own
    terms-own = sym (terms-at own i (omega arith) (omega arith))

    term_is : term (12 - k) (i + k) ≡ value (ltb 0 k) (eqb k 12)
    term_is = go (ℕ_discrete k 0) (ℕ_discrete k 12)
      where
        go : Dec (k ≡ 0) → Dec (k ≡ 12) → term (12 - k) (i + k) ≡ value (ltb 0 k) (eqb k 12)
        go (yes z) d =
            ap₂ term (let e : 12 - k ≡ 12 = omega arith in e) (let e : i + k ≡ i = omega arith in e)
            ∙ newest steps i (omega arith) ∙ raw-own
            ∙ same-newest (raw_at memory rs (own - 1)) (flips (register_at memory rs own))
            (flips_symbol0 (register_at memory rs previous))
            ∙ sym (ap₂ value (le-ltb 0 k (omega arith)) (ne_eqb k 12 (λ (e : k ≡ 12). omega arith)))
        go (no n) (no m) =
            ap (term (12 - k)) (let e : i + k ≡ i + suc (k - 1) = omega arith in e)
            ∙ kept steps i (k - 1) (12 - k) (omega arith) (omega arith) (omega arith)
            ∙ ap₂ (λ (t : Bool) (x : ℕ). t && not (flips x)) raw-own terms-own
            ∙ same_kept (raw_at memory rs (own - 1)) (flips (register_at memory rs own))
            (flips_symbol0 (register_at memory rs previous))
            ∙ sym (ap₂ value (lt-ltb 0 k (omega arith)) (ne_eqb k 12 m))
        go (no n) (yes z) =
            ap₂ term (let e : 12 - k ≡ 0 = omega arith in e) (let e : i + k ≡ i + 12 = omega arith in e)
            ∙ last steps i (omega arith)
            ∙ ap (λ (x : ℕ). raw steps i && not (flips (terms steps i)) && not (flips_symbol0 x))
            (sym (terms-at previous (i + 11) (omega arith) (omega arith)))
            ∙ ap₂ (λ (t : Bool) (x : ℕ). t && not (flips x) && not (flips_symbol0 (register_at memory rs previous)))
            raw-own terms-own
            ∙ same-last (raw_at memory rs (own - 1)) (flips (register_at memory rs own))
            (flips_symbol0 (register_at memory rs previous))
            ∙ sym (ap₂ value (lt-ltb 0 k (omega arith)) (eq-eqb k 12 z))

  term-at : (p k : ℕ) → 1 ≤ p → p ≤ count → k ≤ 12 → Dec (k < p)
      → term_at memory rs p k ≡ cond (ltb k p) (raw_at memory rs (p - k - 1) && not (cleared_at memory rs p k)) false
  term-at p k from inside low (yes l) =
      let i = p - k - 1 in
      let here : suc (i + k) ≡ p = omega arith in
      ap (bit (12 - k)) (terms-at p (i + k) (omega arith) (omega arith))
      ∙ term_is i k low (omega arith)
      ∙ ap (λ (q : ℕ). raw_at memory rs (q - k - 1) && not (cleared_at memory rs q k)) here
      ∙ ap (λ (b : Bool). cond b (raw_at memory rs (p - k - 1) && not (cleared_at memory rs p k)) false)
      (sym (lt-ltb k p l))
  term-at p k from inside low (no l) =
      ap (bit (12 - k)) (terms-at p (p - 1) (omega arith) (omega arith))
      ∙ before-start steps (ap terms_of (decoder-first memory rs)) (p - 1) (12 - k) k (omega arith) (omega arith)
      (omega arith)
      ∙ ap (λ (b : Bool). cond b (raw_at memory rs (p - k - 1) && not (cleared_at memory rs p k)) false)
      (sym (le-ltb k p (omega arith)))

pub registers : IwadareRegister
unfolding flips_symbol1 flips_symbol0
registers rs p from inside = (
  refl,
  refl,
  subst (λ (x : ℕ). x < 2 ^ 13) (sym (terms-at rs p (p - 1) (omega arith) (omega arith)))
      (terms-lt (steps rs) (p - 1) (omega arith)),
  λ k low. term-at rs p k from inside low (dec_lt k p),
)
