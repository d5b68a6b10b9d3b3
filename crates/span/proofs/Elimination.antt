-- Why elimination is right, without any echelon form. A reduction is two maps: what is left of a word, and the
-- coefficients of what was taken away. `Reduces` says what holds of them for the words taken so far; a word of which
-- nothing is left keeps it (`pass`), and so does a word of which something is left, once that has joined with a check
-- word that has an odd count of common ones with it (`join`). A reduction answers with the least coefficients
-- (`least_by_lem`). Assumes nothing.
use Rattle.std.proofs.Common.{◌≡◌, ℕ, suc, ◌-◌, ◌^◌, ◌<◌, ◌≤◌, Bool, true, false, cond, eqb, leb, ◌≢◌, ◌⊎◌, List, []}
use Rattle.std.proofs.Common.{◌∷◌, ◌++◌, length, sym, refl, ap, ◌∙◌, subst, ap₂, inl, inr, zero-le, le_of_eq, le_refl}
use Rattle.std.proofs.Common.{lt_of_lt_of_le, le_of_lt, eq-zero-or-pos, add-one, arith, length-append, pow_pos}
use Rattle.std.proofs.Common.{pow_mono, eqb-true}
use mathlib.Core.Bool.{xor}
use native.Mathlib.Decide.{dec_lt}
use borrow.Author.Tests.{eqb-false}
use lib.Count.{count_leading_zeros, count_trailing_zeros, leading_top}
use lib.Seq.{get_or-append_seam}
use lib.Pow.{pow-lt}
use Rattle.std.specs.Prelude.{Some, None}
use Rattle.span.specs.Word.{◌⊕◌, bit, sel, common_parity}
use Rattle.span.specs.Combination.{combination}
use Rattle.span.specs.Relation.{IsLeast}
use Rattle.span.specs.Elimination.{pivot}
use Rattle.span.proofs.Word.{xor_zero_l, xor_zero_r, xor_self, xor_assoc, xor_comm, xor-swap, xor-eq, xor_lt}
use Rattle.span.proofs.Word.{sel-xor, sel-lt, bit-xor, bit-none, bit-pow-other, xor-false-l, parity-xor}
use Rattle.span.proofs.Word.{parity-zero-l, xor-less, bit-top, trailing-bit}
use Rattle.span.proofs.Combination.{combination-zero, combination-xor, combination-last, combination-below}
use Rattle.span.proofs.Combination.{combination-pow}
use Rattle.span.proofs.Relation.{lowered}

-- no relation among the words has its highest one at a place where q has a one
-- the pivot of a word that is not 0 is the place of one of its ones
pub pivot-bit : (v : ℕ) → 0 < v → v < 2 ^ 64 → (pivot v < 64) × (bit (pivot v) v ≡ true)
unfolding pivot
pivot-bit v p h = go (leb (count_trailing_zeros 64 v) (count_leading_zeros 64 v))
  where
    high : (63 - count_leading_zeros 64 v < 64) × (bit (63 - count_leading_zeros 64 v) v ≡ true)
    high =
        let t = leading_top 64 v p h in
        let at : t.0 ≡ 63 - count_leading_zeros 64 v = omega (arith, t.1) in
        (omega arith, ap (λ (j : ℕ). bit j v) (sym at) ∙ bit-top t.0 v t.2 t.3)

    go : (s : Bool)
        → (cond s (count_trailing_zeros 64 v) (63 - count_leading_zeros 64 v) < 64)
        × (bit (cond s (count_trailing_zeros 64 v) (63 - count_leading_zeros 64 v)) v ≡ true)
    go true = trailing-bit 64 v p h
    go false = high

abbrev Normal : List ℕ → ℕ → Type 0
Normal ws q = (j d : ℕ) → 2 ^ j ≤ d → d < 2 ^ suc j → d < 2 ^ length ws → combination ws d ≡ 0 → bit j q ≡ false

pub record Reduces (ws : List ℕ) (rest coefficients : ℕ → ℕ) : Type 0 where
  pub linear : (x y : ℕ) → rest (x ⊕ y) ≡ rest x ⊕ rest y
  pub vanishes : (c : ℕ) → rest (combination ws c) ≡ 0
  pub decomposes : (x : ℕ) → combination ws (coefficients x) ⊕ rest x ≡ x
  pub low : (x : ℕ) → coefficients x < 2 ^ length ws
  pub normal : (x : ℕ) → Normal ws (coefficients x)

pub start : Reduces [] (λ x. x) (λ x. 0)
unfolding combination
start = record {
  linear = λ x y. refl;
  vanishes = λ c. refl;
  decomposes = λ x. xor_zero_l x;
  low = λ x. pow_pos 0;
  normal = λ x j d l u h e. bit-none j 0 (pow_pos j);
}

-- a number from 2^k on that is below 2^(j + 1) puts j at k or above
exponent-le : (k j d : ℕ) → 2 ^ k ≤ d → d < 2 ^ suc j → k ≤ j
exponent-le k j d l u = go (dec_lt j k)
  where
    go : Dec (j < k) → k ≤ j
    go (yes h) = let p : 2 ^ suc j ≤ 2 ^ k = pow_mono h in absurd (omega arith)
    go (no h) = omega arith

module _ (ws : List ℕ) (rest coefficients : ℕ → ℕ) (r : Reduces ws rest coefficients) (w : ℕ) where
  wider : (c : ℕ) → c < 2 ^ length ws → c < 2 ^ length (ws ++ (w ∷ []))
  wider c h = rw (length-append ws (w ∷ []), add-one (length ws)) (omega arith)

  -- what is left of a combination that has the new word in it
  left-of : (c : ℕ) → rest (combination (ws ++ (w ∷ [])) c) ≡ sel (bit (length ws) c) (rest w)
  left-of c =
      ap rest (combination-last ws w c) ∙ r.linear (combination ws c) (sel (bit (length ws) c) w)
      ∙ ap₂ ◌⊕◌ (r.vanishes c) (go (bit (length ws) c))
      ∙ xor_zero_l (sel (bit (length ws) c) (rest w))
    where
      go : (s : Bool) → rest (sel s w) ≡ sel s (rest w)
      go true = refl
      go false = ap rest (sym (combination-zero ws)) ∙ r.vanishes 0

  -- a relation among the words with the new one is an old relation, or has the new word at its top
  module _ (q : ℕ) (old : Normal ws q)
      (top : (j d : ℕ) → 2 ^ length ws ≤ d → d < 2 ^ suc j → d < 2 ^ length (ws ++ (w ∷ []))
      → combination (ws ++ (w ∷ [])) d ≡ 0 → bit j q ≡ false) where
    normal-more : Normal (ws ++ (w ∷ [])) q
    normal-more j d l u h e = go (dec_lt d (2 ^ length ws))
      where
        go : Dec (d < 2 ^ length ws) → bit j q ≡ false
        go (yes b) = old j d l u b (sym (combination-below ws w d b) ∙ e)
        go (no b) = top j d (omega arith) u h e

  pub pass : rest w ≡ 0 → Reduces (ws ++ (w ∷ [])) rest coefficients
  pass z = record {
    linear = r.linear;
    vanishes = λ c. left-of c ∙ ap (sel (bit (length ws) c)) z ∙ go (bit (length ws) c);
    decomposes = λ x. ap (λ (y : ℕ). y ⊕ rest x) (combination-below ws w (coefficients x) (r.low x)) ∙ r.decomposes x;
    low = λ x. wider (coefficients x) (r.low x);
    normal =
        λ x. normal-more (coefficients x) (r.normal x) (λ j d l u h e.
        bit-none j (coefficients x) (lt_of_lt_of_le (r.low x) (pow_mono (exponent-le (length ws) j d l u))));
  }
    where
      go : (s : Bool) → sel s 0 ≡ 0
      go true = refl
      go false = refl

  -- the new word joins: what is left of it is the vector, h its check word
  module _ (some_left : rest w ≢ 0) (h : ℕ) (check : common_parity 64 (rest w) h ≡ true) where
    hit : ℕ → Bool
    hit x = common_parity 64 (rest x) h

    made : ℕ
    made = coefficients w ⊕ 2 ^ length ws

    -- the coefficients of the new vector make it
    made-right : combination (ws ++ (w ∷ [])) made ⊕ rest w ≡ 0
    unfolding made
    made-right =
        ap (λ (y : ℕ). y ⊕ rest w)
        (combination-xor (ws ++ (w ∷ [])) (coefficients w) (2 ^ length ws)
        ∙ ap₂ ◌⊕◌ (combination-below ws w (coefficients w) (r.low w))
        (combination-pow (ws ++ (w ∷ [])) (length ws) ∙ get_or-append_seam ws w [] 0))
        ∙ xor_assoc (combination ws (coefficients w)) w (rest w)
        ∙ ap (λ (y : ℕ). combination ws (coefficients w) ⊕ y) (xor_comm w (rest w))
        ∙ sym (xor_assoc (combination ws (coefficients w)) (rest w) w)
        ∙ ap (λ (y : ℕ). y ⊕ w) (r.decomposes w)
        ∙ xor_self w

    made-low : made < 2 ^ length (ws ++ (w ∷ []))
    unfolding made
    made-low =
        xor_lt (length (ws ++ (w ∷ []))) (coefficients w) (2 ^ length ws) (wider (coefficients w) (r.low w))
        (rw (length-append ws (w ∷ []), add-one (length ws)) (pow-lt (le_refl (suc (length ws)))))

    made-normal : (j d : ℕ) → 2 ^ j ≤ d → d < 2 ^ suc j → d < 2 ^ length ws → combination ws d ≡ 0 → bit j made ≡ false
    unfolding made
    made-normal j d l u b e =
        bit-xor j (coefficients w) (2 ^ length ws)
        ∙ ap₂ xor (r.normal w j d l u b e)
        (bit-pow-other j (length ws)
        (λ (q : j ≡ length ws). let z : 2 ^ length ws ≤ d = subst (λ (i : ℕ). 2 ^ i ≤ d) q l in omega arith))
        ∙ xor-false-l false

    join-linear : (x y : ℕ)
        → rest (x ⊕ y) ⊕ sel (hit (x ⊕ y)) (rest w) ≡ (rest x ⊕ sel (hit x) (rest w)) ⊕ (rest y ⊕ sel (hit y) (rest w))
    unfolding hit
    join-linear x y =
        ap₂ ◌⊕◌ (r.linear x y)
        (ap (λ (s : Bool). sel s (rest w))
        (ap (λ (z : ℕ). common_parity 64 z h) (r.linear x y) ∙ parity-xor 64 (rest x) (rest y) h)
        ∙ sel-xor (hit x) (hit y) (rest w))
        ∙ xor-swap (rest x) (rest y) (sel (hit x) (rest w)) (sel (hit y) (rest w))

    join-vanishes : (c : ℕ)
        → rest (combination (ws ++ (w ∷ [])) c) ⊕ sel (hit (combination (ws ++ (w ∷ [])) c)) (rest w) ≡ 0
    unfolding hit
    join-vanishes c = rw (left-of c) (go (bit (length ws) c))
      where
        go : (s : Bool) → sel s (rest w) ⊕ sel (common_parity 64 (sel s (rest w)) h) (rest w) ≡ 0
        go true = ap (λ (s : Bool). rest w ⊕ sel s (rest w)) check ∙ xor_self (rest w)
        go false = ap (λ (s : Bool). 0 ⊕ sel s (rest w)) (parity-zero-l 64 h) ∙ xor_zero_l 0

    join-decomposes : (x : ℕ)
        → combination (ws ++ (w ∷ [])) (coefficients x ⊕ sel (hit x) made) ⊕ (rest x ⊕ sel (hit x) (rest w)) ≡ x
    join-decomposes x =
        ap (λ (y : ℕ). y ⊕ (rest x ⊕ sel (hit x) (rest w)))
        (combination-xor (ws ++ (w ∷ [])) (coefficients x) (sel (hit x) made)
        ∙ ap (λ (y : ℕ). y ⊕ combination (ws ++ (w ∷ [])) (sel (hit x) made))
        (combination-below ws w (coefficients x) (r.low x)))
        ∙ xor-swap (combination ws (coefficients x)) (combination (ws ++ (w ∷ [])) (sel (hit x) made)) (rest x)
        (sel (hit x) (rest w))
        ∙ ap₂ ◌⊕◌ (r.decomposes x) (go (hit x))
        ∙ xor_zero_r x
      where
        go : (s : Bool) → combination (ws ++ (w ∷ [])) (sel s made) ⊕ sel s (rest w) ≡ 0
        go true = made-right
        go false = ap (λ (y : ℕ). y ⊕ 0) (combination-zero (ws ++ (w ∷ []))) ∙ xor_zero_l 0

    join-normal : (x : ℕ) → Normal ws (coefficients x ⊕ sel (hit x) made)
    join-normal x j d l u b e =
        bit-xor j (coefficients x) (sel (hit x) made) ∙ ap₂ xor (r.normal x j d l u b e) (go (hit x))
        ∙ xor-false-l false
      where
        go : (s : Bool) → bit j (sel s made) ≡ false
        go true = made-normal j d l u b e
        go false = bit-none j 0 (pow_pos j)

    pub join : Reduces (ws ++ (w ∷ [])) (λ x. rest x ⊕ sel (common_parity 64 (rest x) h) (rest w))
        (λ x. coefficients x ⊕ sel (common_parity 64 (rest x) h) (coefficients w ⊕ 2 ^ length ws))
    unfolding hit made
    join = record {
      linear = join-linear;
      vanishes = join-vanishes;
      decomposes = join-decomposes;
      low =
          λ x. xor_lt (length (ws ++ (w ∷ []))) (coefficients x) (sel (hit x) made) (wider (coefficients x) (r.low x))
          (sel-lt (length (ws ++ (w ∷ []))) (hit x) made made-low);
      normal = λ x. normal-more (coefficients x ⊕ sel (hit x) made) (join-normal x)
          (λ j d l u b e.
          absurd (some_left (ap rest (sym (lowered ws w d l b e).1) ∙ r.vanishes (d - 2 ^ length ws))));
    }

-- a reduction answers with the least coefficients
module _ (ws : List ℕ) (rest coefficients : ℕ → ℕ) (r : Reduces ws rest coefficients) (x : ℕ) where
  least : (d : ℕ) → combination ws (coefficients x) ≡ x → d < 2 ^ length ws → combination ws d ≡ x → coefficients x ≤ d
  least d e u f = go (eq-zero-or-pos (coefficients x ⊕ d))
    where
      go : (coefficients x ⊕ d ≡ 0) ⊎ (0 < coefficients x ⊕ d) → coefficients x ≤ d
      go (inl z) = le_of_eq (xor-eq (coefficients x) d z)
      go (inr p) =
          let b = xor_lt (length ws) (coefficients x) d (r.low x) u in
          let t = leading_top (length ws) (coefficients x ⊕ d) p b in
          let z = combination-xor ws (coefficients x) d ∙ ap₂ ◌⊕◌ e f ∙ xor_self x in
          le_of_lt
          (xor-less t.0 (coefficients x) d t.2 t.3 (r.normal x t.0 (coefficients x ⊕ d) t.2 t.3 b z))

  pub least_by_lem : IsLeast (λ (c : ℕ). combination ws c ≡ x) 0 (2 ^ length ws)
      (cond (eqb (rest x) 0) (Some (coefficients x)) None)
  least_by_lem = go (eqb (rest x) 0) refl
    where
      go : (s : Bool) → eqb (rest x) 0 ≡ s
          → IsLeast (λ (c : ℕ). combination ws c ≡ x) 0 (2 ^ length ws) (cond s (Some (coefficients x)) None)
      go true e =
          let made : combination ws (coefficients x) ≡ x =
          sym (xor_zero_r (combination ws (coefficients x)))
          ∙ ap (λ (y : ℕ). combination ws (coefficients x) ⊕ y) (sym (eqb-true (rest x) 0 e)) ∙ r.decomposes x
          in
          (zero-le, r.low x, made, λ d l u f. least d made u f)
      go false e = λ d l u f. eqb-false (rest x) 0 e (ap rest (sym f) ∙ r.vanishes d)
