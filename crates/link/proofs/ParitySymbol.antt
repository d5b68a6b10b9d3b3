-- The parity symbol alone, as an error block of n symbols: 2^(n−1). Its row is 1, and it is no information. Assumes
-- nothing.
--
--   parity_none, parity_alike, parity_lt, parity_other, parity_image   that block
--   code_size   a code of n symbols has n rows
--   evened n rows x   the block x, or x and the parity symbol, whichever has an even image
--   span_from   the span of a code is 3 at least
use mathlib.Core.Path.{◌≡◌, refl, sym, ap, ap₂, ◌∙◌, subst}
use mathlib.Core.Bool.{Bool, true, false, xor}
use mathlib.Core.Logic.{◌≢◌, ◌⊎◌, inl, inr}
use mathlib.Core.List.{List, [], ◌∷◌, ◌++◌}
use Prim.Native.Nat.{ℕ, suc, ◌-◌, ◌*◌, ◌/◌, ◌%◌, ◌^◌, ◌≤◌, ◌<◌}
use native.Mathlib.Nat.{zero-add, add-zero, zero-mod, add-mod_right, eq-zero-or-pos}
use native.Mathlib.Decide.{dec_lt}
use native.Mathlib.Omega.{arith}
use lib.ListN.{length, get_or, length-append}
use lib.Pow.{pow-lt, pow_mono}
use lib.Seq.{get_or-append-add}
use Rattle.span.specs.Word.{◌⊕◌, odd, sel, digit, shifted}
use Rattle.span.specs.Combination.{combination}
use Rattle.span.proofs.Combination.{combination-zero, combination-xor, combination-pow}
use Rattle.span.proofs.Word.{xor_zero_r, xor_mod, xor_lt, xor-half, xor_self, xor-self-bool, odd-xor, odd-digit}
use Rattle.span.proofs.Word.{odd-mod, odd-of, digit-half, sel-lt, shifted-inside}
use Rattle.link.proofs.Suitable.{Corrects, shifted_none}

-- ---- the block

module _ (n : ℕ) where
  pub parity_none : 2 ^ (n - 1) % 2 ^ (n - 1) ≡ 0
  parity_none =
      let u = 2 ^ (n - 1) in
      ap (λ (x : ℕ). x % u) (sym (zero-add u)) ∙ add-mod_right 0 u ∙ zero-mod u

  -- two blocks that differ in no other symbol have the same information
  pub parity_alike : (x y : ℕ) → ((x ≡ y) ⊎ (x ≡ y ⊕ 2 ^ (n - 1))) → x % 2 ^ (n - 1) ≡ y % 2 ^ (n - 1)
  parity_alike x y (inl e) = ap (λ (z : ℕ). z % 2 ^ (n - 1)) e
  parity_alike x y (inr e) =
      ap (λ (z : ℕ). z % 2 ^ (n - 1)) e ∙ xor_mod y (2 ^ (n - 1)) (n - 1)
      ∙ ap (λ (z : ℕ). y % 2 ^ (n - 1) ⊕ z) parity_none ∙ xor_zero_r (y % 2 ^ (n - 1))

  module _ (from : 2 ≤ n) where
    pub parity_lt : 2 ^ (n - 1) < 2 ^ n
    parity_lt = pow-lt (let z : n - 1 < n = omega arith in z)

    -- symbol 1 is another
    pub parity_other : (1 < 2 ^ n) × (2 ^ (n - 1) ≢ 1)
    parity_other =
        let two : 1 ≤ n - 1 = omega arith in
        (omega (arith, pow_mono from), λ (e : 2 ^ (n - 1) ≡ 1). omega (arith, pow_mono two))

    module _ (infos : List ℕ) (size : length infos ≡ n - 1) where
      pub code_size : length (infos ++ (1 ∷ [])) ≡ n
      code_size = omega (arith, length-append infos (1 ∷ []))

      pub parity_image : combination (infos ++ (1 ∷ [])) (2 ^ (n - 1)) ≡ 1
      parity_image =
          let rows = infos ++ (1 ∷ []) in
          combination-pow rows (n - 1) ∙ ap (λ (k : ℕ). get_or rows k 0) (sym size ∙ sym (add-zero (length infos)))
          ∙ get_or-append-add infos (1 ∷ []) 0 0

-- ---- blocks of an even image

abbrev pub evened : ℕ → List ℕ → ℕ → ℕ
evened n rows x = x ⊕ sel (odd (combination rows x)) (2 ^ (n - 1))

-- a word without its bit 0
module _ (y : ℕ) where
  abbrev cut : ℕ
  cut = y ⊕ digit (odd y)

  cut-half : cut / 2 ≡ y / 2
  cut-half = xor-half y (digit (odd y)) ∙ ap (λ (x : ℕ). y / 2 ⊕ x) (digit-half (odd y)) ∙ xor_zero_r (y / 2)

  cut-even : odd cut ≡ false
  cut-even = odd-xor y (digit (odd y)) ∙ ap (xor (odd y)) (odd-digit (odd y)) ∙ xor-self-bool (odd y)

  cut-is : cut ≡ y / 2 * 2
  cut-is =
      let none : digit (odd cut) ≡ 0 = ap digit cut-even in
      omega (arith, odd-mod cut, cut-half)

module _ (n : ℕ) (rows : List ℕ) where
  pub evened_zero : (x : ℕ) → x ≡ 0 → evened n rows x ≡ 0
  evened_zero x h =
      let none : odd (combination rows x) ≡ false =
      odd-of false (combination rows x) (ap (λ (y : ℕ). y % 2) (ap (combination rows) h ∙ combination-zero rows)) in
      ap₂ (λ (a : ℕ) (b : Bool). a ⊕ sel b (2 ^ (n - 1))) h none ∙ xor_self 0

  pub evened_alike : (x : ℕ) → (evened n rows x ≡ x) ⊎ (evened n rows x ≡ x ⊕ 2 ^ (n - 1))
  evened_alike x = go (odd (combination rows x))
    where
      go : (b : Bool) → (x ⊕ sel b (2 ^ (n - 1)) ≡ x) ⊎ (x ⊕ sel b (2 ^ (n - 1)) ≡ x ⊕ 2 ^ (n - 1))
      go true = inr refl
      go false = inl (xor_zero_r x)

pub evened-lt : (n : ℕ) → 2 ≤ n → (rows : List ℕ) (x : ℕ) → x < 2 ^ n → evened n rows x < 2 ^ n
evened-lt n from rows x h =
    let b = odd (combination rows x) in
    xor_lt n x (sel b (2 ^ (n - 1))) h (sel-lt n b (2 ^ (n - 1)) (parity_lt n from))

module _ (n : ℕ) (from : 2 ≤ n) (infos : List ℕ) (size : length infos ≡ n - 1) where
  abbrev rows : List ℕ
  rows = infos ++ (1 ∷ [])

  sel-image : (b : Bool) → combination rows (sel b (2 ^ (n - 1))) ≡ digit b
  sel-image true = parity_image n from infos size
  sel-image false = combination-zero rows

  pub evened_image : (x : ℕ) → combination rows (evened n rows x) ≡ combination rows x / 2 * 2
  evened_image x =
      let y = combination rows x in
      combination-xor rows x (sel (odd y) (2 ^ (n - 1))) ∙ ap (λ (z : ℕ). y ⊕ z) (sel-image (odd y)) ∙ cut-is y

  -- ---- the span

  -- With a span of 2 the image of the parity symbol, shifted, is 2, so that no image is 2 or 3; but symbol 1 has one of
  -- its own.
  module _ {w : ℕ} (code : Corrects n w (infos ++ (1 ∷ []))) where
    module _ (one : w ≡ 1) where
      up : shifted (suc w) 1 (combination rows (2 ^ (n - 1))) ≡ 2
      up =
          ap₂ (λ (k y : ℕ). shifted (suc k) 1 y) one (parity_image n from infos size)
          ∙ shifted-inside 2 1 1 1 (omega arith) (omega arith)

      small : combination rows 1 < 4
      small = subst (λ (k : ℕ). combination rows 1 < 2 ^ suc k) one (code.image_lt 1)

      two : 1 < 2 ^ n
      two = (parity_other n from).0

      not_low : ((combination rows 1 ≡ 0) ⊎ (0 < combination rows 1)) → combination rows 1 / 2 ≡ 0 → ⊥
      not_low (inl y) z =
          let same = code.image_once 1 0 two (omega (arith, two)) (y ∙ sym (combination-zero rows)) in
          omega arith
      not_low (inr y) z =
          let is : combination rows 1 ≡ 1 = omega arith in
          (parity_other n from).1
          (sym (code.image_once 1 (2 ^ (n - 1)) two (parity_lt n from) (is ∙ sym (parity_image n from infos size))))

      never : ((combination rows 1 / 2 ≡ 0) ⊎ (0 < combination rows 1 / 2)) → ⊥
      never (inl z) = not_low (eq-zero-or-pos (combination rows 1)) z
      never (inr z) =
          let high = small in
          let is : combination rows 1 / 2 * 2 ≡ 2 = omega arith in
          let none = shifted_none code 1 (2 ^ (n - 1)) (evened n rows 1) (omega arith) (omega arith) (parity_lt n from)
          (evened-lt n from rows 1 two) (evened_image 1 ∙ is ∙ sym up) in
          let same = up in
          omega arith

    pub span_from : 1 ≤ w → 2 ≤ w
    span_from some = go (dec_lt 1 w)
      where
        go : Dec (1 < w) → 2 ≤ w
        go (yes h) = h
        go (no h) =
            let one : w ≡ 1 = omega arith in
            absurd (never one (eq-zero-or-pos (combination rows 1 / 2)))
