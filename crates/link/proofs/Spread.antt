-- The ones of a word, spread to every m-th place: how many there are up to a place. Assumes nothing.
--
--   total            the sum of numbers over the places below a bound; and its laws
--   ones-pow, ones-topped   the ones of a power of 2, and of a number with a bit above it
--   spread m row d   bit d / m of the word, if m divides d
--   spread_cut       their count
use mathlib.Core.Path.{◌≡◌, refl, sym, ap, ap₂, ◌∙◌}
use mathlib.Core.Bool.{Bool, true, false, ◌&&◌}
use mathlib.Core.List.{List, [], ◌∷◌, map, sum}
use Prim.Native.Nat.{ℕ, zero, suc, ◌+◌, ◌-◌, ◌*◌, ◌/◌, ◌%◌, ◌^◌, ◌≤◌, ◌<◌}
use native.Mathlib.Nat.{add-zero, zero-add, suc-add, add_comm, suc-mul, zero-mod, zero-div, mod-eq_of_lt, add-mod_left}
use native.Mathlib.Nat.{add-div_left, mod-lt, mod-add-div', le-div_iff_mul-le}
use native.Mathlib.Numerals.{add-one}
use native.Mathlib.Decide.{dec_lt}
use native.Mathlib.Omega.{arith}
use borrow.Author.Tests.{ne_eqb}
use lib.Arith.{lt-one}
use lib.Count.{ones, ones_step, ones_cat, ones-ones}
use lib.Dec.{eqb}
use lib.ListN.{length, get_or}
use lib.Pow.{pow_pos}
use Rattle.span.specs.Word.{bit, digit}
use Rattle.span.proofs.Word.{odd-mod, bit-zero, bit-suc, bit-low, and-false}
use Rattle.link.proofs.Convolution.{bit-nothing}

-- ---- sums of numbers

pub total : ℕ → (ℕ → ℕ) → ℕ
total zero f = 0
total (suc count) f = f 0 + total count (λ i. f (suc i))

pub total_ext : (count : ℕ) (f g : ℕ → ℕ) → ((i : ℕ) → i < count → f i ≡ g i) → total count f ≡ total count g
unfolding total
total_ext zero f g h = refl
total_ext (suc count) f g h =
    ap₂ ◌+◌ (h 0 (omega arith))
    (total_ext count (λ i. f (suc i)) (λ i. g (suc i)) (λ i l. h (suc i) (omega arith)))

pub total-none : (count : ℕ) (f : ℕ → ℕ) → ((i : ℕ) → i < count → f i ≡ 0) → total count f ≡ 0
unfolding total
total-none zero f h = refl
total-none (suc count) f h =
    ap₂ ◌+◌ (h 0 (omega arith)) (total-none count (λ i. f (suc i)) (λ i l. h (suc i) (omega arith)))

pub total_first : (count : ℕ) (f : ℕ → ℕ) → ((i : ℕ) → i < count → f (suc i) ≡ 0) → total (suc count) f ≡ f 0
unfolding total
total_first count f h = ap (λ (z : ℕ). f 0 + z) (total-none count (λ i. f (suc i)) h) ∙ add-zero (f 0)

pub total-split : (a b : ℕ) (f : ℕ → ℕ) → total (a + b) f ≡ total a f + total b (λ i. f (a + i))
unfolding total
total-split zero b f =
    ap (λ (k : ℕ). total k f) (zero-add b) ∙ total_ext b f (λ i. f (0 + i)) (λ i l. ap f (sym (zero-add i)))
    ∙ sym (zero-add (total b (λ i. f (0 + i))))
total-split (suc a) b f =
    let rest = total-split a b (λ i. f (suc i)) in
    let same = total_ext b (λ i. f (suc (a + i))) (λ i. f (suc a + i)) (λ i l. ap f (sym (suc-add a i))) in
    ap (λ (k : ℕ). total k f) (suc-add a b) ∙ omega (arith, rest, same)

pub total-add : (count : ℕ) (f g : ℕ → ℕ) → total count (λ i. f i + g i) ≡ total count f + total count g
unfolding total
total-add zero f g = refl
total-add (suc count) f g =
    let rest = total-add count (λ i. f (suc i)) (λ i. g (suc i)) in
    omega (arith, rest)

pub total-list : (f : ℕ → ℕ) (l : List ℕ) → sum ◌+◌ zero (map f l) ≡ total (length l) (λ p. f (get_or l p 0))
unfolding total sum
total-list f [] = refl
total-list f (x ∷ l) = ap (λ (z : ℕ). f x + z) (total-list f l)

-- ---- the ones of a word, one at every m-th place

ones-digit : (s : Bool) → ones (digit s) ≡ digit s
ones-digit true = ones-ones 1
ones-digit false = ones-ones 0

pub ones-pow : (k : ℕ) → ones (2 ^ k) ≡ 1
ones-pow k =
    ap ones (let e : 2 ^ k ≡ 1 * 2 ^ k + 0 = omega arith in e) ∙ ones_cat k 1 0 (pow_pos k)
    ∙ ap₂ ◌+◌ (ones-digit true) (ones-digit false)

pub ones-topped : (ν b : ℕ) (s : Bool) → b < 2 ^ ν → ones (b + digit s * 2 ^ ν) ≡ digit s + ones b
ones-topped ν b s h =
    ap ones (add_comm b (digit s * 2 ^ ν)) ∙ ones_cat ν (digit s) b h ∙ ap (λ (x : ℕ). x + ones b) (ones-digit s)

-- bit d / m of the word at the places d that m divides
abbrev pub spread : ℕ → ℕ → ℕ → Bool
spread m row d = eqb (d % m) 0 && bit (d / m) row

module _ (m : ℕ) (some : 0 < m) where
  spread-next : (row d : ℕ) → spread m row (m + d) ≡ spread m (row / 2) d
  spread-next row d =
      ap₂ (λ (r q : ℕ). eqb r 0 && bit q row) (add-mod_left m d) (add-div_left d some ∙ add-one (d / m))
      ∙ ap (λ (s : Bool). eqb (d % m) 0 && s) (bit-suc (d / m) row)

  spread-inside : (row d : ℕ) → suc d < m → spread m row (suc d) ≡ false
  spread-inside row d h =
      ap (λ (s : Bool). s && bit (suc d / m) row)
      (ne_eqb (suc d % m) 0 (λ e. let z = mod-eq_of_lt h in omega arith))

  -- of the first m places only the first counts
  first-total : (row count : ℕ) → 0 < count → count ≤ m → total count (λ d. digit (spread m row d)) ≡ row % 2
  first-total row zero from h = absurd (omega arith)
  first-total row (suc count) from h =
      total_first count (λ d. digit (spread m row d)) (λ d l. ap digit (spread-inside row d (omega arith)))
      ∙ ap digit (ap₂ (λ (r q : ℕ). eqb r 0 && bit q row) (zero-mod m) (zero-div m) ∙ bit-zero row)
      ∙ sym (odd-mod row)

  spread-total : (K row count : ℕ) → row < 2 ^ K → K * m < count + m
      → total count (λ d. digit (spread m row d)) ≡ ones row
  spread-total zero row count low many =
      let none = lt-one low in
      total-none count (λ d. digit (spread m row d))
      (λ d l. ap digit (ap (λ (s : Bool). eqb (d % m) 0 && s) (ap (bit (d / m)) none ∙ bit-nothing (d / m))
      ∙ and-false (eqb (d % m) 0)))
      ∙ sym (ap ones none ∙ ones-ones 0)
  spread-total (suc K) row count low many =
      let over = suc-mul K m in
      go (dec_lt count m) (λ c h. spread-total K (row / 2) c (omega arith) h)
    where
      go : Dec (count < m)
          → ((c : ℕ) → K * m < c + m → total c (λ d. digit (spread m (row / 2) d)) ≡ ones (row / 2))
          → total count (λ d. digit (spread m row d)) ≡ ones row
      go (yes l) rest =
          let over = suc-mul K m in
          let none : ones (row / 2) ≡ 0 =
          sym (rest 0 (omega arith)) ∙ total-none 0 (λ d. digit (spread m (row / 2) d)) (λ i h. absurd (omega arith)) in
          first-total row count (omega arith) (omega arith) ∙ omega (arith, ones_step row, none)
      go (no l) rest =
          let over = suc-mul K m in
          let c = count - m in
          let whole : count ≡ m + c = omega arith in
          let first = first-total row m some (omega arith) in
          let more : total c (λ d. digit (spread m row (m + d))) ≡ ones (row / 2) =
          total_ext c (λ d. digit (spread m row (m + d))) (λ d. digit (spread m (row / 2) d))
          (λ d l. ap digit (spread-next row d)) ∙ rest c (omega arith) in
          ap (λ (k : ℕ). total k (λ d. digit (spread m row d))) whole
          ∙ total-split m c (λ d. digit (spread m row d)) ∙ ap₂ ◌+◌ first more ∙ sym (ones_step row)

  -- up to place a, those of the bits that have come by then
  pub spread_cut : (row a : ℕ) → total (suc a) (λ d. digit (spread m row d)) ≡ ones (row % 2 ^ suc (a / m))
  spread_cut row a =
      let part = row % 2 ^ suc (a / m) in
      let last = mod-add-div' a m in
      let over = suc-mul (a / m) m in
      total_ext (suc a) (λ d. digit (spread m row d)) (λ d. digit (spread m part d))
      (λ d h.
      let whole = mod-add-div' d m in
      let in-time : d / m ≤ a / m = (le-div_iff_mul-le some).1 (omega arith) in
      ap (λ (s : Bool). digit (eqb (d % m) 0 && s)) (sym (bit-low (d / m) (suc (a / m)) row (omega arith))))
      ∙ spread-total (suc (a / m)) part (suc a) (mod-lt row (pow_pos (suc (a / m)))) (omega arith)
