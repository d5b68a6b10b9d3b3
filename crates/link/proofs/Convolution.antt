-- One stream as sequences, its blocks counted from 0: x is the blocks, P the pending word before each, and P
-- (t + 1) = (P t ⊕ image of x t) / 2. Bit 0 of P t ⊕ image of x t is then the convolution of the rows and the blocks.
-- Assumes nothing.
--
--   sum-ext, sum-false, sum-single, sum-shift, sum-xor, sum-swap   laws of the exclusive or over an index range
--   convolution-ext      the convolution of blocks that are the same
--   convolution-xor      the convolution is linear in the blocks
--   combination-bit      a bit of an image, as a sum over the rows
--   convolution-images   the convolution, by the images of the blocks
--   ago-now              block 0 back is the block itself
--   stream_convolution   the theorem
--   stream_differ        two streams that begin with the same word
--   stream_past          P t holds what the blocks before t add to the convolutions from t on
use mathlib.Core.Path.{◌≡◌, refl, sym, ap, ap₂, ◌∙◌}
use mathlib.Core.Bool.{Bool, true, false, cond, xor, ◌&&◌}
use mathlib.Core.Logic.{◌≢◌}
use mathlib.Core.List.{List, [], ◌∷◌}
use Prim.Native.Nat.{ℕ, zero, suc, ◌+◌, ◌-◌, ◌/◌, ◌^◌, ◌≤◌, ◌<◌}
use native.Mathlib.Nat.{add-zero, zero-add, div-one, mod-one}
use native.Mathlib.Decide.{dec_lt, ℕ_discrete}
use native.Mathlib.Omega.{arith}
use borrow.Author.Tests.{lt-ltb, le-ltb}
use lib.Dec.{leb, leb-zero, leb-suc-zero, leb-suc-suc}
use lib.ListN.{length, get_or}
use lib.Pow.{pow_pos, pow_mono, shr-shr}
use Rattle.span.specs.Word.{◌⊕◌, odd, bit, sel}
use Rattle.span.specs.Combination.{combination}
use Rattle.span.proofs.Word.{xor-false-l, xor-false-r, xor-comm-bool, xor-swap-bool, xor_zero_l, xor_zero_r, xor_self}
use Rattle.span.proofs.Word.{xor-swap, xor_lt, xor-half, odd-xor, bit-odd, bit-zero, bit-suc, bit-xor, bit-none}
use Rattle.span.proofs.Word.{and-false}
use Rattle.span.proofs.Combination.{combination-zero, combination-xor, combination-append, combination-last}
use Rattle.span.proofs.Combination.{combination-low}
use Rattle.link.specs.Massey.{sum_over, row_of, symbol, ago, convolution, past, past_sum, HoldsPast}

-- ---- exclusive or of two, and over a range

and_xor : (a b c : Bool) → a && xor b c ≡ xor (a && b) (a && c)
and_xor true b c = refl
and_xor false b c = sym (xor-false-l false)

pub sum-ext : (from count : ℕ) (f g : ℕ → Bool) → ((i : ℕ) → f i ≡ g i) → sum_over from count f ≡ sum_over from count g
unfolding sum_over
sum-ext from zero f g h = refl
sum-ext from (suc count) f g h = ap₂ xor (h from) (sum-ext (suc from) count f g h)

pub sum-false : (from count : ℕ) (f : ℕ → Bool) → ((i : ℕ) → f i ≡ false) → sum_over from count f ≡ false
unfolding sum_over
sum-false from zero f h = refl
sum-false from (suc count) f h = ap₂ xor (h from) (sum-false (suc from) count f h) ∙ xor-false-l false

-- a sum of which all terms but that of i are false: where the range does not reach i, and where it does
sum-other : (from count : ℕ) (f : ℕ → Bool) (i : ℕ) → i < from → ((k : ℕ) → k ≢ i → f k ≡ false)
    → sum_over from count f ≡ false
unfolding sum_over
sum-other from zero f i l h = refl
sum-other from (suc count) f i l h =
    ap₂ xor (h from (λ e. omega arith)) (sum-other (suc from) count f i (omega arith) h) ∙ xor-false-l false

pub sum-single : (from count : ℕ) (f : ℕ → Bool) (i : ℕ) → from ≤ i → i < from + count
    → ((k : ℕ) → k ≢ i → f k ≡ false) → sum_over from count f ≡ f i
unfolding sum_over
sum-single from zero f i a b h = absurd (omega arith)
sum-single from (suc count) f i a b h = go (ℕ_discrete from i) (λ l. sum-single (suc from) count f i l (omega arith) h)
  where
    go : Dec (from ≡ i) → (suc from ≤ i → sum_over (suc from) count f ≡ f i)
        → xor (f from) (sum_over (suc from) count f) ≡ f i
    go (yes e) rest =
        ap₂ xor (ap f e) (sum-other (suc from) count f i (omega arith) h) ∙ xor-false-r (f i)
    go (no e) rest = ap₂ xor (h from e) (rest (omega arith)) ∙ xor-false-l (f i)

sum-shift : (from count : ℕ) (f : ℕ → Bool) → sum_over (suc from) count f ≡ sum_over from count (λ i. f (suc i))
unfolding sum_over
sum-shift from zero f = refl
sum-shift from (suc count) f = ap (xor (f (suc from))) (sum-shift (suc from) count f)

sum_head : (from count : ℕ) (f : ℕ → Bool) → xor (f from) (sum_over (suc from) count f) ≡ sum_over from (suc count) f
unfolding sum_over
sum_head from count f = refl

sum-xor : (from count : ℕ) (f g : ℕ → Bool)
    → sum_over from count (λ i. xor (f i) (g i)) ≡ xor (sum_over from count f) (sum_over from count g)
unfolding sum_over
sum-xor from zero f g = sym (xor-false-l false)
sum-xor from (suc count) f g =
    ap (xor (xor (f from) (g from))) (sum-xor (suc from) count f g)
    ∙ xor-swap-bool (f from) (g from) (sum_over (suc from) count f) (sum_over (suc from) count g)

sum-swap : (a m b n : ℕ) (f : ℕ → ℕ → Bool)
    → sum_over a m (λ i. sum_over b n (f i)) ≡ sum_over b n (λ k. sum_over a m (λ i. f i k))
unfolding sum_over
sum-swap a zero b n f = sym (sum-false b n (λ k. false) (λ k. refl))
sum-swap a (suc m) b n f =
    ap (xor (sum_over b n (f a))) (sum-swap (suc a) m b n f)
    ∙ sym (sum-xor b n (f a) (λ k. sum_over (suc a) m (λ i. f i k)))

-- ---- linear

pub convolution-ext : (n N : ℕ) (rows : List ℕ) (x y : ℕ → ℕ) (b : ℕ) → ((i : ℕ) → x i ≡ y i)
    → convolution n N rows x b ≡ convolution n N rows y b
unfolding convolution
convolution-ext n N rows x y b h =
    sum-ext 1 n (λ j. sum_over 0 N (λ k. bit k (row_of rows j) && symbol j (ago x b k)))
    (λ j. sum_over 0 N (λ k. bit k (row_of rows j) && symbol j (ago y b k)))
    (λ j. sum-ext 0 N (λ k. bit k (row_of rows j) && symbol j (ago x b k))
    (λ k. bit k (row_of rows j) && symbol j (ago y b k))
    (λ k. ap (λ (z : ℕ). bit k (row_of rows j) && symbol j (cond (leb k b) z 0)) (h (b - k))))

ago-xor : (x y : ℕ → ℕ) (b k : ℕ) → ago (λ i. x i ⊕ y i) b k ≡ ago x b k ⊕ ago y b k
ago-xor x y b k = go (leb k b)
  where
    go : (s : Bool) → cond s (x (b - k) ⊕ y (b - k)) 0 ≡ cond s (x (b - k)) 0 ⊕ cond s (y (b - k)) 0
    go true = refl
    go false = sym (xor_zero_l 0)

pub convolution-xor : (n N : ℕ) (rows : List ℕ) (x y : ℕ → ℕ) (b : ℕ)
    → convolution n N rows (λ i. x i ⊕ y i) b ≡ xor (convolution n N rows x b) (convolution n N rows y b)
unfolding convolution
convolution-xor n N rows x y b =
    sum-ext 1 n (λ j. sum_over 0 N (term (λ i. x i ⊕ y i) j))
    (λ j. xor (sum_over 0 N (term x j)) (sum_over 0 N (term y j)))
    (λ j. sum-ext 0 N (term (λ i. x i ⊕ y i) j) (λ k. xor (term x j k) (term y j k))
    (λ k. ap (λ (z : ℕ). bit k (row_of rows j) && symbol j z) (ago-xor x y b k)
    ∙ ap (λ (s : Bool). bit k (row_of rows j) && s) (bit-xor (j - 1) (ago x b k) (ago y b k))
    ∙ and_xor (bit k (row_of rows j)) (symbol j (ago x b k)) (symbol j (ago y b k)))
    ∙ sum-xor 0 N (term x j) (term y j))
    ∙ sum-xor 1 n (λ j. sum_over 0 N (term x j)) (λ j. sum_over 0 N (term y j))
  where
    term : (ℕ → ℕ) → ℕ → ℕ → Bool
    term z j k = bit k (row_of rows j) && symbol j (ago z b k)

-- ---- a bit of an image

combination-none : (c : ℕ) → combination [] c ≡ 0
combination-none c = sym (combination-low [] c) ∙ ap (combination []) (mod-one c) ∙ combination-zero []

combination-cons : (w : ℕ) (ws : List ℕ) (c : ℕ) → combination (w ∷ ws) c ≡ sel (odd c) w ⊕ combination ws (c / 2)
combination-cons w ws c =
    combination-append (w ∷ []) ws c
    ∙ ap (λ (z : ℕ). z ⊕ combination ws (c / 2))
    (combination-last [] w c ∙ ap₂ (λ (z : ℕ) (s : Bool). z ⊕ sel s w) (combination-none c) (bit-zero c)
    ∙ xor_zero_l (sel (odd c) w))

pub bit-nothing : (k : ℕ) → bit k 0 ≡ false
bit-nothing k = bit-none k 0 (pow_pos k)

bit-sel : (k : ℕ) (s : Bool) (w : ℕ) → bit k (sel s w) ≡ bit k w && s
bit-sel k true w = go (bit k w)
  where
    go : (s : Bool) → s ≡ s && true
    go true = refl
    go false = refl
bit-sel k false w = bit-nothing k ∙ sym (and-false (bit k w))

combination-bits : (n : ℕ) (rows : List ℕ) (k c : ℕ) → length rows ≤ n
    → bit k (combination rows c) ≡ sum_over 0 n (λ i. bit k (get_or rows i 0) && bit i c)
combination-bits n [] k c h =
    ap (bit k) (combination-none c) ∙ bit-nothing k
    ∙ sym (sum-false 0 n (λ i. bit k 0 && bit i c) (λ i. ap (λ (s : Bool). s && bit i c) (bit-nothing k)))
combination-bits zero (w ∷ ws) k c h = absurd (omega arith)
combination-bits (suc n) (w ∷ ws) k c h =
    ap (bit k) (combination-cons w ws c) ∙ bit-xor k (sel (odd c) w) (combination ws (c / 2))
    ∙ ap₂ xor (bit-sel k (odd c) w ∙ ap (λ (s : Bool). bit k w && s) (sym (bit-zero c)))
    (combination-bits n ws k (c / 2) (omega arith)
    ∙ sum-ext 0 n (λ i. bit k (get_or ws i 0) && bit i (c / 2)) (λ i. bit k (get_or (w ∷ ws) (suc i) 0) && bit (suc i) c)
    (λ i. ap (λ (s : Bool). bit k (get_or ws i 0) && s) (sym (bit-suc i c)))
    ∙ sym (sum-shift 0 n (λ i. bit k (get_or (w ∷ ws) i 0) && bit i c)))
    ∙ sum_head 0 n (λ i. bit k (get_or (w ∷ ws) i 0) && bit i c)

-- rows and symbols count from 1
pub combination-bit : (n : ℕ) (rows : List ℕ) (k c : ℕ) → length rows ≤ n
    → bit k (combination rows c) ≡ sum_over 1 n (λ j. bit k (row_of rows j) && symbol j c)
combination-bit n rows k c h =
    combination-bits n rows k c h
    ∙ sum-ext 0 n (λ i. bit k (get_or rows i 0) && bit i c) (λ i. bit k (row_of rows (suc i)) && symbol (suc i) c)
    (λ i. ap (λ (p : ℕ). bit k (get_or rows p 0) && bit p c) (let e : i ≡ suc i - 1 = omega arith in e))
    ∙ sym (sum-shift 0 n (λ j. bit k (row_of rows j) && symbol j c))

pub convolution-images : (n N : ℕ) (rows : List ℕ) (x : ℕ → ℕ) (b : ℕ) → length rows ≤ n
    → convolution n N rows x b ≡ sum_over 0 N (λ k. bit k (combination rows (ago x b k)))
unfolding convolution
convolution-images n N rows x b size =
    sum-swap 1 n 0 N (λ j k. bit k (row_of rows j) && symbol j (ago x b k))
    ∙ sum-ext 0 N (λ k. sum_over 1 n (λ j. bit k (row_of rows j) && symbol j (ago x b k)))
    (λ k. bit k (combination rows (ago x b k))) (λ k. sym (combination-bit n rows k (ago x b k) size))

-- ---- the pending word

ago-none : (x : ℕ → ℕ) (k : ℕ) → ago x 0 (suc k) ≡ 0
ago-none x k = ap (λ (s : Bool). cond s (x (0 - suc k)) 0) (leb-suc-zero k)

pub ago-now : (x : ℕ → ℕ) (t : ℕ) → ago x t 0 ≡ x t
ago-now x t = ap (λ (s : Bool). cond s (x (t - 0)) 0) (leb-zero t) ∙ ap x (let e : t - 0 ≡ t = omega arith in e)

ago-later : (x : ℕ → ℕ) (t k : ℕ) → ago x (suc t) (suc k) ≡ ago x t k
ago-later x t k =
    ap₂ (λ (s : Bool) (i : ℕ). cond s (x i) 0) (leb-suc-suc k t) (let e : suc t - suc k ≡ t - k = omega arith in e)

module _ (n N : ℕ) (rows : List ℕ) (x P : ℕ → ℕ) (count : ℕ) (size : length rows ≤ n)
    (image_lt : (c : ℕ) → combination rows c < 2 ^ N) (first : P 0 ≡ 0)
    (next : (t : ℕ) → suc t < count → P (suc t) ≡ (P t ⊕ combination rows (x t)) / 2) where
  pending_lt : (t : ℕ) → t < count → P t < 2 ^ N
  pending_lt zero h = rw first (pow_pos N)
  pending_lt (suc t) h =
      let z = xor_lt N (P t) (combination rows (x t)) (pending_lt t (omega arith)) (image_lt (x t)) in
      let e = next t h in
      omega arith

  -- what block t − k puts at bit i of the word of block t
  abbrev put : ℕ → ℕ → ℕ → Bool
  put t i k = bit (i + k) (combination rows (ago x t k))

  put-now : (t i M : ℕ) → bit i (P t) ≡ sum_over 0 M (λ k. put t i (suc k))
      → bit i (P t ⊕ combination rows (x t)) ≡ sum_over 0 (suc M) (put t i)
  put-now t i M rest =
      bit-xor i (P t) (combination rows (x t)) ∙ xor-comm-bool (bit i (P t)) (bit i (combination rows (x t)))
      ∙ ap₂ xor (ap₂ (λ (p c : ℕ). bit p (combination rows c)) (sym (add-zero i)) (sym (ago-now x t)))
      (rest ∙ sym (sum-shift 0 M (put t i)))
      ∙ sum_head 0 M (put t i)

  -- bit i of that word is what the blocks back to the start put there, as far as their images reach, if it is so of P t
  joined-bit : (t i M : ℕ) → N ≤ i + M → t < count
      → ((K : ℕ) → N ≤ i + suc K → bit i (P t) ≡ sum_over 0 K (λ k. put t i (suc k)))
      → bit i (P t ⊕ combination rows (x t)) ≡ sum_over 0 M (put t i)
  unfolding sum_over
  joined-bit t i zero e h rest =
      let low = xor_lt N (P t) (combination rows (x t)) (pending_lt t h) (image_lt (x t)) in
      let reach : N ≤ i = omega arith in
      let most = pow_mono reach in
      bit-none i (P t ⊕ combination rows (x t)) (omega arith)
  joined-bit t i (suc M) e h rest = put-now t i M (rest M e)

  -- it is so of P t
  pending-bit : (t i M : ℕ) → N ≤ i + suc M → t < count → bit i (P t) ≡ sum_over 0 M (λ k. put t i (suc k))
  pending-bit zero i M e h =
      ap (bit i) first ∙ bit-nothing i
      ∙ sym (sum-false 0 M (λ k. put 0 i (suc k))
      (λ k. ap (λ (c : ℕ). bit (i + suc k) (combination rows c)) (ago-none x k)
      ∙ ap (bit (i + suc k)) (combination-zero rows) ∙ bit-nothing (i + suc k)))
  pending-bit (suc t) i M e h =
      ap (bit i) (next t h) ∙ sym (bit-suc i (P t ⊕ combination rows (x t)))
      ∙ joined-bit t (suc i) M (omega arith) (omega arith) (λ K f. pending-bit t (suc i) K f (omega arith))
      ∙ sum-ext 0 M (put t (suc i)) (λ k. put (suc t) i (suc k))
      (λ k. ap₂ (λ (p c : ℕ). bit p (combination rows c)) (let z : suc i + k ≡ i + suc k = omega arith in z)
      (sym (ago-later x t k)))

  pending-past : (t : ℕ) → t < count → (k : ℕ) → bit k (P t) ≡ past_sum n N rows x t k
  unfolding past_sum
  pending-past t h k =
      pending-bit t k (N - 1) (omega arith) h ∙ sym (sum-shift 0 (N - 1) (put t k))
      ∙ sum-ext 1 (N - 1) (put t k) (λ i. sum_over 1 n (λ j. bit (k + i) (row_of rows j) && symbol j (ago x t i)))
      (λ i. combination-bit n rows (k + i) (ago x t i) size)
      ∙ sym (sum-swap 1 n 1 (N - 1) (λ j i. bit (k + i) (row_of rows j) && symbol j (ago x t i)))

  pub stream_convolution : (t : ℕ) → t < count → odd (P t ⊕ combination rows (x t)) ≡ convolution n N rows x t
  stream_convolution t h =
      sym (bit-zero (P t ⊕ combination rows (x t))) ∙ joined-bit t 0 N (omega arith) h (λ K f. pending-bit t 0 K f h)
      ∙ sum-ext 0 N (put t 0) (λ k. bit k (combination rows (ago x t k)))
      (λ k. ap (λ (p : ℕ). bit p (combination rows (ago x t k))) (zero-add k))
      ∙ sym (convolution-images n N rows x t size)

-- Two streams that begin with the same pending word: their parities differ by the convolution of what their blocks
-- differ by.
module _ (n N : ℕ) (rows : List ℕ) (x y P Q : ℕ → ℕ) (count : ℕ) (size : length rows ≤ n)
    (image_lt : (c : ℕ) → combination rows c < 2 ^ N) (first : P 0 ≡ Q 0)
    (next : (t : ℕ) → suc t < count → P (suc t) ≡ (P t ⊕ combination rows (x t)) / 2)
    (next' : (t : ℕ) → suc t < count → Q (suc t) ≡ (Q t ⊕ combination rows (y t)) / 2) where
  both : (t : ℕ) → P t ⊕ combination rows (x t) ⊕ (Q t ⊕ combination rows (y t))
      ≡ P t ⊕ Q t ⊕ combination rows (x t ⊕ y t)
  both t =
      xor-swap (P t) (combination rows (x t)) (Q t) (combination rows (y t))
      ∙ ap (λ (z : ℕ). P t ⊕ Q t ⊕ z) (sym (combination-xor rows (x t) (y t)))

  pub stream_differ : (t : ℕ) → t < count
      → xor (odd (P t ⊕ combination rows (x t))) (odd (Q t ⊕ combination rows (y t)))
      ≡ convolution n N rows (λ i. x i ⊕ y i) t
  stream_differ t h =
      sym (odd-xor (P t ⊕ combination rows (x t)) (Q t ⊕ combination rows (y t))) ∙ ap odd (both t)
      ∙ stream_convolution n N rows (λ i. x i ⊕ y i) (λ i. P i ⊕ Q i) count size image_lt
      (ap (λ (z : ℕ). z ⊕ Q 0) first ∙ xor_self (Q 0))
      (λ k l. ap₂ ◌⊕◌ (next k l) (next' k l)
      ∙ sym (xor-half (P k ⊕ combination rows (x k)) (Q k ⊕ combination rows (y k)))
      ∙ ap (λ (z : ℕ). z / 2) (both k)) t h

-- The blocks before block t alone. Their pending words are P up to block t; then nothing joins, and each is the one
-- before it halved.
module _ (n N : ℕ) (rows : List ℕ) (x P : ℕ → ℕ) (count : ℕ) (size : length rows ≤ n)
    (image_lt : (c : ℕ) → combination rows c < 2 ^ N) (first : P 0 ≡ 0)
    (next : (t : ℕ) → suc t < count → P (suc t) ≡ (P t ⊕ combination rows (x t)) / 2) (t : ℕ) (h : t < count) where
  past-before : (c : ℕ) → c < t → past x t c ≡ x c
  past-before c l = ap (λ (s : Bool). cond s (x c) 0) (lt-ltb c t l)

  past_after : (c : ℕ) → t ≤ c → combination rows (past x t c) ≡ 0
  past_after c l = ap (λ (s : Bool). combination rows (cond s (x c) 0)) (le-ltb c t l) ∙ combination-zero rows

  left : ℕ → ℕ
  left c = P (c - (c - t)) / 2 ^ (c - t)

  left-before : (c : ℕ) → c ≤ t → left c ≡ P c
  unfolding left
  left-before c l =
      ap₂ (λ (i d : ℕ). P i / 2 ^ d) (let e : c - (c - t) ≡ c = omega arith in e) (let e : c - t ≡ 0 = omega arith in e)
      ∙ div-one (P c)

  left_after : (d : ℕ) → left (t + d) ≡ P t / 2 ^ d
  unfolding left
  left_after d =
      ap₂ (λ (i d : ℕ). P i / 2 ^ d) (let e : t + d - (t + d - t) ≡ t = omega arith in e)
      (let e : t + d - t ≡ d = omega arith in e)

  left-joined : (c : ℕ) → t ≤ c → left c ⊕ combination rows (past x t c) ≡ left c
  left-joined c l = ap (λ (z : ℕ). left c ⊕ z) (past_after c l) ∙ xor_zero_r (left c)

  left-next : (c : ℕ) → left (suc c) ≡ (left c ⊕ combination rows (past x t c)) / 2
  left-next c = go (dec_lt c t)
    where
      go : Dec (c < t) → left (suc c) ≡ (left c ⊕ combination rows (past x t c)) / 2
      go (yes l) =
          left-before (suc c) (omega arith) ∙ next c (omega arith)
          ∙ sym (ap₂ (λ (p z : ℕ). (p ⊕ combination rows z) / 2) (left-before c (omega arith)) (past-before c l))
      go (no l) =
          let d = c - t in
          let here : t + d ≡ c = omega arith in
          let on : suc c ≡ t + (d + 1) = omega arith in
          ap left on ∙ left_after (d + 1) ∙ sym (shr-shr (P t) d 1)
          ∙ sym (ap (λ (z : ℕ). z / 2) (left-joined c (omega arith) ∙ ap left (sym here) ∙ left_after d))

  past-bit : (k : ℕ) → bit k (P t) ≡ convolution n N rows (past x t) (t + k)
  past-bit k =
      bit-odd k (P t) ∙ ap odd (sym (left-joined (t + k) (omega arith) ∙ left_after k))
      ∙ stream_convolution n N rows (past x t) left (suc (t + k)) size image_lt (left-before 0 (omega arith) ∙ first)
      (λ c l. left-next c) (t + k) (omega arith)

  pub stream_past : HoldsPast n N rows x t (P t)
  stream_past k = (past-bit k, pending-past n N rows x P count size image_lt first next t h k)
