-- The theorem of Berlekamp and Preparata, which 001 leaves as Problem 21.1: a suitable table from a triangle has
-- exactly one column that makes the next one suitable. Assumes nothing.
--
-- An image of the larger table is twice one of the smaller, the column's parity with the block at the top, and the last
-- symbol at bit 0. So a clash of the larger table is a clash of the smaller, or a pair of blocks that meets at 2^k for
-- the shift k + 1 of the smaller (`Meets`) and whose first block has with the column the one parity that is not allowed
-- (`Free`). The smaller table is suitable, so each k below n has exactly one pair. The first blocks of the n pairs are
-- independent: in a sum of them, the least k is seen at bit k, where no shifted image of the sum has a one. So the n
-- parities that are asked of the column have exactly one solution.
use mathlib.Core.Path.{◌≡◌, refl, sym, ap, ap₂, ◌∙◌, subst}
use mathlib.Core.Bool.{Bool, true, false, xor, not, true≢false, false≢true}
use mathlib.Core.Logic.{◌≢◌}
use mathlib.Core.List.{List, [], ◌∷◌, ◌++◌}
use Prim.Native.Nat.{ℕ, zero, suc, ◌+◌, ◌-◌, ◌*◌, ◌/◌, ◌%◌, ◌^◌, ◌≤◌, ◌<◌}
use native.Mathlib.Nat.{le_refl, le_of_eq, le_of_lt, lt_of_le_of_lt, zero-lt-suc, add-zero, zero-mod, mod-one, zero-mul}
use native.Mathlib.Nat.{mod-lt, mod-eq_of_lt, mul-div_right}
use native.Mathlib.Decide.{dec_le, ℕ_discrete}
use native.Mathlib.Omega.{arith}
use lib.ListN.{length, get_or, get_or-eq_default}
use lib.Pow.{pow_pos, pow-lt, pow-add, shr_lt, shr_le, split}
use Rattle.span.specs.Word.{◌⊕◌, odd, bit, sel, common_parity, shifted}
use Rattle.span.specs.Combination.{combination, Below}
use Rattle.span.proofs.Word.{xor_assoc, xor_comm, xor_self, xor_zero_l, xor_zero_r, xor-twice, xor-eq, xor_lt, xor-swap}
use Rattle.span.proofs.Word.{xor_mod, xor_shr, xor-shl, odd-of, odd-digit, odd-xor, xor-half, bit-xor, bit-none}
use Rattle.span.proofs.Word.{bit-pow, sel-lt, shifted-xor, shifted-lt, parity-xor, parity-pow, parity-top, xor-false-l}
use Rattle.span.proofs.Word.{digit-half}
use Rattle.span.proofs.Combination.{combination-xor, combination-pow, combination-lt}
use Rattle.tables.specs.Made.{triangle_rows, Triangle}
use Rattle.tables.specs.Triangle.{FillingLaw}
use Rattle.tables.specs.Code.{image, shifted_image, Clashes, Suitable}
use Rattle.tables.proofs.Triangle.{Triangular, Extends, triangular, extends, image-xor, image-row, image_lt}
use Rattle.tables.proofs.Triangle.{image-low, image-zero}
use Rattle.span.proofs.Linear.{xor-double, xor-cancel, sel-double, shifted-low, shifted-double, shifted-out}
use Rattle.span.proofs.Linear.{shifted_one, parity-xor-r, top-none, bit-sel, Linear, linear-join, linear-sel}
use Rattle.span.proofs.Linear.{linear-same, linear-onto, linear-different, listed, length-listed, get_or-listed, packed}
use Rattle.span.proofs.Linear.{packed-same, packed-xor, packed-bit, packed_lt, bits_none, parity-same, shifted-kernel}

-- ---- an image in the larger table has three parts

-- twice an image of the smaller table, the bit of the column, and the last row
joined : (n x : ℕ) (s b : Bool) → ℕ
joined n x s b = 2 * x ⊕ sel s (2 ^ suc (2 * n)) ⊕ sel b 1

joined-twice : (n x : ℕ) (s b : Bool) → joined n x s b ≡ 2 * (x ⊕ sel s (2 ^ (2 * n))) ⊕ sel b 1
unfolding joined
joined-twice n x s b =
    ap (λ (y : ℕ). y ⊕ sel b 1)
    (ap (λ (y : ℕ). 2 * x ⊕ y) (sym (sel-double s (2 * n))) ∙ sym (xor-double x (sel s (2 ^ (2 * n)))))

joined_odd : (n x : ℕ) (s b : Bool) → odd (joined n x s b) ≡ b
joined_odd n x s b =
    let w = x ⊕ sel s (2 ^ (2 * n)) in
    ap odd (joined-twice n x s b) ∙ odd-xor (2 * w) (sel b 1)
    ∙ ap₂ xor (odd-of false (2 * w) (omega arith)) (odd-digit b) ∙ xor-false-l b

joined_half : (n x : ℕ) (s b : Bool) → joined n x s b / 2 ≡ x ⊕ sel s (2 ^ (2 * n))
joined_half n x s b =
    let w = x ⊕ sel s (2 ^ (2 * n)) in
    ap (λ (y : ℕ). y / 2) (joined-twice n x s b) ∙ xor-half (2 * w) (sel b 1)
    ∙ ap₂ ◌⊕◌ (mul-div_right w (zero-lt-suc 1)) (digit-half b) ∙ xor_zero_r w

top_bit : (m x : ℕ) (s : Bool) → x < 2 ^ m → bit m (x ⊕ sel s (2 ^ m)) ≡ s
top_bit m x s h = bit-xor m x (sel s (2 ^ m)) ∙ ap₂ xor (bit-none m x h) (bit-sel m s) ∙ xor-false-l s

-- the parts are determined
joined-parts : (n x y : ℕ) (s t b : Bool) → x < 2 ^ (2 * n) → y < 2 ^ (2 * n) → joined n x s b ≡ joined n y t false
    → (b ≡ false) × (x ≡ y) × (s ≡ t)
joined-parts n x y s t b hx hy e =
    let half : x ⊕ sel s (2 ^ (2 * n)) ≡ y ⊕ sel t (2 ^ (2 * n)) =
    sym (joined_half n x s b) ∙ ap (λ (z : ℕ). z / 2) e ∙ joined_half n y t false
    in
    let top : s ≡ t = sym (top_bit (2 * n) x s hx) ∙ ap (bit (2 * n)) half ∙ top_bit (2 * n) y t hy in (
      sym (joined_odd n x s b) ∙ ap odd e ∙ joined_odd n y t false,
      xor-cancel x y (sel t (2 ^ (2 * n))) (ap (λ (u : Bool). x ⊕ sel u (2 ^ (2 * n))) (sym top) ∙ half),
      top,
    )

-- shifting drops the bit of the column, and makes room for the top bit of the smaller image
shifted-joined : (n k x : ℕ) (s b : Bool) → k < n
    → shifted (2 * suc n) (suc k) (joined n x s b)
    ≡ joined n (shifted (2 * n) (suc k) x ⊕ sel b (2 ^ k)) (bit (2 * n - suc k) x) false
unfolding joined
shifted-joined n k x s b h =
    let m = 2 * n - suc k in
    let l = suc k in
    let fits : m + l ≡ 2 * n = omega arith in
    let wide : 2 * suc n ≡ suc (suc m) + l = omega arith in
    let y = shifted (2 * n) l x in
    let u = sel (bit m x) (2 ^ suc (2 * n)) in
    let v = sel b (2 ^ k) in
    let first : shifted (suc (suc m) + l) l (2 * x) ≡ 2 * y ⊕ u =
    subst (λ (N : ℕ). shifted (suc (suc m) + l) l (2 * x) ≡ 2 * shifted N l x ⊕ sel (bit m x) (2 ^ suc N)) fits
    (shifted-double m l x)
    in
    let second : shifted (suc (suc m) + l) l (sel s (2 ^ suc (2 * n))) ≡ 0 =
    shifted-out (suc (suc m)) l (suc (2 * n)) s (omega arith) in
    let third : shifted (suc (suc m) + l) l (sel b 1) ≡ 2 * v = shifted_one (suc m) l b ∙ sym (sel-double b k) in
    ap (λ (N : ℕ). shifted N l (2 * x ⊕ sel s (2 ^ suc (2 * n)) ⊕ sel b 1)) wide
    ∙ shifted-xor (suc (suc m) + l) l (2 * x ⊕ sel s (2 ^ suc (2 * n))) (sel b 1)
    ∙ ap₂ ◌⊕◌ (shifted-xor (suc (suc m) + l) l (2 * x) (sel s (2 ^ suc (2 * n))) ∙ ap₂ ◌⊕◌ first second
    ∙ xor_zero_r (2 * y ⊕ u)) third
    ∙ xor_assoc (2 * y) u (2 * v) ∙ ap (λ (z : ℕ). 2 * y ⊕ z) (xor_comm u (2 * v)) ∙ sym (xor_assoc (2 * y) (2 * v) u)
    ∙ ap (λ (z : ℕ). z ⊕ u) (sym (xor-double y v))
    ∙ sym (xor_zero_r (2 * (y ⊕ v) ⊕ u))

joined_same : (n x y : ℕ) (s t b c : Bool) → x ≡ y → s ≡ t → b ≡ c → joined n x s b ≡ joined n y t c
joined_same n x y s t b c e f g = cc

module _ (n a : ℕ) (rs ts : List ℕ) (T : Triangular n rs) (E : Extends n a rs ts) where
  parts-xor : Linear (λ e. joined n (image rs e) (common_parity n a e) (bit n e))
  unfolding joined
  parts-xor =
      linear-join (λ e. 2 * image rs e ⊕ sel (common_parity n a e) (2 ^ suc (2 * n))) (λ e. sel (bit n e) 1)
      (linear-join (λ e. 2 * image rs e) (λ e. sel (common_parity n a e) (2 ^ suc (2 * n)))
      (λ x y. ap (λ (z : ℕ). 2 * z) (image-xor rs x y) ∙ xor-double (image rs x) (image rs y))
      (linear-sel (common_parity n a) (parity-xor-r n a) (2 ^ suc (2 * n))))
      (linear-sel (bit n) (bit-xor n) 1)

  parts-row : (i : ℕ) → i < n
      → image ts (2 ^ i) ≡ joined n (image rs (2 ^ i)) (common_parity n a (2 ^ i)) (bit n (2 ^ i))
  unfolding joined
  parts-row i h =
      rw (image-row ts i, image-row rs i, parity-pow n i a h, bit-none n (2 ^ i) (pow-lt h))
      (E.row i h ∙ sym (xor_zero_r (2 * get_or rs i 0 ⊕ sel (bit i a) (2 ^ suc (2 * n)))))

  parts_last : image ts (2 ^ n) ≡ joined n (image rs (2 ^ n)) (common_parity n a (2 ^ n)) (bit n (2 ^ n))
  unfolding joined
  parts_last =
      let none : get_or rs n 0 ≡ 0 = get_or-eq_default rs 0 (le_of_eq T.size) in
      rw (image-row ts n, image-row rs n, none, parity-top n a, bit-pow n)
      (E.last ∙ sym (ap (λ (y : ℕ). y ⊕ 1) (xor_zero_l 0) ∙ xor_zero_l 1))

  parts : (e : ℕ) → e < 2 ^ suc n → image ts e ≡ joined n (image rs e) (common_parity n a e) (bit n e)
  parts =
      linear-same (image ts) (λ e. joined n (image rs e) (common_parity n a e) (bit n e)) (image-xor ts) parts-xor
      (suc n) (λ i h. go i h (dec_le (suc i) n))
    where
      go : (i : ℕ) → i < suc n → Dec (i < n)
          → image ts (2 ^ i) ≡ joined n (image rs (2 ^ i)) (common_parity n a (2 ^ i)) (bit n (2 ^ i))
      go i h (yes l) = parts-row i l
      go i h (no l) =
          subst (λ (i : ℕ). image ts (2 ^ i) ≡ joined n (image rs (2 ^ i)) (common_parity n a (2 ^ i)) (bit n (2 ^ i)))
          (omega arith) parts_last

  -- what it takes to look alike
  alike-parts : (k e0 e1 : ℕ) → k < n → e0 < 2 ^ suc n → e1 < 2 ^ suc n
      → image ts e0 ≡ shifted (2 * suc n) (suc k) (image ts e1)
      → (bit n e0 ≡ false) × (image rs e0 ≡ shifted (2 * n) (suc k) (image rs e1) ⊕ sel (bit n e1) (2 ^ k))
      × (common_parity n a e0 ≡ bit (2 * n - suc k) (image rs e1))
  alike-parts k e0 e1 h h0 h1 e =
      joined-parts n (image rs e0) (shifted (2 * n) (suc k) (image rs e1) ⊕ sel (bit n e1) (2 ^ k))
      (common_parity n a e0)
      (bit (2 * n - suc k) (image rs e1)) (bit n e0) (image_lt n rs T e0)
      (xor_lt (2 * n) (shifted (2 * n) (suc k) (image rs e1)) (sel (bit n e1) (2 ^ k))
      (shifted-lt (2 * n) (suc k) (image rs e1))
      (sel-lt (2 * n) (bit n e1) (2 ^ k) (pow-lt (omega arith))))
      (sym (parts e0 h0) ∙ e ∙ ap (shifted (2 * suc n) (suc k)) (parts e1 h1)
      ∙ shifted-joined n k (image rs e1) (common_parity n a e1) (bit n e1) h)

  parts-alike : (k e0 e1 : ℕ) → k < n → e0 < 2 ^ suc n → e1 < 2 ^ suc n
      → bit n e0 ≡ false → image rs e0 ≡ shifted (2 * n) (suc k) (image rs e1) ⊕ sel (bit n e1) (2 ^ k)
      → common_parity n a e0 ≡ bit (2 * n - suc k) (image rs e1)
      → image ts e0 ≡ shifted (2 * suc n) (suc k) (image ts e1)
  parts-alike k e0 e1 h h0 h1 b i p =
      parts e0 h0
      ∙ joined_same n (image rs e0) (shifted (2 * n) (suc k) (image rs e1) ⊕ sel (bit n e1) (2 ^ k))
      (common_parity n a e0)
      (bit (2 * n - suc k) (image rs e1)) (bit n e0) false i p b
      ∙ sym (shifted-joined n k (image rs e1) (common_parity n a e1) (bit n e1) h)
      ∙ sym (ap (shifted (2 * suc n) (suc k)) (parts e1 h1))

-- ---- the pairs that a column is asked about

-- p and q meet at 2^k
record Meets (n : ℕ) (rs : List ℕ) (k p q : ℕ) : Type 0 where
  first : p < 2 ^ n
  second : q < 2 ^ n
  sum : image rs p ⊕ shifted (2 * n) (suc k) (image rs q) ≡ 2 ^ k

-- no such pair looks alike under column a
abbrev Free : ℕ → ℕ → List ℕ → Type 0
Free n a rs = (k p q : ℕ) → k < n → Meets n rs k p q → common_parity n a p ≢ bit (2 * n - suc k) (image rs q)

-- a shifted word is not a single one below the shift
shifted-not-pow : (N k x : ℕ) → k < N → shifted N (suc k) x ≡ 2 ^ k → ⊥
shifted-not-pow N k x h e =
    let p = pow_pos k in
    let z : 2 ^ k ≡ 0 =
    sym (mod-eq_of_lt (pow-lt (le_refl (suc k)))) ∙ ap (λ (y : ℕ). y % 2 ^ suc k) (sym e)
    ∙ shifted-low N (suc k) (suc k) x h (le_refl (suc k))
    in
    omega arith

meets-some : (n : ℕ) (rs : List ℕ) (k p q : ℕ) → k < n → Meets n rs k p q → p ≢ 0
meets-some n rs k p q h m e =
    shifted-not-pow (2 * n) k (image rs q) (omega arith)
    (sym (xor_zero_l (shifted (2 * n) (suc k) (image rs q)))
    ∙ ap (λ (y : ℕ). y ⊕ shifted (2 * n) (suc k) (image rs q)) (sym (ap (image rs) e ∙ image-zero rs)) ∙ m.sum)

xor-move : (x y z : ℕ) → x ⊕ y ≡ z → x ≡ y ⊕ z
xor-move x y z e = sym (xor-twice y x) ∙ ap (λ (w : ℕ). y ⊕ w) (xor_comm y x ∙ e)

-- a shift by n or more leaves the low n bits 0, so it clashes with nothing (001)
late-shift : (n : ℕ) (rs : List ℕ) → Triangular n rs → (l e0 e1 : ℕ) → n ≤ l → Clashes (2 * n) rs l e0 e1 → ⊥
unfolding shifted_image
late-shift n rs T l e0 e1 h c =
    c.first_some (T.low e0 (rw (← T.size) c.first_block)
    (ap (λ (y : ℕ). y % 2 ^ n) c.alike ∙ shifted-low (2 * n) l n (image rs e1) (le_of_lt c.shift_to) h))

module _ (n a : ℕ) (rs ts : List ℕ) (T : Triangular n rs) (U : Triangular (suc n) ts) (E : Extends n a rs ts) where
  -- a pair that looks alike is a clash of the larger table, the last symbol of the second block set
  suitable-free : Suitable (2 * suc n) ts → Free n a rs
  unfolding shifted_image
  suitable-free suitable k p q h m e =
      let wide : p < 2 ^ suc n = let l = m.first in omega arith in
      let set : 2 ^ n ⊕ q < 2 ^ suc n =
      xor_lt (suc n) (2 ^ n) q (pow-lt (le_refl (suc n))) (let l = m.second in omega arith) in
      let same : image rs (2 ^ n ⊕ q) ≡ image rs q =
      image-xor rs (2 ^ n) q
      ∙ ap (λ (y : ℕ). y ⊕ image rs q) (image-row rs n ∙ get_or-eq_default rs 0 (le_of_eq T.size))
      ∙ xor_zero_l (image rs q)
      in
      let one : bit n (2 ^ n ⊕ q) ≡ true =
      ap (bit n) (xor_comm (2 ^ n) q) ∙ top_bit n q true m.second
      in
      suitable (suc k) p (2 ^ n ⊕ q) (record {
        shift_from = omega arith;
        shift_to = omega arith;
        first_some = meets-some n rs k p q h m;
        first_block = rw U.size wide;
        second_block = rw U.size set;
        alike =
            parts-alike n a rs ts T E k p (2 ^ n ⊕ q) h wide set (bit-none n p m.first)
            (rw (same, one) (xor-move (image rs p) (shifted (2 * n) (suc k) (image rs q)) (2 ^ k) m.sum))
            (rw same e);
      })

  -- and there is no other clash
  module _ (suitable : Suitable (2 * n) rs) (free : Free n a rs) where
    no-clash : (k e0 e1 : ℕ) → k < n → e0 ≢ 0 → e0 < 2 ^ suc n → e1 < 2 ^ suc n
        → image ts e0 ≡ shifted (2 * suc n) (suc k) (image ts e1) → (b : Bool) → bit n e1 ≡ b → ⊥
    unfolding shifted_image
    no-clash k e0 e1 h some h0 h1 alike true e =
        let r = alike-parts n a rs ts T E k e0 e1 h h0 h1 alike in
        let q = e1 % 2 ^ n in
        let same : image rs q ≡ image rs e1 = image-low n rs T e1 in
        let sum : image rs e0 ⊕ shifted (2 * n) (suc k) (image rs q) ≡ 2 ^ k =
        ap₂ (λ (x y : ℕ). x ⊕ shifted (2 * n) (suc k) y)
        (r.1 ∙ ap (λ (s : Bool). shifted (2 * n) (suc k) (image rs e1) ⊕ sel s (2 ^ k)) e) same
        ∙ xor_comm (shifted (2 * n) (suc k) (image rs e1) ⊕ 2 ^ k) (shifted (2 * n) (suc k) (image rs e1))
        ∙ xor-twice (shifted (2 * n) (suc k) (image rs e1)) (2 ^ k)
        in
        free k e0 q h (record { first = top-none n e0 h0 r.0; second = mod-lt e1 (pow_pos n); sum = sum })
        (rw same r.2)
    no-clash k e0 e1 h some h0 h1 alike false e =
        let r = alike-parts n a rs ts T E k e0 e1 h h0 h1 alike in
        suitable (suc k) e0 e1 (record {
          shift_from = omega arith;
          shift_to = omega arith;
          first_some = some;
          first_block = rw T.size (top-none n e0 h0 r.0);
          second_block = rw T.size (top-none n e1 h1 e);
          alike =
              r.1 ∙ ap (λ (s : Bool). shifted (2 * n) (suc k) (image rs e1) ⊕ sel s (2 ^ k)) e
              ∙ xor_zero_r (shifted (2 * n) (suc k) (image rs e1));
        })

    free-suitable : Suitable (2 * suc n) ts
    unfolding shifted_image
    free-suitable zero e0 e1 c = absurd (let l = c.shift_from in omega arith)
    free-suitable (suc k) e0 e1 c =
        go (dec_le (suc k) n)
      where
        go : Dec (k < n) → ⊥
        go (yes h) =
            no-clash k e0 e1 h c.first_some (rw (← U.size) c.first_block) (rw (← U.size) c.second_block)
            c.alike (bit n e1) refl
        go (no h) = late-shift (suc n) ts U (suc k) e0 e1 (omega arith) c

-- ---- for each shift there is exactly one pair

module _ (n : ℕ) (rs : List ℕ) (T : Triangular n rs) (suitable : Suitable (2 * n) rs) where
  meet : ℕ → ℕ → ℕ → ℕ
  meet k p q = image rs p ⊕ shifted (2 * n) (suc k) (image rs q)

  meet-none : (k p q : ℕ) → k < n → p < 2 ^ n → q < 2 ^ n → meet k p q ≡ 0 → (p ≡ 0) × (q ≡ 0)
  unfolding meet shifted_image
  meet-none k p q h hp hq e = go (ℕ_discrete p 0)
    where
      go : Dec (p ≡ 0) → (p ≡ 0) × (q ≡ 0)
      go (yes none) =
          let rest : shifted (2 * n) (suc k) (image rs q) ≡ 0 =
          sym (xor_zero_l (shifted (2 * n) (suc k) (image rs q)))
          ∙ ap (λ (y : ℕ). y ⊕ shifted (2 * n) (suc k) (image rs q)) (sym (ap (image rs) none ∙ image-zero rs)) ∙ e
          in
          (none, T.low q hq (shifted-kernel (2 * n) (suc k) n (image rs q) (omega arith) rest))
      go (no some) =
          absurd (suitable (suc k) p q (record {
            shift_from = omega arith;
            shift_to = omega arith;
            first_some = some;
            first_block = rw T.size hp;
            second_block = rw T.size hq;
            alike = xor-eq (image rs p) (shifted (2 * n) (suc k) (image rs q)) e;
          }))

  meet-xor : (k p q r s : ℕ) → meet k (p ⊕ r) (q ⊕ s) ≡ meet k p q ⊕ meet k r s
  unfolding meet
  meet-xor k p q r s =
      ap₂ ◌⊕◌ (image-xor rs p r)
      (ap (shifted (2 * n) (suc k)) (image-xor rs q s) ∙ shifted-xor (2 * n) (suc k) (image rs q) (image rs s))
      ∙ xor-swap (image rs p) (image rs r) (shifted (2 * n) (suc k) (image rs q)) (shifted (2 * n) (suc k) (image rs s))

  meets-unique : (k p q r s : ℕ) → k < n → Meets n rs k p q → Meets n rs k r s → (p ≡ r) × (q ≡ s)
  unfolding meet
  meets-unique k p q r s h m o =
      let none =
      meet-none k (p ⊕ r) (q ⊕ s) h (xor_lt n p r m.first o.first) (xor_lt n q s m.second o.second)
      (meet-xor k p q r s ∙ ap₂ ◌⊕◌ m.sum o.sum ∙ xor_self (2 ^ k))
      in
      (xor-eq p r none.0, xor-eq q s none.1)

  -- both blocks in one number
  both : ℕ → ℕ → ℕ
  both k c = meet k (c % 2 ^ n) (c / 2 ^ n)

  both-xor : (k : ℕ) → Linear (both k)
  unfolding both
  both-xor k c d =
      ap₂ (meet k) (xor_mod c d n) (xor_shr c d n) ∙ meet-xor k (c % 2 ^ n) (c / 2 ^ n) (d % 2 ^ n) (d / 2 ^ n)

  both-lt : (k c : ℕ) → both k c < 2 ^ (2 * n)
  unfolding both meet
  both-lt k c =
      xor_lt (2 * n) (image rs (c % 2 ^ n)) (shifted (2 * n) (suc k) (image rs (c / 2 ^ n)))
      (image_lt n rs T (c % 2 ^ n))
      (shifted-lt (2 * n) (suc k) (image rs (c / 2 ^ n)))

  second_lt : (c : ℕ) → c < 2 ^ (2 * n) → c / 2 ^ n < 2 ^ n
  second_lt c h = shr_lt n n (subst (λ (m : ℕ). c < 2 ^ m) (omega arith) h)

  both-none : (k : ℕ) → k < n → (c : ℕ) → c < 2 ^ (2 * n) → both k c ≡ 0 → c ≡ 0
  unfolding both
  both-none k h c l e =
      let none = meet-none k (c % 2 ^ n) (c / 2 ^ n) h (mod-lt c (pow_pos n)) (second_lt c l) e in
      sym (split c n) ∙ ap₂ (λ (x y : ℕ). x * 2 ^ n + y) none.1 none.0 ∙ add-zero (0 * 2 ^ n) ∙ zero-mul (2 ^ n)

  meets-some-pair : (k : ℕ) → k < n → (p : ℕ) × (q : ℕ) × Meets n rs k p q
  unfolding both meet
  meets-some-pair k h =
      let r =
      linear-onto (2 * n) (both k) (both-xor k) (λ c l. both-lt k c) (both-none k h) (2 ^ k) (pow-lt (omega arith)) in (
        r.0 % 2 ^ n,
        r.0 / 2 ^ n,
        record { first = mod-lt r.0 (pow_pos n); second = second_lt r.0 r.1; sum = r.2 },
      )

-- ---- the first blocks of the pairs are independent, so they fix a column

linear-none : Linear (λ _. 0)
linear-none a b = sym (xor_zero_l 0)

get_or-listed-past : (f : ℕ → ℕ) (k i : ℕ) → k ≤ i → get_or (listed f k) i 0 ≡ 0
get_or-listed-past f k i h = get_or-eq_default (listed f k) 0 (rw (length-listed f k) h)

module _ (n : ℕ) (rs : List ℕ) (P Q : ℕ → ℕ) (meets : (k : ℕ) → k < n → Meets n rs k (P k) (Q k)) where
  -- the sum of the first blocks of a set of shifts, and that of the shifted images of the second ones
  firsts : ℕ → ℕ
  firsts c = combination (listed P n) c

  shiftedOf : ℕ → ℕ
  shiftedOf k = shifted (2 * n) (suc k) (image rs (Q k))

  seconds : ℕ → ℕ
  seconds c = combination (listed shiftedOf n) c

  firsts-xor : Linear firsts
  unfolding firsts
  firsts-xor = combination-xor (listed P n)

  firsts-one : (k : ℕ) → k < n → firsts (2 ^ k) ≡ P k
  unfolding firsts
  firsts-one k h = combination-pow (listed P n) k ∙ get_or-listed P n k h

  firsts-lt : (c : ℕ) → c < 2 ^ n → firsts c < 2 ^ n
  unfolding firsts
  firsts-lt c h = combination-lt n (listed P n) c bound
    where
      bound : Below n (listed P n)
      bound i l =
          let p : i < n = rw (length-listed P n) at l in
          subst (λ (x : ℕ). x < 2 ^ n) (sym (get_or-listed P n i p)) (meets i p).first

  seconds-xor : Linear seconds
  unfolding seconds
  seconds-xor = combination-xor (listed shiftedOf n)

  -- together they sum to the set itself
  balance : (c : ℕ) → c < 2 ^ n → image rs (firsts c) ⊕ seconds c ≡ c
  unfolding seconds shiftedOf
  balance =
      linear-same (λ c. image rs (firsts c) ⊕ seconds c) (λ c. c)
      (linear-join (λ c. image rs (firsts c)) seconds
      (λ a b. ap (image rs) (firsts-xor a b) ∙ image-xor rs (firsts a) (firsts b)) seconds-xor)
      (λ a b. refl) n
      (λ k h. ap₂ ◌⊕◌ (ap (image rs) (firsts-one k h))
      (combination-pow (listed shiftedOf n) k ∙ get_or-listed shiftedOf n k h) ∙ (meets k h).sum)

  seconds-one : (m i : ℕ) → seconds (2 ^ i * 2 ^ m) % 2 ^ suc m ≡ 0
  unfolding seconds shiftedOf
  seconds-one m i =
      ap (λ (y : ℕ). seconds y % 2 ^ suc m) (sym (pow-add 2 i m))
      ∙ ap (λ (y : ℕ). y % 2 ^ suc m) (combination-pow (listed shiftedOf n) (i + m))
      ∙ go (dec_le (suc (i + m)) n)
    where
      go : Dec (i + m < n) → get_or (listed shiftedOf n) (i + m) 0 % 2 ^ suc m ≡ 0
      go (yes h) =
          ap (λ (y : ℕ). y % 2 ^ suc m) (get_or-listed shiftedOf n (i + m) h)
          ∙ shifted-low (2 * n) (suc (i + m)) (suc m) (image rs (Q (i + m))) (omega arith) (omega arith)
      go (no h) =
          ap (λ (y : ℕ). y % 2 ^ suc m) (get_or-listed-past shiftedOf n (i + m) (omega arith)) ∙ zero-mod (2 ^ suc m)

  -- the least shift m of a set is seen in it at bit m, where no shifted image of it has a one
  seconds-low : (m c : ℕ) → c < 2 ^ n → c % 2 ^ m ≡ 0 → seconds c % 2 ^ suc m ≡ 0
  seconds-low m c h e =
      ap (λ (y : ℕ). seconds y % 2 ^ suc m) whole
      ∙ linear-same (λ d. seconds (d * 2 ^ m) % 2 ^ suc m) (λ _. 0)
      (λ a b. ap (λ (y : ℕ). seconds y % 2 ^ suc m) (xor-shl a b m)
      ∙ ap (λ (y : ℕ). y % 2 ^ suc m) (seconds-xor (a * 2 ^ m) (b * 2 ^ m))
      ∙ xor_mod (seconds (a * 2 ^ m)) (seconds (b * 2 ^ m)) (suc m))
      linear-none n (λ i l. seconds-one m i) (c / 2 ^ m) (lt_of_le_of_lt (shr_le c m) h)
    where
      whole : c ≡ c / 2 ^ m * 2 ^ m
      whole = sym (split c m) ∙ ap (λ (y : ℕ). c / 2 ^ m * 2 ^ m + y) e ∙ add-zero (c / 2 ^ m * 2 ^ m)

  firsts-none : (c : ℕ) → c < 2 ^ n → firsts c ≡ 0 → c ≡ 0
  firsts-none c h e = sym (mod-eq_of_lt h) ∙ low n
    where
      same : seconds c ≡ c
      same =
          sym (xor_zero_l (seconds c))
          ∙ ap (λ (y : ℕ). y ⊕ seconds c) (sym (ap (image rs) e ∙ image-zero rs)) ∙ balance c h

      low : (m : ℕ) → c % 2 ^ m ≡ 0
      low zero = mod-one c
      low (suc m) = ap (λ (y : ℕ). y % 2 ^ suc m) (sym same) ∙ seconds-low m c h (low m)

  firsts-onto : (y : ℕ) → y < 2 ^ n → (c : ℕ) × (c < 2 ^ n) × (firsts c ≡ y)
  firsts-onto = linear-onto n firsts firsts-xor firsts-lt firsts-none

  -- what a column gives at each first block
  answers : ℕ → ℕ
  answers a = packed (λ k. common_parity n a (P k)) n

  answers-xor : Linear answers
  unfolding answers
  answers-xor a b =
      packed-same (λ k. common_parity n (a ⊕ b) (P k)) (λ k. xor (common_parity n a (P k)) (common_parity n b (P k))) n
      (λ k l. parity-xor n a b (P k))
      ∙ packed-xor (λ k. common_parity n a (P k)) (λ k. common_parity n b (P k)) n

  answers-bit : (a k : ℕ) → k < n → bit k (answers a) ≡ common_parity n a (P k)
  unfolding answers
  answers-bit a k h = packed-bit (λ k. common_parity n a (P k)) n k h

  answers-lt : (a : ℕ) → a < 2 ^ n → answers a < 2 ^ n
  unfolding answers
  answers-lt a h = packed_lt (λ k. common_parity n a (P k)) n

  answers-none : (a : ℕ) → a < 2 ^ n → answers a ≡ 0 → a ≡ 0
  answers-none a h e = bits_none n a h go
    where
      none : (c : ℕ) → c < 2 ^ n → common_parity n a (firsts c) ≡ false
      none =
          parity-same (λ c. common_parity n a (firsts c)) (λ _. false)
          (λ c d. ap (common_parity n a) (firsts-xor c d) ∙ parity-xor-r n a (firsts c) (firsts d))
          (λ c d. sym (xor-false-l false)) n
          (λ k l. ap (common_parity n a) (firsts-one k l) ∙ sym (answers-bit a k l) ∙ ap (bit k) e
          ∙ bit-none k 0 (pow_pos k))

      go : (i : ℕ) → i < n → bit i a ≡ false
      go i l =
          let r = firsts-onto (2 ^ i) (pow-lt l) in
          sym (parity-pow n i a l) ∙ ap (common_parity n a) (sym r.2) ∙ none r.0 r.1

  solution : (t : ℕ → Bool) → (a : ℕ) × (a < 2 ^ n) × ((k : ℕ) → k < n → common_parity n a (P k) ≡ t k)
  solution t =
      let r = linear-onto n answers answers-xor answers-lt answers-none (packed t n) (packed_lt t n) in
      (r.0, r.1, λ k h. sym (answers-bit r.0 k h) ∙ ap (bit k) r.2 ∙ packed-bit t n k h)

  solution-unique : (a b : ℕ) → a < 2 ^ n → b < 2 ^ n
      → ((k : ℕ) → k < n → common_parity n a (P k) ≡ common_parity n b (P k)) → a ≡ b
  unfolding answers
  solution-unique a b ha hb same =
      linear-different n answers answers-xor answers-none a b ha hb
      (packed-same (λ k. common_parity n a (P k)) (λ k. common_parity n b (P k)) n same)

-- ---- the columns that are free

not_same : (s t : Bool) → s ≡ not t → s ≢ t
not_same true true e f = true≢false e
not_same true false e f = true≢false f
not_same false true e f = false≢true f
not_same false false e f = false≢true e

other : (s t : Bool) → s ≢ t → s ≡ not t
other true true h = absurd (h refl)
other true false h = refl
other false true h = refl
other false false h = absurd (h refl)

module _ (n : ℕ) (rs : List ℕ) (T : Triangular n rs) (suitable : Suitable (2 * n) rs) where
  -- one pair for each shift is enough
  pairs-free : (a : ℕ)
      → ((k : ℕ) → k < n
      → (p : ℕ) × (q : ℕ) × Meets n rs k p q × (common_parity n a p ≢ bit (2 * n - suc k) (image rs q)))
      → Free n a rs
  pairs-free a given k p q h m e =
      let g = given k h in
      let same = meets-unique n rs T suitable k p q g.0 g.1 h m g.2 in
      g.3 (ap (common_parity n a) (sym same.0) ∙ e ∙ ap (λ (x : ℕ). bit (2 * n - suc k) (image rs x)) same.1)

  chosen : (k : ℕ) → Dec (k < n) → ℕ × ℕ
  chosen k (yes h) = let r = meets-some-pair n rs T suitable k h in (r.0, r.1)
  chosen k (no h) = (0, 0)

  chosen-meets : (k : ℕ) → k < n → (d : Dec (k < n)) → Meets n rs k (chosen k d).0 (chosen k d).1
  unfolding chosen
  chosen-meets k h (yes l) = (meets-some-pair n rs T suitable k l).2
  chosen-meets k h (no l) = absurd (l h)

  free-column : (a : ℕ) × (a < 2 ^ n) × Free n a rs × ((c : ℕ) → c < 2 ^ n → Free n c rs → c ≡ a)
  free-column =
      let P : ℕ → ℕ = λ k. (chosen k (dec_le (suc k) n)).0 in
      let Q : ℕ → ℕ = λ k. (chosen k (dec_le (suc k) n)).1 in
      let meets : (k : ℕ) → k < n → Meets n rs k (P k) (Q k) = λ k h. chosen-meets k h (dec_le (suc k) n) in
      let t : ℕ → Bool = λ k. bit (2 * n - suc k) (image rs (Q k)) in
      let r = solution n rs P Q meets (λ k. not (t k)) in (
        r.0,
        r.1,
        pairs-free r.0 (λ k h. (P k, Q k, meets k h, not_same (common_parity n r.0 (P k)) (t k) (r.2 k h))),
        λ c l free. solution-unique n rs P Q meets c r.0 l r.1
            (λ k h. other (common_parity n c (P k)) (t k) (free k (P k) (Q k) h (meets k h)) ∙ sym (r.2 k h)),
      )

-- ---- tables from a triangle

-- the base: the table of one symbol, which has no columns
pub one-suitable : Suitable 2 (triangle_rows [] 1)
one-suitable l e0 e1 c = late-shift 1 (triangle_rows [] 1) (triangular [] 0) l e0 e1 c.shift_from c

pub filling : FillingLaw
filling cs t suitable =
    let m = length cs in
    let n = suc m in
    let rs = triangle_rows cs n in
    let r = free-column n rs (triangular cs m) suitable in (
      r.0,
      r.1,
      free-suitable n r.0 rs (triangle_rows (cs ++ (r.0 ∷ [])) (suc n)) (triangular cs m)
          (triangular (cs ++ (r.0 ∷ [])) n) (extends cs t r.0) suitable r.2,
      λ c h s. r.3 c h
          (suitable-free n c rs (triangle_rows (cs ++ (c ∷ [])) (suc n)) (triangular cs m)
          (triangular (cs ++ (c ∷ [])) n) (extends cs t c) s),
    )

-- the certificate of a column: for each shift a pair that meets, and does not look alike under the column
pub filled : (cs : List ℕ) → Triangle cs → Suitable (2 * suc (length cs)) (triangle_rows cs (suc (length cs)))
    → (a : ℕ)
    → ((l : ℕ) → 1 ≤ l → l ≤ suc (length cs)
    → (p : ℕ) × (q : ℕ) × (p < 2 ^ suc (length cs)) × (q < 2 ^ suc (length cs))
    × (image (triangle_rows cs (suc (length cs))) p
    ⊕ shifted (2 * suc (length cs)) l (image (triangle_rows cs (suc (length cs))) q) ≡ 2 ^ (l - 1))
    × (common_parity (suc (length cs)) a p
    ≢ bit (2 * suc (length cs) - l) (image (triangle_rows cs (suc (length cs))) q)))
    → Suitable (2 * suc (suc (length cs))) (triangle_rows (cs ++ (a ∷ [])) (suc (suc (length cs))))
filled cs t suitable a given =
    let m = length cs in
    let n = suc m in
    let rs = triangle_rows cs n in
    free-suitable n a rs (triangle_rows (cs ++ (a ∷ [])) (suc n)) (triangular cs m) (triangular (cs ++ (a ∷ [])) n)
    (extends cs t a) suitable
    (pairs-free n rs (triangular cs m) suitable a
    (λ k h. let g = given (suc k) (omega arith) h in
    let place : suc k - 1 ≡ k = omega arith in
    (g.0, g.1, record { first = g.2; second = g.3; sum = (rw place at g).4 }, g.5)))
