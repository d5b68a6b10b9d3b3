-- The laws of words: exclusive or is an abelian group in which each word is its own inverse, and halves, bits, shifts
-- and masks pass through it; parity with a fixed word is linear. Each law follows from a number's lowest bit and its
-- half. Assumes nothing.
use Rattle.std.proofs.Common.{◌≡◌, ℕ, zero, suc, ◌+◌, ◌-◌, ◌*◌, ◌/◌, ◌%◌, ◌^◌, ◌<◌, ◌≤◌, Bool, true, false, ◌&&◌, ◌≢◌}
use Rattle.std.proofs.Common.{sym, refl, ap, ◌∙◌, subst, ap₂, add-zero, mod-lt, mul_assoc, suc-mul, add_comm, one-mul}
use Rattle.std.proofs.Common.{zero-mul, div-one, add-one, one-add, arith, pow_pos, pow-add, shl_exact, shr-shr, eq-eqb}
use Rattle.std.proofs.Common.{ne_eqb, eqb-true}
use mathlib.Core.Bool.{xor}
use native.Mathlib.Nat.{mul-mod_left, zero-mod, mod-mod}
use native.Mathlib.Nat.{div-eq_of_lt, div-eq_of_lt-le}
use native.Mathlib.Decide.{dec_lt}
use borrow.Author.Tests.{eqb-false}
use lib.Arith.{bin_ind, lt-one}
use lib.Pow.{shl-shr, split, field, mod-pow-add, mod-mod-pow}
use lib.Bits.{bit_xor, bit_and, bit_or, and_step, or_step, and_shr, and_mod, or_shr, or_comm, xor_block}
use lib.Bits as Bits
use lib.Count.{ones, ones_step, count_trailing_zeros, under}
use Rattle.span.specs.Word.{◌⊕◌, odd, bit, sel, digit, common_parity, shifted}
use Rattle.span.specs.Laws.{CommonOnes, ShiftedLinear}

-- ---- exclusive or of two truth values

xor-assoc-bool : (s t u : Bool) → xor (xor s t) u ≡ xor s (xor t u)
unfolding xor
xor-assoc-bool true true true = refl
xor-assoc-bool true true false = refl
xor-assoc-bool true false true = refl
xor-assoc-bool true false false = refl
xor-assoc-bool false true true = refl
xor-assoc-bool false true false = refl
xor-assoc-bool false false true = refl
xor-assoc-bool false false false = refl

pub xor-comm-bool : (s t : Bool) → xor s t ≡ xor t s
unfolding xor
xor-comm-bool true true = refl
xor-comm-bool true false = refl
xor-comm-bool false true = refl
xor-comm-bool false false = refl

pub xor-false-l : (s : Bool) → xor false s ≡ s
unfolding xor
xor-false-l true = refl
xor-false-l false = refl

pub xor-false-r : (s : Bool) → xor s false ≡ s
xor-false-r s = xor-comm-bool s false ∙ xor-false-l s

pub xor-self-bool : (s : Bool) → xor s s ≡ false
unfolding xor
xor-self-bool true = refl
xor-self-bool false = refl

-- conjunction distributes over it
and_xor : (s t u : Bool) → xor s t && u ≡ xor (s && u) (t && u)
unfolding xor
and_xor true true u = sym (xor-self-bool u)
and_xor true false u = sym (xor-false-r u)
and_xor false true u = sym (xor-false-l u)
and_xor false false u = refl

pub and-false : (s : Bool) → s && false ≡ false
and-false true = refl
and-false false = refl

and-comm-bool : (s t : Bool) → s && t ≡ t && s
and-comm-bool true true = refl
and-comm-bool true false = refl
and-comm-bool false true = refl
and-comm-bool false false = refl

-- under an operation that is associative and commutative, the two in the middle change places
swap-middle : {A : Type 0} (op : A → A → A) → ((a b c : A) → op (op a b) c ≡ op a (op b c))
    → ((a b : A) → op a b ≡ op b a)
    → (a b c d : A) → op (op a b) (op c d) ≡ op (op a c) (op b d)
swap-middle op assoc com' a b c d =
    assoc a b (op c d)
    ∙ ap (op a) (sym (assoc b c d) ∙ ap (λ x. op x d) (com' b c) ∙ assoc c b d)
    ∙ sym (assoc a c (op b d))

pub xor-swap-bool : (s t u v : Bool) → xor (xor s t) (xor u v) ≡ xor (xor s u) (xor t v)
xor-swap-bool = swap-middle xor xor-assoc-bool xor-comm-bool

-- ---- the lowest bit and the half of a number

pub odd-of : (s : Bool) (x : ℕ) → x % 2 ≡ digit s → odd x ≡ s
unfolding odd
odd-of true x e = eq-eqb (x % 2) 1 e
odd-of false x e = ne_eqb (x % 2) 1 (λ (h : x % 2 ≡ 1). omega arith)

pub odd-mod : (x : ℕ) → x % 2 ≡ digit (odd x)
unfolding odd
odd-mod x = go (odd x) refl
  where
    go : (s : Bool) → odd x ≡ s → x % 2 ≡ digit s
    go true e = eqb-true (x % 2) 1 e
    go false e = let h = eqb-false (x % 2) 1 e in omega arith

pub odd-digit : (s : Bool) → odd (digit s) ≡ s
unfolding odd
odd-digit true = refl
odd-digit false = refl

pub digit-half : (s : Bool) → digit s / 2 ≡ 0
digit-half true = refl
digit-half false = refl

-- a number is its half, doubled, and its lowest bit
by-halves : (a b : ℕ) → odd a ≡ odd b → a / 2 ≡ b / 2 → a ≡ b
by-halves a b e h =
    let p : a % 2 ≡ b % 2 = odd-mod a ∙ ap digit e ∙ sym (odd-mod b) in
    omega arith

pub xor-half : (a b : ℕ) → (a ⊕ b) / 2 ≡ a / 2 ⊕ b / 2
unfolding ◌⊕◌
xor-half a b = Bits.xor_shr a b 1

xor-digits : (s t : Bool) → bit_xor (digit s) (digit t) ≡ digit (xor s t)
unfolding xor
xor-digits true true = refl
xor-digits true false = refl
xor-digits false true = refl
xor-digits false false = refl

and-digits : (s t : Bool) → bit_and (digit s) (digit t) ≡ digit (s && t)
and-digits true true = refl
and-digits true false = refl
and-digits false t = refl

pub odd-xor : (a b : ℕ) → odd (a ⊕ b) ≡ xor (odd a) (odd b)
unfolding ◌⊕◌
odd-xor a b =
    odd-of (xor (odd a) (odd b)) (a ⊕ b)
    (Bits.xor_mod a b 1 ∙ ap₂ bit_xor (odd-mod a) (odd-mod b) ∙ xor-digits (odd a) (odd b))

-- ---- the group

pub xor-code : (a b : ℕ) → bit_xor a b ≡ a ⊕ b
unfolding ◌⊕◌
xor-code a b = refl

pub xor_zero_l : (a : ℕ) → 0 ⊕ a ≡ a
unfolding ◌⊕◌
xor_zero_l a = refl

pub xor_zero_r : (a : ℕ) → a ⊕ 0 ≡ a
unfolding ◌⊕◌
xor_zero_r a = Bits.xor_zero_r a

pub xor_self : (a : ℕ) → a ⊕ a ≡ 0
unfolding ◌⊕◌
xor_self a = Bits.xor_self a

pub xor_comm : (a b : ℕ) → a ⊕ b ≡ b ⊕ a
unfolding ◌⊕◌
xor_comm a b = Bits.xor_comm a b

pub xor_assoc : (a b c : ℕ) → a ⊕ b ⊕ c ≡ a ⊕ (b ⊕ c)
xor_assoc =
    bin_ind (λ (a : ℕ). (b c : ℕ) → a ⊕ b ⊕ c ≡ a ⊕ (b ⊕ c)) (λ b c. rw (xor_zero_l b, xor_zero_l (b ⊕ c)))
    (λ a ih b c. by-halves (a ⊕ b ⊕ c) (a ⊕ (b ⊕ c))
    (simp odd-xor (xor-assoc-bool (odd a) (odd b) (odd c)))
    (simp xor-half (ih (b / 2) (c / 2))))

-- what is taken twice is gone
pub xor-twice : (a b : ℕ) → a ⊕ (a ⊕ b) ≡ b
xor-twice a b = sym (xor_assoc a a b) ∙ ap (λ (x : ℕ). x ⊕ b) (xor_self a) ∙ xor_zero_l b

pub xor-eq : (a b : ℕ) → a ⊕ b ≡ 0 → a ≡ b
xor-eq a b e = sym (xor_zero_r a) ∙ ap (λ (x : ℕ). a ⊕ x) (sym e) ∙ xor-twice a b

-- the two in the middle change places
pub xor-swap : (a b c d : ℕ) → a ⊕ b ⊕ (c ⊕ d) ≡ a ⊕ c ⊕ (b ⊕ d)
xor-swap = swap-middle ◌⊕◌ xor_assoc xor_comm

pub xor_lt : (k a b : ℕ) → a < 2 ^ k → b < 2 ^ k → a ⊕ b < 2 ^ k
unfolding ◌⊕◌
xor_lt k a b ha hb = Bits.xor_lt k a b ha hb

-- a bit above a word adds to it
pub pow-add-xor : (k c : ℕ) → c < 2 ^ k → 2 ^ k + c ≡ 2 ^ k ⊕ c
unfolding ◌⊕◌
pow-add-xor k c h = sym (rw (one-mul (2 ^ k)) at (Bits.xor_shifted 1 k c h))

-- ---- selection

pub sel-xor : (s t : Bool) (a : ℕ) → sel (xor s t) a ≡ sel s a ⊕ sel t a
unfolding xor
sel-xor true true a = sym (xor_self a)
sel-xor true false a = sym (xor_zero_r a)
sel-xor false true a = sym (xor_zero_l a)
sel-xor false false a = sym (xor_zero_l 0)

pub xor-sel : (s : Bool) (a b : ℕ) → sel s (a ⊕ b) ≡ sel s a ⊕ sel s b
xor-sel true a b = refl
xor-sel false a b = sym (xor_zero_l 0)

pub sel-lt : (k : ℕ) (s : Bool) (a : ℕ) → a < 2 ^ k → sel s a < 2 ^ k
sel-lt k true a h = h
sel-lt k false a h = pow_pos k

-- ---- bits

pub bit-odd : (p x : ℕ) → bit p x ≡ odd (x / 2 ^ p)
unfolding bit
bit-odd p x = refl

pub bit-zero : (x : ℕ) → bit 0 x ≡ odd x
unfolding bit
bit-zero x = ap odd (div-one x)

pub bit-suc : (p x : ℕ) → bit (suc p) x ≡ bit p (x / 2)
unfolding bit
bit-suc p x = ap odd (rw (← one-add p) (sym (shr-shr x 1 p)))

pub bit-xor : (p a b : ℕ) → bit p (a ⊕ b) ≡ xor (bit p a) (bit p b)
unfolding bit ◌⊕◌
bit-xor p a b = ap odd (Bits.xor_shr a b p) ∙ odd-xor (a / 2 ^ p) (b / 2 ^ p)

pub bit-none : (p x : ℕ) → x < 2 ^ p → bit p x ≡ false
unfolding bit odd
bit-none p x h = ap odd (div-eq_of_lt h)

-- a word is its bits
bits_none : (x : ℕ) → ((p : ℕ) → bit p x ≡ false) → x ≡ 0
bits_none = bin_ind (λ (x : ℕ). ((p : ℕ) → bit p x ≡ false) → x ≡ 0) (λ h. refl) (λ x half h.
    let z = half (λ p. sym (bit-suc p x) ∙ h (suc p)) in
    let e : x % 2 ≡ 0 = odd-mod x ∙ ap digit (sym (bit-zero x) ∙ h 0) in
    omega arith)

pub bit-ext : (a b : ℕ) → ((p : ℕ) → bit p a ≡ bit p b) → a ≡ b
bit-ext a b h =
    xor-eq a b
    (bits_none (a ⊕ b)
    (λ p. bit-xor p a b ∙ ap (λ (s : Bool). xor s (bit p b)) (h p) ∙ xor-self-bool (bit p b)))

-- the low bits of a word are its own
bit-part : (j p x : ℕ) → bit p (x % 2 ^ (suc j + p)) ≡ bit p x
unfolding bit
bit-part j p x =
    ap odd (field x (suc j) p)
    ∙ odd-of (odd (x / 2 ^ p)) (x / 2 ^ p % 2 ^ suc j)
    (rw (← add-one j) (mod-mod-pow (x / 2 ^ p) j 1) ∙ odd-mod (x / 2 ^ p))

pub bit-low : (p n x : ℕ) → p < n → bit p (x % 2 ^ n) ≡ bit p x
bit-low p n x h = subst (λ (k : ℕ). bit p (x % 2 ^ k) ≡ bit p x) (omega arith) (bit-part (n - suc p) p x)

-- a word below 2^ν with a bit at place ν, and two of these
topped-sel : (ν a : ℕ) (s : Bool) → a < 2 ^ ν → a + digit s * 2 ^ ν ≡ a ⊕ sel s (2 ^ ν)
topped-sel ν a true h =
    ap (λ (x : ℕ). a + x) (one-mul (2 ^ ν)) ∙ add_comm a (2 ^ ν) ∙ pow-add-xor ν a h ∙ xor_comm (2 ^ ν) a
topped-sel ν a false h = ap (λ (x : ℕ). a + x) (zero-mul (2 ^ ν)) ∙ add-zero a ∙ sym (xor_zero_r a)

pub topped-xor : (ν a b : ℕ) (s t : Bool) → a < 2 ^ ν → b < 2 ^ ν
    → (a + digit s * 2 ^ ν) ⊕ (b + digit t * 2 ^ ν) ≡ a ⊕ b + digit (xor s t) * 2 ^ ν
topped-xor ν a b s t h k =
    ap₂ ◌⊕◌ (topped-sel ν a s h) (topped-sel ν b t k) ∙ xor-swap a (sel s (2 ^ ν)) b (sel t (2 ^ ν))
    ∙ ap (λ (x : ℕ). a ⊕ b ⊕ x) (sym (sel-xor s t (2 ^ ν))) ∙ sym (topped-sel ν (a ⊕ b) (xor s t) (xor_lt ν a b h k))

-- one more bit of a word
pub mod-top : (m x : ℕ) → x % 2 ^ suc m ≡ x % 2 ^ m ⊕ sel (bit m x) (2 ^ m)
unfolding bit
mod-top m x =
    ap (λ (k : ℕ). x % 2 ^ k) (sym (one-add m)) ∙ mod-pow-add x 1 m
    ∙ ap (λ (d : ℕ). d * 2 ^ m + x % 2 ^ m) (odd-mod (x / 2 ^ m))
    ∙ add_comm (digit (odd (x / 2 ^ m)) * 2 ^ m) (x % 2 ^ m)
    ∙ topped-sel m (x % 2 ^ m) (odd (x / 2 ^ m)) (mod-lt x (pow_pos m))

pub bit-pow : (p : ℕ) → bit p (2 ^ p) ≡ true
unfolding bit odd
bit-pow zero = refl
bit-pow (suc p) = bit-suc p (2 ^ suc p) ∙ ap (bit p) (omega arith) ∙ bit-pow p

-- the highest one of a word
pub bit-top : (p x : ℕ) → 2 ^ p ≤ x → x < 2 ^ suc p → bit p x ≡ true
bit-top zero x l h = bit-zero x ∙ odd-of true x (omega arith)
bit-top (suc p) x l h = bit-suc p x ∙ bit-top p (x / 2) (omega arith) (omega arith)

pub bit-pow-other : (p q : ℕ) → p ≢ q → bit p (2 ^ q) ≡ false
unfolding bit odd
bit-pow-other zero zero h = absurd (h refl)
bit-pow-other zero (suc q) h = bit-zero (2 ^ suc q) ∙ odd-of false (2 ^ suc q) (omega arith)
bit-pow-other (suc p) zero h = bit-suc p 1 ∙ bit-none p 0 (pow_pos p)
bit-pow-other (suc p) (suc q) h =
    bit-suc p (2 ^ suc q) ∙ ap (bit p) (omega arith) ∙ bit-pow-other p q (λ (e : p ≡ q). h (ap suc e))

trailing-step : (k x : ℕ) → 0 < x → x < 2 ^ suc k → (d : ℕ) → x % 2 ≡ d
    → (0 < x / 2 → x / 2 < 2 ^ k → (count_trailing_zeros k (x / 2) < k) × (bit (count_trailing_zeros k (x / 2)) (x / 2) ≡ true))
    → (under d (count_trailing_zeros k (x / 2)) < suc k) × (bit (under d (count_trailing_zeros k (x / 2))) x ≡ true)
trailing-step k x p h zero e rest =
    let ih = rest (omega arith) (omega arith) in (omega arith, bit-suc (count_trailing_zeros k (x / 2)) x ∙ ih.1)
trailing-step k x p h (suc d) e rest = (omega arith, bit-zero x ∙ odd-of true x (omega arith))

-- the zeros below the lowest one of a word that is not 0 give its place
pub trailing-bit : (k x : ℕ) → 0 < x → x < 2 ^ k → (count_trailing_zeros k x < k) × (bit (count_trailing_zeros k x) x ≡ true)
unfolding count_trailing_zeros
trailing-bit zero x p h = absurd (omega arith)
trailing-bit (suc k) x p h = trailing-step k x p h (x % 2) refl (trailing-bit k (x / 2))

-- ---- shifts and masks

pub xor-shl : (a b k : ℕ) → (a ⊕ b) * 2 ^ k ≡ a * 2 ^ k ⊕ b * 2 ^ k
unfolding ◌⊕◌
xor-shl a b k = sym (simp add-zero at (xor_block k a b 0 0 (pow_pos k) (pow_pos k)))

pub xor_shr : (a b k : ℕ) → (a ⊕ b) / 2 ^ k ≡ a / 2 ^ k ⊕ b / 2 ^ k
unfolding ◌⊕◌
xor_shr a b k = Bits.xor_shr a b k

pub xor_mod : (a b k : ℕ) → (a ⊕ b) % 2 ^ k ≡ a % 2 ^ k ⊕ b % 2 ^ k
unfolding ◌⊕◌
xor_mod a b k = Bits.xor_mod a b k

-- a shift in the code
pub shifted-code : (N l a : ℕ) → a * 2 ^ l % 2 ^ N ≡ shifted N l a
unfolding shifted
shifted-code N l a = refl

pub shifted-zero : (N l : ℕ) → shifted N l 0 ≡ 0
unfolding shifted
shifted-zero N l = rw (zero-mul (2 ^ l)) (zero-mod (2 ^ N))

pub shifted-xor : ShiftedLinear
unfolding shifted
shifted-xor N l a b = ap (λ (x : ℕ). x % 2 ^ N) (xor-shl a b l) ∙ xor_mod (a * 2 ^ l) (b * 2 ^ l) N

pub shifted-lt : (N l a : ℕ) → shifted N l a < 2 ^ N
unfolding shifted
shifted-lt N l a = mod-lt (a * 2 ^ l) (pow_pos N)

-- the bits that stay, above zeros
pub shifted-mod : (m l a : ℕ) → shifted (m + l) l a ≡ a % 2 ^ m * 2 ^ l
unfolding shifted
shifted-mod m l a =
    mod-pow-add (a * 2 ^ l) m l
    ∙ ap₂ (λ (x y : ℕ). x % 2 ^ m * 2 ^ l + y) (shl-shr a l) (mul-mod_left a (2 ^ l))
    ∙ add-zero (a % 2 ^ m * 2 ^ l)

-- a word that stays inside loses nothing
pub shifted-inside : (N l j a : ℕ) → a < 2 ^ j → j + l ≤ N → shifted N l a ≡ a * 2 ^ l
unfolding shifted
shifted-inside N l j a h room = shl_exact j l N h room

-- a shift by N or more leaves nothing
pub shifted_past : (N l a : ℕ) → N ≤ l → shifted N l a ≡ 0
unfolding shifted
shifted_past N l a h =
    let e : l - N + N ≡ l = omega arith in
    ap (λ (k : ℕ). a * 2 ^ k % 2 ^ N) (sym e)
    ∙ ap (λ (x : ℕ). a * x % 2 ^ N) (pow-add 2 (l - N) N)
    ∙ ap (λ (x : ℕ). x % 2 ^ N) (sym (mul_assoc a (2 ^ (l - N)) (2 ^ N)))
    ∙ mul-mod_left (a * 2 ^ (l - N)) (2 ^ N)

-- what stands below bit N − l of a number that a shift leaves as it was is left so in N − l bits
shifted-lower : (N l a : ℕ) → l < N → a ≡ shifted N l a
    → let b = a % 2 ^ (N - l) in (a ≡ b * 2 ^ l) × (b ≡ shifted (N - l) l b)
unfolding shifted
shifted-lower N l a h e =
    let all : N ≡ N - l + l = omega arith in
    let whole : a ≡ a % 2 ^ (N - l) * 2 ^ l = e ∙ ap (λ (k : ℕ). shifted k l a) all ∙ shifted-mod (N - l) l a in
    (whole, ap (λ (x : ℕ). x % 2 ^ (N - l)) whole)

fixed-below : (most N l a : ℕ) → N ≤ most → 1 ≤ l → a ≡ shifted N l a → a ≡ 0
fixed-below zero N l a few some e = e ∙ shifted_past N l a (omega arith)
fixed-below (suc most) N l a few some e = go (fixed-below most (N - l) l (a % 2 ^ (N - l))) (dec_lt l N)
  where
    go : (N - l ≤ most → 1 ≤ l → a % 2 ^ (N - l) ≡ shifted (N - l) l (a % 2 ^ (N - l)) → a % 2 ^ (N - l) ≡ 0)
        → Dec (l < N) → a ≡ 0
    go lower (no h) = e ∙ shifted_past N l a (omega arith)
    go lower (yes h) =
        let b = shifted-lower N l a h e in
        b.0 ∙ ap (λ (x : ℕ). x * 2 ^ l) (lower (omega arith) some b.1) ∙ zero-mul (2 ^ l)

-- a shift leaves no number as it was but 0
pub shifted-fixed : (N l a : ℕ) → 1 ≤ l → a ≡ shifted N l a → a ≡ 0
shifted-fixed N l a = fixed-below N N l a (omega arith)

-- ---- parity with a fixed word

pub parity-zero-l : (k h : ℕ) → common_parity k 0 h ≡ false
unfolding common_parity odd
parity-zero-l zero h = refl
parity-zero-l (suc k) h = xor-false-l (common_parity k 0 (h / 2)) ∙ parity-zero-l k (h / 2)

pub parity-comm : (k a b : ℕ) → common_parity k a b ≡ common_parity k b a
unfolding common_parity
parity-comm zero a b = refl
parity-comm (suc k) a b = ap₂ xor (and-comm-bool (odd a) (odd b)) (parity-comm k (a / 2) (b / 2))

pub parity-xor : (k a b h : ℕ) → common_parity k (a ⊕ b) h ≡ xor (common_parity k a h) (common_parity k b h)
unfolding common_parity
parity-xor zero a b h = sym (xor-false-l false)
parity-xor (suc k) a b h =
    ap₂ xor
    (ap (λ (s : Bool). s && odd h) (odd-xor a b) ∙ and_xor (odd a) (odd b) (odd h))
    (ap (λ (x : ℕ). common_parity k x (h / 2)) (xor-half a b) ∙ parity-xor k (a / 2) (b / 2) (h / 2))
    ∙ xor-swap-bool (odd a && odd h) (odd b && odd h) (common_parity k (a / 2) (h / 2)) (common_parity k (b / 2) (h / 2))

-- a single one asks for the bit there
pub parity-pow : (k p x : ℕ) → p < k → common_parity k x (2 ^ p) ≡ bit p x
unfolding common_parity odd
parity-pow zero p x h = absurd (omega arith)
parity-pow (suc k) zero x h =
    ap₂ xor (and-comm-bool (odd x) true) (parity-comm k (x / 2) 0 ∙ parity-zero-l k (x / 2)) ∙ xor-false-r (odd x)
    ∙ sym (bit-zero x)
parity-pow (suc k) (suc p) x h =
    ap₂ xor
    (ap (λ (s : Bool). odd x && s) (odd-of false (2 ^ suc p) (omega arith)) ∙ and-comm-bool (odd x) false)
    (ap (common_parity k (x / 2)) (omega arith) ∙ parity-pow k p (x / 2) (omega arith))
    ∙ xor-false-l (bit p (x / 2))
    ∙ sym (bit-suc p x)

-- a one past the places that count is not seen
pub parity-top : (k x : ℕ) → common_parity k x (2 ^ k) ≡ false
unfolding common_parity odd
parity-top zero x = refl
parity-top (suc k) x =
    ap₂ xor
    (ap (λ (s : Bool). odd x && s) (odd-of false (2 ^ suc k) (omega arith)) ∙ and-comm-bool (odd x) false)
    (ap (common_parity k (x / 2)) (omega arith) ∙ parity-top k (x / 2))
    ∙ xor-false-l false

odd-and : (a b : ℕ) → odd (bit_and a b) ≡ odd a && odd b
odd-and a b =
    odd-of (odd a && odd b) (bit_and a b)
    (and_mod a b 1 ∙ ap₂ bit_and (odd-mod a) (odd-mod b) ∙ and-digits (odd a) (odd b))

odd-add : (a b : ℕ) → odd (a + b) ≡ xor (odd a) (odd b)
unfolding xor
odd-add a b = odd-of (xor (odd a) (odd b)) (a + b) (go (odd a) (odd b) (odd-mod a) (odd-mod b))
  where
    go : (s t : Bool) → a % 2 ≡ digit s → b % 2 ≡ digit t → (a + b) % 2 ≡ digit (xor s t)
    go true true p q = omega arith
    go true false p q = omega arith
    go false true p q = omega arith
    go false false p q = omega arith

odd-ones : (x : ℕ) → odd (ones x) ≡ xor (odd x) (odd (ones (x / 2)))
odd-ones x =
    ap odd (ones_step x) ∙ odd-add (x % 2) (ones (x / 2))
    ∙ ap (λ (s : Bool). xor s (odd (ones (x / 2)))) (odd-of (odd x) (x % 2) (mod-mod x 2 ∙ odd-mod x))

-- the count of common ones has that parity
pub parity-ones : CommonOnes
unfolding common_parity odd ones
parity-ones zero a b h = ap (λ (x : ℕ). odd (ones (bit_and x b))) (sym (lt-one h))
parity-ones (suc k) a b h =
    ap₂ xor (sym (odd-and a b))
    (parity-ones k (a / 2) (b / 2) (omega arith) ∙ ap (λ (x : ℕ). odd (ones x)) (sym (and_shr a b 1)))
    ∙ sym (odd-ones (bit_and a b))

-- and is it, modulo 2
pub ones-parity : (k a b : ℕ) → a < 2 ^ k → ones (bit_and a b) % 2 ≡ digit (common_parity k a b)
ones-parity k a b h = odd-mod (ones (bit_and a b)) ∙ ap digit (sym (parity-ones k a b h))

-- where there are no common ones it is false
pub parity_none : (k a b : ℕ) → bit_and a b ≡ 0 → common_parity k a b ≡ false
unfolding common_parity odd
parity_none zero a b e = refl
parity_none (suc k) a b e =
    ap₂ xor (sym (odd-and a b) ∙ ap odd e)
    (parity_none k (a / 2) (b / 2) (sym (and_shr a b 1) ∙ ap (λ (x : ℕ). x / 2) e))
    ∙ xor-false-l false

-- ---- the ones of two words together

and-or-le : (x a b : ℕ) → bit_and x a ≤ bit_and x (bit_or a b)
and-or-le =
    bin_ind (λ (x : ℕ). (a b : ℕ) → bit_and x a ≤ bit_and x (bit_or a b)) (λ a b. omega arith)
    (λ x ih a b.
    let half : bit_and (x / 2) (bit_or a b / 2) ≡ bit_and (x / 2) (bit_or (a / 2) (b / 2)) =
    ap (bit_and (x / 2)) (or_shr a b 1) in
    omega (arith, ih (a / 2) (b / 2), half, and_step x a, and_step x (bit_or a b), or_step a b))

-- a word that has no one in common with them has none with either
pub and-or-l : (x a b : ℕ) → bit_and x (bit_or a b) ≡ 0 → bit_and x a ≡ 0
and-or-l x a b e = let l = and-or-le x a b in omega arith

pub and-or-r : (x a b : ℕ) → bit_and x (bit_or a b) ≡ 0 → bit_and x b ≡ 0
and-or-r x a b e = and-or-l x b a (ap (bit_and x) (or_comm b a) ∙ e)

-- ---- order

-- of two words that differ first, seen from above, at place p, the one without that bit is less
pub xor-less : (p a b : ℕ) → 2 ^ p ≤ a ⊕ b → a ⊕ b < 2 ^ suc p → bit p a ≡ false → a < b
unfolding bit odd
xor-less p a b lo hi e =
    let one : a / 2 ^ p ⊕ b / 2 ^ p ≡ 1 =
    sym (xor_shr a b p) ∙ div-eq_of_lt-le {k = 1} (2 ^ p) (omega arith) (omega arith) in
    let same : a / 2 ^ p / 2 ≡ b / 2 ^ p / 2 =
    xor-eq (a / 2 ^ p / 2) (b / 2 ^ p / 2) (sym (xor-half (a / 2 ^ p) (b / 2 ^ p)) ∙ ap (λ (x : ℕ). x / 2) one)
    in
    let last : odd (b / 2 ^ p) ≡ true =
    sym (xor-false-l (odd (b / 2 ^ p))) ∙ ap (λ (s : Bool). xor s (odd (b / 2 ^ p))) (sym e)
    ∙ sym (odd-xor (a / 2 ^ p) (b / 2 ^ p)) ∙ ap odd one
    in
    let even : a / 2 ^ p % 2 ≡ 0 = odd-mod (a / 2 ^ p) ∙ ap digit e in
    let uneven : b / 2 ^ p % 2 ≡ 1 = odd-mod (b / 2 ^ p) ∙ ap digit last in
    let next : b / 2 ^ p ≡ suc (a / 2 ^ p) = omega arith in
    omega (
      arith,
      split a p,
      split b p,
      mod-lt a (pow_pos p),
      ap (λ (x : ℕ). x * 2 ^ p) next,
      suc-mul (a / 2 ^ p) (2 ^ p),
    )
