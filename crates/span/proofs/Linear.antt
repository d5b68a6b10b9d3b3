-- Shifts, single bits and linear maps of words, from the laws of words and combinations: what the proof about the
-- triangle rests on. A linear map is fixed by its values at single ones (`linear-same`), and one of k-bit words that
-- maps only 0 to 0 reaches every word (`linear-onto`). Assumes nothing.
use Rattle.std.proofs.Common.{◌≡◌, ℕ, zero, suc, ◌+◌, ◌-◌, ◌*◌, ◌/◌, ◌%◌, ◌^◌, ◌<◌, ◌≤◌, Bool, true, false, ◌≢◌, List}
use Rattle.std.proofs.Common.{[], ◌∷◌, ◌++◌, length, get_or, sym, refl, ap, ◌∙◌, subst, ap₂, le_refl, mod-lt}
use Rattle.std.proofs.Common.{mod-eq_of_lt, mul_assoc, mul_comm, one-mul, zero-mul, add-one, arith, length-append}
use Rattle.std.proofs.Common.{pow_pos, pow-add}
use mathlib.Core.Bool.{xor}
use native.Mathlib.Nat.{mul-mod_left, zero-mod, zero-div}
use native.Mathlib.Decide.{dec_le}
use lib.ListN.{get_or-append}
use lib.Pow.{pow-lt, shl-shr, mod-pow-add, mod-mod-pow}
use lib.Seq.{get_or_at}
use Rattle.span.specs.Word.{◌⊕◌, odd, bit, sel, digit, common_parity, shifted}
use Rattle.span.specs.Combination.{combination, Below, Independent}
use Rattle.span.proofs.Word.{xor_self, xor_zero_l, xor_zero_r, xor-eq, xor_lt, xor-swap, odd-mod, odd-digit}
use Rattle.span.proofs.Word.{bit-zero, bit-suc, bit-xor, bit-none, bit-pow, bit-pow-other, xor-shl, pow-add-xor}
use Rattle.span.proofs.Word.{sel-xor, sel-lt, shifted-zero, parity-comm, parity-xor, xor-false-l, xor-false-r}
use Rattle.span.proofs.Word.{mod-top, shifted-mod}
use Rattle.span.proofs.Combination.{combination-xor, combination-pow}
use Rattle.span.proofs.Dimension.{spanning}

-- ---- words

pub xor-double : (a b : ℕ) → 2 * (a ⊕ b) ≡ 2 * a ⊕ 2 * b
xor-double a b = mul_comm 2 (a ⊕ b) ∙ xor-shl a b 1 ∙ ap₂ ◌⊕◌ (mul_comm a 2) (mul_comm b 2)

pub xor-cancel : (a b c : ℕ) → a ⊕ c ≡ b ⊕ c → a ≡ b
xor-cancel a b c e =
    xor-eq a b (sym (xor_zero_r (a ⊕ b)) ∙ ap (λ (x : ℕ). a ⊕ b ⊕ x) (sym (xor_self c)) ∙ xor-swap a b c c
    ∙ ap (λ (x : ℕ). x ⊕ (b ⊕ c)) e ∙ xor_self (b ⊕ c))

pub sel-double : (s : Bool) (m : ℕ) → 2 * sel s (2 ^ m) ≡ sel s (2 ^ suc m)
sel-double true m = let e : 2 * 2 ^ m ≡ 2 ^ suc m = omega arith in e
sel-double false m = refl

sel-shl : (s : Bool) (m l : ℕ) → sel s (2 ^ m) * 2 ^ l ≡ sel s (2 ^ (m + l))
sel-shl true m l = sym (pow-add 2 m l)
sel-shl false m l = zero-mul (2 ^ l)

pub mod-double : (j x : ℕ) → 2 * x % 2 ^ suc j ≡ 2 * (x % 2 ^ j)
mod-double j x =
    let half : 2 * x / 2 ≡ x = omega arith in
    ap (λ (k : ℕ). 2 * x % 2 ^ k) (sym (add-one j)) ∙ mod-pow-add (2 * x) j 1
    ∙ ap (λ (y : ℕ). y % 2 ^ j * 2 + 2 * x % 2) half ∙ omega arith

-- what is shifted up by l has l zeros below
pub shl-low : (x j l : ℕ) → j ≤ l → x * 2 ^ l % 2 ^ j ≡ 0
shl-low x j l h =
    ap (λ (k : ℕ). x * 2 ^ k % 2 ^ j) (omega arith)
    ∙ ap (λ (y : ℕ). x * y % 2 ^ j) (pow-add 2 (l - j) j)
    ∙ ap (λ (y : ℕ). y % 2 ^ j) (sym (mul_assoc x (2 ^ (l - j)) (2 ^ j)))
    ∙ mul-mod_left (x * 2 ^ (l - j)) (2 ^ j)

pub shifted-low : (N l j x : ℕ) → l ≤ N → j ≤ l → shifted N l x % 2 ^ j ≡ 0
shifted-low N l j x h b =
    ap (λ (k : ℕ). shifted k l x % 2 ^ j) (omega arith)
    ∙ ap (λ (y : ℕ). y % 2 ^ j) (shifted-mod (N - l) l x)
    ∙ shl-low (x % 2 ^ (N - l)) j l b

-- what is shifted to 0 was 0 in the bits that stay
pub shifted-kernel : (N l j x : ℕ) → l + j ≤ N → shifted N l x ≡ 0 → x % 2 ^ j ≡ 0
shifted-kernel N l j x h e =
    let m = N - l in
    let wide : N ≡ m + l = omega arith in
    let none : x % 2 ^ m * 2 ^ l ≡ 0 = sym (shifted-mod m l x) ∙ ap (λ (k : ℕ). shifted k l x) (sym wide) ∙ e in
    let rest : x % 2 ^ m ≡ 0 = sym (shl-shr (x % 2 ^ m) l) ∙ ap (λ (y : ℕ). y / 2 ^ l) none ∙ zero-div (2 ^ l) in
    sym (mod-mod-pow x (m - j) j) ∙ ap (λ (k : ℕ). x % 2 ^ k % 2 ^ j) (omega arith) ∙ ap (λ (y : ℕ). y % 2 ^ j) rest
    ∙ zero-mod (2 ^ j)

-- shifting twice a word, with room for one bit more
pub shifted-double : (m l x : ℕ)
    → shifted (suc (suc m) + l) l (2 * x) ≡ 2 * shifted (m + l) l x ⊕ sel (bit m x) (2 ^ suc (m + l))
shifted-double m l x =
    shifted-mod (suc (suc m)) l (2 * x)
    ∙ ap (λ (y : ℕ). y * 2 ^ l) (mod-double (suc m) x)
    ∙ mul_assoc 2 (x % 2 ^ suc m) (2 ^ l)
    ∙ ap (λ (y : ℕ). 2 * y)
    (ap (λ (y : ℕ). y * 2 ^ l) (mod-top m x) ∙ xor-shl (x % 2 ^ m) (sel (bit m x) (2 ^ m)) l
    ∙ ap₂ ◌⊕◌ (sym (shifted-mod m l x)) (sel-shl (bit m x) m l))
    ∙ xor-double (shifted (m + l) l x) (sel (bit m x) (2 ^ (m + l)))
    ∙ ap (λ (y : ℕ). 2 * shifted (m + l) l x ⊕ y) (sel-double (bit m x) (m + l))

pub shifted-out : (m l p : ℕ) (s : Bool) → m ≤ p → shifted (m + l) l (sel s (2 ^ p)) ≡ 0
shifted-out m l p true h =
    shifted-mod m l (2 ^ p)
    ∙ ap (λ (y : ℕ). y * 2 ^ l) (ap (λ (y : ℕ). y % 2 ^ m) (sym (one-mul (2 ^ p))) ∙ shl-low 1 m p h) ∙ zero-mul (2 ^ l)
shifted-out m l p false h = shifted-zero (m + l) l

pub shifted_one : (m l : ℕ) (s : Bool) → shifted (suc m + l) l (sel s 1) ≡ sel s (2 ^ l)
shifted_one m l true =
    shifted-mod (suc m) l 1
    ∙ ap (λ (y : ℕ). y * 2 ^ l) (mod-eq_of_lt (let p = pow_pos m in omega arith))
    ∙ one-mul (2 ^ l)
shifted_one m l false = shifted-zero (suc m + l) l

pub parity-xor-r : (k a x y : ℕ) → common_parity k a (x ⊕ y) ≡ xor (common_parity k a x) (common_parity k a y)
parity-xor-r k a x y =
    parity-comm k a (x ⊕ y) ∙ parity-xor k x y a ∙ ap₂ xor (parity-comm k x a) (parity-comm k y a)

-- ---- bits

-- a word is its low bits and its top one
pub top-none : (n e : ℕ) → e < 2 ^ suc n → bit n e ≡ false → e < 2 ^ n
top-none n e h none =
    let same : e ≡ e % 2 ^ n =
    sym (mod-eq_of_lt h) ∙ mod-top n e ∙ ap (λ (s : Bool). e % 2 ^ n ⊕ sel s (2 ^ n)) none ∙ xor_zero_r (e % 2 ^ n)
    in
    subst (λ (x : ℕ). x < 2 ^ n) (sym same) (mod-lt e (pow_pos n))

-- a word without ones is 0
pub bits_none : (k a : ℕ) → a < 2 ^ k → ((i : ℕ) → i < k → bit i a ≡ false) → a ≡ 0
bits_none zero a h none = omega arith
bits_none (suc k) a h none =
    let low : a % 2 ≡ 0 = odd-mod a ∙ ap digit (sym (bit-zero a) ∙ none 0 (omega arith)) in
    let high : a / 2 ≡ 0 = bits_none k (a / 2) (omega arith) (λ i l. sym (bit-suc i a) ∙ none (suc i) (omega arith)) in
    omega arith

pub bit-sel : (p : ℕ) (s : Bool) → bit p (sel s (2 ^ p)) ≡ s
bit-sel p true = bit-pow p
bit-sel p false = bit-none p 0 (pow_pos p)

pub bit-sel-other : (p q : ℕ) (s : Bool) → p ≢ q → bit p (sel s (2 ^ q)) ≡ false
bit-sel-other p q true h = bit-pow-other p q h
bit-sel-other p q false h = bit-none p 0 (pow_pos p)

-- the word with given bits
pub packed : (ℕ → Bool) → ℕ → ℕ
packed g zero = 0
packed g (suc k) = packed g k ⊕ sel (g k) (2 ^ k)

pub packed_lt : (g : ℕ → Bool) (k : ℕ) → packed g k < 2 ^ k
unfolding packed
packed_lt g zero = pow_pos 0
packed_lt g (suc k) =
    let h = packed_lt g k in
    xor_lt (suc k) (packed g k) (sel (g k) (2 ^ k)) (omega arith)
    (sel-lt (suc k) (g k) (2 ^ k) (pow-lt (le_refl (suc k))))

pub packed-bit : (g : ℕ → Bool) (k i : ℕ) → i < k → bit i (packed g k) ≡ g i
unfolding packed
packed-bit g zero i h = absurd (omega arith)
packed-bit g (suc k) i h =
    bit-xor i (packed g k) (sel (g k) (2 ^ k)) ∙ go (λ l. packed-bit g k i l) (dec_le (suc i) k)
  where
    go : (i < k → bit i (packed g k) ≡ g i) → Dec (i < k) → xor (bit i (packed g k)) (bit i (sel (g k) (2 ^ k))) ≡ g i
    go ih (yes l) = ap₂ xor (ih l) (bit-sel-other i k (g k) (omega arith)) ∙ xor-false-r (g i)
    go ih (no l) =
        let e : k ≡ i = omega arith in
        subst (λ (m : ℕ). xor (bit m (packed g k)) (bit m (sel (g k) (2 ^ k))) ≡ g m) e
        (ap₂ xor (bit-none k (packed g k) (packed_lt g k)) (bit-sel k (g k)) ∙ xor-false-l (g k))

pub packed-same : (g h : ℕ → Bool) (k : ℕ) → ((i : ℕ) → i < k → g i ≡ h i) → packed g k ≡ packed h k
unfolding packed
packed-same g h zero same = refl
packed-same g h (suc k) same =
    ap₂ ◌⊕◌ (packed-same g h k (λ i l. same i (omega arith)))
    (ap (λ (s : Bool). sel s (2 ^ k)) (same k (le_refl (suc k))))

pub packed-xor : (g h : ℕ → Bool) (k : ℕ) → packed (λ i. xor (g i) (h i)) k ≡ packed g k ⊕ packed h k
unfolding packed
packed-xor g h zero = sym (xor_zero_l 0)
packed-xor g h (suc k) =
    ap₂ ◌⊕◌ (packed-xor g h k) (sel-xor (g k) (h k) (2 ^ k))
    ∙ xor-swap (packed g k) (packed h k) (sel (g k) (2 ^ k)) (sel (h k) (2 ^ k))

-- ---- linear maps

abbrev pub Linear : (ℕ → ℕ) → Type 0
Linear f = (a b : ℕ) → f (a ⊕ b) ≡ f a ⊕ f b

pub linear-zero : (f : ℕ → ℕ) → Linear f → f 0 ≡ 0
linear-zero f fx = ap f (sym (xor_zero_l 0)) ∙ fx 0 0 ∙ xor_self (f 0)

linear-step : (f g : ℕ → ℕ) → Linear f → Linear g → (k c : ℕ) → c < 2 ^ suc k → f (2 ^ k) ≡ g (2 ^ k)
    → ((d : ℕ) → d < 2 ^ k → f d ≡ g d) → Dec (2 ^ k ≤ c) → f c ≡ g c
linear-step f g fx gx k c h top rest (yes l) =
    let d = c - 2 ^ k in
    let e : c ≡ 2 ^ k ⊕ d = subst (λ (x : ℕ). x ≡ 2 ^ k ⊕ d) (omega arith) (pow-add-xor k d (omega arith)) in
    ap f e ∙ fx (2 ^ k) d ∙ ap₂ ◌⊕◌ top (rest d (omega arith)) ∙ sym (gx (2 ^ k) d) ∙ ap g (sym e)
linear-step f g fx gx k c h top rest (no l) = rest c (omega arith)

-- linear maps that agree at single ones agree
pub linear-same : (f g : ℕ → ℕ) → Linear f → Linear g → (k : ℕ) → ((i : ℕ) → i < k → f (2 ^ i) ≡ g (2 ^ i))
    → (c : ℕ) → c < 2 ^ k → f c ≡ g c
linear-same f g fx gx zero same c h =
    let none : c ≡ 0 = omega arith in ap f none ∙ linear-zero f fx ∙ sym (linear-zero g gx) ∙ ap g (sym none)
linear-same f g fx gx (suc k) same c h =
    linear-step f g fx gx k c h (same k (le_refl (suc k))) (linear-same f g fx gx k (λ i l. same i (omega arith)))
    (dec_le (2 ^ k) c)

pub linear-join : (f g : ℕ → ℕ) → Linear f → Linear g → Linear (λ x. f x ⊕ g x)
linear-join f g fx gx a b = ap₂ ◌⊕◌ (fx a b) (gx a b) ∙ xor-swap (f a) (f b) (g a) (g b)

pub linear-different : (k : ℕ) (f : ℕ → ℕ) → Linear f → ((c : ℕ) → c < 2 ^ k → f c ≡ 0 → c ≡ 0)
    → (c d : ℕ) → c < 2 ^ k → d < 2 ^ k → f c ≡ f d → c ≡ d
linear-different k f fx kernel c d hc hd e =
    xor-eq c d (kernel (c ⊕ d) (xor_lt k c d hc hd) (fx c d ∙ ap (λ (x : ℕ). x ⊕ f d) e ∙ xor_self (f d)))

pub linear-sel : (β : ℕ → Bool) → ((a b : ℕ) → β (a ⊕ b) ≡ xor (β a) (β b)) → (w : ℕ) → Linear (λ x. sel (β x) w)
linear-sel β βx w a b = ap (λ (s : Bool). sel s w) (βx a b) ∙ sel-xor (β a) (β b) w

pub digit-eq : (s t : Bool) → digit s ≡ digit t → s ≡ t
digit-eq s t e = sym (odd-digit s) ∙ ap odd e ∙ odd-digit t

-- the same of truth values
pub parity-same : (β γ : ℕ → Bool) → ((a b : ℕ) → β (a ⊕ b) ≡ xor (β a) (β b))
    → ((a b : ℕ) → γ (a ⊕ b) ≡ xor (γ a) (γ b))
    → (k : ℕ) → ((i : ℕ) → i < k → β (2 ^ i) ≡ γ (2 ^ i)) → (c : ℕ) → c < 2 ^ k → β c ≡ γ c
parity-same β γ βx γx k same c h =
    digit-eq (β c) (γ c)
    (linear-same (λ x. digit (β x)) (λ x. digit (γ x)) (linear-sel β βx 1) (linear-sel γ γx 1) k
    (λ i l. ap digit (same i l)) c h)

-- ---- lists by their entries

unfoldable pub listed : (ℕ → ℕ) → ℕ → List ℕ
listed f zero = []
listed f (suc k) = listed f k ++ (f k ∷ [])

pub listed-zero : (f : ℕ → ℕ) → listed f 0 ≡ []
unfolding listed
listed-zero f = refl

pub listed_suc : (f : ℕ → ℕ) (k : ℕ) → listed f (suc k) ≡ listed f k ++ (f k ∷ [])
unfolding listed
listed_suc f k = refl

pub length-listed : (f : ℕ → ℕ) (k : ℕ) → length (listed f k) ≡ k
unfolding listed
length-listed f zero = refl
length-listed f (suc k) = length-append (listed f k) (f k ∷ []) ∙ ap (λ (n : ℕ). n + 1) (length-listed f k) ∙ add-one k

pub get_or-listed : (f : ℕ → ℕ) (k i : ℕ) → i < k → get_or (listed f k) i 0 ≡ f i
unfolding listed
get_or-listed f zero i h = absurd (omega arith)
get_or-listed f (suc k) i h = go (λ l. get_or-listed f k i l) (dec_le (suc i) k)
  where
    go : (i < k → get_or (listed f k) i 0 ≡ f i) → Dec (i < k) → get_or (listed f k ++ (f k ∷ [])) i 0 ≡ f i
    go ih (yes l) = get_or-append (listed f k) (f k ∷ []) 0 i (rw (length-listed f k) l) ∙ ih l
    go ih (no l) =
        let e : k ≡ i = omega arith in
        get_or_at (listed f k) (f k) [] 0 i (length-listed f k ∙ e) ∙ ap f e

-- a linear map is the combination of its values at single ones
pub linear-listed : (k : ℕ) (f : ℕ → ℕ) → Linear f → (c : ℕ) → c < 2 ^ k
    → combination (listed (λ i. f (2 ^ i)) k) c ≡ f c
linear-listed k f fx =
    let ws = listed (λ i. f (2 ^ i)) k in
    linear-same (combination ws) f (combination-xor ws) fx k
    (λ i l. combination-pow ws i ∙ get_or-listed (λ i. f (2 ^ i)) k i l)

-- a linear map of k-bit words that maps only 0 to 0 reaches every word
pub linear-onto : (k : ℕ) (f : ℕ → ℕ) → Linear f → ((c : ℕ) → c < 2 ^ k → f c < 2 ^ k)
    → ((c : ℕ) → c < 2 ^ k → f c ≡ 0 → c ≡ 0)
    → (y : ℕ) → y < 2 ^ k → (c : ℕ) × (c < 2 ^ k) × (f c ≡ y)
linear-onto k f fx into kernel y h =
    let ws = listed (λ i. f (2 ^ i)) k in
    let size : length ws ≡ k = length-listed (λ i. f (2 ^ i)) k in
    let bound : Below k ws = λ i l.
    let p : i < k = rw size at l in
    subst (λ (x : ℕ). x < 2 ^ k) (sym (get_or-listed (λ i. f (2 ^ i)) k i p)) (into (2 ^ i) (pow-lt p))
    in
    let free : Independent ws = λ c l e. let p : c < 2 ^ k = rw size at l in
    kernel c p (sym (linear-listed k f fx c p) ∙ e) in
    let r = spanning k ws bound free size y h in
    let p : r.0 < 2 ^ k = (rw size at r).1 in
    (r.0, p, sym (linear-listed k f fx r.0 p) ∙ r.2)
