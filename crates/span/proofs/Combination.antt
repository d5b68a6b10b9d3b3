-- The laws of linear combinations: linear in the coefficients, carried by every linear map, and split over append.
-- Assumes nothing.
use Rattle.std.proofs.Common.{◌≡◌, ℕ, zero, suc, ◌+◌, ◌-◌, ◌/◌, ◌%◌, ◌^◌, ◌<◌, ◌≤◌, min, Bool, true, false, List, []}
use Rattle.std.proofs.Common.{◌∷◌, ◌++◌, map, length, get_or, take, drop, sym, refl, ap, ◌∙◌, subst, ap₂, zero-lt-suc}
use Rattle.std.proofs.Common.{div-one, add-one, one-add, arith, length-append, take-append-drop, length-take}
use Rattle.std.proofs.Common.{length-take-le, take_all, get_or-take, take-take, get_or-append-add, pow_pos, shr-shr}
use native.Mathlib.Nat.{div-eq_of_lt}
use native.Mathlib.Decide.{dec_lt}
use lib.Pow.{mod-mod-pow, field}
use lib.ListN.{get_or-append}
use lib.Seq.{get_or-append_seam}
use Rattle.span.specs.Word.{◌⊕◌, odd, bit, sel}
use Rattle.span.specs.Combination.{combination, Below, counted}
use Rattle.span.specs.Laws.{CombinationLinear}
use Rattle.span.proofs.Word.{xor_zero_l, xor_zero_r, xor_assoc, xor-swap, xor_lt, xor-half, odd-of, odd-mod}
use Rattle.span.proofs.Word.{odd-xor, sel-xor, sel-lt, bit-none, xor_comm, pow-add-xor}

pub combination-zero : (ws : List ℕ) → combination ws 0 ≡ 0
unfolding combination odd
combination-zero [] = refl
combination-zero (w ∷ ws) = xor_zero_l (combination ws 0) ∙ combination-zero ws

pub combination-xor : CombinationLinear
unfolding combination
combination-xor [] c d = sym (xor_zero_l 0)
combination-xor (w ∷ ws) c d =
    ap₂ ◌⊕◌
    (ap (λ (s : Bool). sel s w) (odd-xor c d) ∙ sel-xor (odd c) (odd d) w)
    (ap (combination ws) (xor-half c d) ∙ combination-xor ws (c / 2) (d / 2))
    ∙ xor-swap (sel (odd c) w) (sel (odd d) w) (combination ws (c / 2)) (combination ws (d / 2))

-- the words of the second list are selected by the bits above those of the first
pub combination-append : (us vs : List ℕ) (c : ℕ)
    → combination (us ++ vs) c ≡ combination us c ⊕ combination vs (c / 2 ^ length us)
unfolding combination
combination-append [] vs c = ap (combination vs) (sym (div-one c)) ∙ sym (xor_zero_l (combination vs (c / 1)))
combination-append (u ∷ us) vs c =
    ap (λ (x : ℕ). sel (odd c) u ⊕ x)
    (combination-append us vs (c / 2)
    ∙ ap (λ (x : ℕ). combination us (c / 2) ⊕ combination vs x)
    (shr-shr c 1 (length us) ∙ ap (λ (k : ℕ). c / 2 ^ k) (one-add (length us))))
    ∙ sym (xor_assoc (sel (odd c) u) (combination us (c / 2)) (combination vs (c / 2 ^ suc (length us))))

pub combination-last : (ws : List ℕ) (w c : ℕ)
    → combination (ws ++ (w ∷ [])) c ≡ combination ws c ⊕ sel (bit (length ws) c) w
unfolding combination bit
combination-last ws w c =
    combination-append ws (w ∷ []) c
    ∙ ap (λ (x : ℕ). combination ws c ⊕ x) (xor_zero_r (sel (bit (length ws) c) w))

-- bits past the last word select nothing
pub combination-low : (ws : List ℕ) (c : ℕ) → combination ws (c % 2 ^ length ws) ≡ combination ws c
unfolding combination
combination-low [] c = refl
combination-low (w ∷ ws) c =
    ap₂ (λ (s : Bool) (x : ℕ). sel s w ⊕ x)
    (odd-of (odd c) (c % 2 ^ suc k) (rw (← add-one k) (mod-mod-pow c k 1) ∙ odd-mod c))
    (ap (combination ws) (rw (← add-one k) (field c k 1)) ∙ combination-low ws (c / 2))
  where
    k : ℕ
    k = length ws

-- a single bit selects its word
pub combination-pow : (ws : List ℕ) (i : ℕ) → combination ws (2 ^ i) ≡ get_or ws i 0
unfolding combination odd
combination-pow [] i = refl
combination-pow (w ∷ ws) zero = ap (λ (x : ℕ). w ⊕ x) (combination-zero ws) ∙ xor_zero_r w
combination-pow (w ∷ ws) (suc i) =
    ap₂ (λ (s : Bool) (c : ℕ). sel s w ⊕ combination ws c) (odd-of false (2 ^ suc i) (omega arith)) (omega arith)
    ∙ xor_zero_l (combination ws (2 ^ i))
    ∙ combination-pow ws i

pub below-tail : (N w : ℕ) (ws : List ℕ) → Below N (w ∷ ws) → Below N ws
below-tail N w ws h i l = h (suc i) (omega arith)

pub combination-lt : (N : ℕ) (ws : List ℕ) (c : ℕ) → Below N ws → combination ws c < 2 ^ N
unfolding combination
combination-lt N [] c h = pow_pos N
combination-lt N (w ∷ ws) c h =
    xor_lt N (sel (odd c) w) (combination ws (c / 2))
    (sel-lt N (odd c) w (h 0 (zero-lt-suc (length ws))))
    (combination-lt N ws (c / 2) (below-tail N w ws h))

-- a last word whose bit is not set changes nothing, and one whose bit is set joins in
pub combination-below : (ws : List ℕ) (w c : ℕ) → c < 2 ^ length ws → combination (ws ++ (w ∷ [])) c ≡ combination ws c
combination-below ws w c h =
    combination-last ws w c ∙ ap (λ (s : Bool). combination ws c ⊕ sel s w) (bit-none (length ws) c h)
    ∙ xor_zero_r (combination ws c)

pub combination-above : (ws : List ℕ) (w c : ℕ) → c < 2 ^ length ws
    → combination (ws ++ (w ∷ [])) (2 ^ length ws + c) ≡ combination ws c ⊕ w
combination-above ws w c h =
    ap (combination (ws ++ (w ∷ []))) (pow-add-xor (length ws) c h ∙ xor_comm (2 ^ length ws) c)
    ∙ combination-xor (ws ++ (w ∷ [])) c (2 ^ length ws)
    ∙ ap₂ ◌⊕◌ (combination-below ws w c h) (combination-pow (ws ++ (w ∷ [])) (length ws) ∙ get_or-append_seam ws w [] 0)

-- coefficients below 2^i select among the first i words only
pub combination-take : (ws : List ℕ) (i c : ℕ) → c < 2 ^ i → i ≤ length ws
    → combination (take i ws) c ≡ combination ws c
combination-take ws i c h l =
    let none : c / 2 ^ length (take i ws) ≡ 0 = rw (length-take-le i ws l) (div-eq_of_lt h) in
    sym (ap (λ (l : List ℕ). combination l c) (sym (take-append-drop i ws))
    ∙ combination-append (take i ws) (drop i ws) c
    ∙ ap (λ (x : ℕ). combination (take i ws) c ⊕ combination (drop i ws) x) none
    ∙ ap (λ (x : ℕ). combination (take i ws) c ⊕ x) (combination-zero (drop i ws))
    ∙ xor_zero_r (combination (take i ws) c))

-- a linear map of the words is that map of the combination
pub combination-map : (f : ℕ → ℕ) → f 0 ≡ 0 → ((a b : ℕ) → f (a ⊕ b) ≡ f a ⊕ f b)
    → (ws : List ℕ) (c : ℕ) → combination (map f ws) c ≡ f (combination ws c)
unfolding combination
combination-map f f0 fx [] c = sym f0
combination-map f f0 fx (w ∷ ws) c =
    ap₂ ◌⊕◌ (go (odd c)) (combination-map f f0 fx ws (c / 2)) ∙ sym (fx (sel (odd c) w) (combination ws (c / 2)))
  where
    go : (s : Bool) → sel s (f w) ≡ f (sel s w)
    go true = refl
    go false = sym f0

-- ---- the words that count: how many, which, their bound, and how the code takes them

pub counted-length : (n : ℕ) (ws : List ℕ) → length (counted n ws) ≡ min 32 (min n (length ws))
counted-length n ws = length-take 32 (take n ws) ∙ ap (min 32) (length-take n ws)

-- there is room for them in a basis, whatever the count is
pub counted-most : (n : ℕ) (ws xs : List ℕ) → xs ≡ counted n ws → length xs ≤ 32
counted-most n ws xs e = omega (arith, ap length e, counted-length n ws)

pub counted-at : (n : ℕ) (ws : List ℕ) (i : ℕ) → i < length (counted n ws) → get_or (counted n ws) i 0 ≡ get_or ws i 0
counted-at n ws i h =
    let l = counted-length n ws in
    get_or-take 32 (take n ws) i 0 (omega arith) ∙ get_or-take n ws i 0 (omega arith)

pub counted-below : (N n : ℕ) (ws : List ℕ) → ((i : ℕ) → get_or ws i 0 < 2 ^ N) → Below N (counted n ws)
counted-below N n ws h i l = subst (λ (x : ℕ). x < 2 ^ N) (sym (counted-at n ws i l)) (h i)

pub counted-take : (n : ℕ) (ws : List ℕ) → take (min (min n (length ws)) 32) ws ≡ counted n ws
counted-take n ws =
    let e = min (min n (length ws)) 32 in
    let l = counted-length n ws in
    sym (take-take e n ws (omega arith)) ∙ sym (take-take e 32 (take n ws) (omega arith))
    ∙ take_all e (counted n ws) (omega arith)

-- the words of a list are below a bound, and so those of its front
pub below_left : (N : ℕ) (us vs : List ℕ) → Below N (us ++ vs) → Below N us
below_left N us vs h i l =
    subst (λ (x : ℕ). x < 2 ^ N) (get_or-append us vs 0 i l) (h i (rw (length-append us vs) (omega arith)))

-- past the first of two lists stands the second
pub get_d_past : (us vs : List ℕ) (i : ℕ) → length us ≤ i → get_or (us ++ vs) i 0 ≡ get_or vs (i - length us) 0
get_d_past us vs i h =
    let e : i ≡ length us + (i - length us) = omega arith in
    ap (λ (j : ℕ). get_or (us ++ vs) j 0) e ∙ get_or-append-add us vs (i - length us) 0

-- the words of two lists are below a bound, and so those of both, one after the other
pub below-append : (N : ℕ) (us vs : List ℕ) → Below N us → Below N vs → Below N (us ++ vs)
below-append N us vs f g i h = go (dec_lt i (length us))
  where
    go : Dec (i < length us) → get_or (us ++ vs) i 0 < 2 ^ N
    go (yes l) = rw (get_or-append us vs 0 i l) (f i l)
    go (no l) =
        let s = length-append us vs in
        rw (get_d_past us vs i (omega arith)) (g (i - length us) (omega arith))
