-- Laws of a load. Assumes nothing.
--
--   length-errors, errors-at, errors-cut   a burst: its length, its blocks, and a part of it
--   length-round   how many blocks a round has
--   rounds-long    k rounds have k blocks at least
--   take-append    a cut of two lists, one after the other
--   load_rounds, load_length, load_cut, load_below   the theorems
--   load-round     a load is a round, cut, and a load of what is left
--   load_at        what stands at a place of a load, if it is not 0, stands there in its rounds
--   zeros-below    zeros are below any 2^n
use mathlib.Core.Path.{◌≡◌, refl, sym, ap, ◌∙◌}
use mathlib.Core.Logic.{◌≢◌}
use mathlib.Core.List.{List, [], ◌∷◌, ◌++◌, append-nil}
use Prim.Native.Nat.{ℕ, zero, suc, ◌+◌, ◌-◌, ◌%◌, ◌^◌, ◌≤◌, ◌<◌, min}
use native.Mathlib.Nat.{mod-lt}
use native.Mathlib.Decide.{dec_lt}
use native.Mathlib.Omega.{arith}
use lib.ListN.{length, get_or, take, replicate, length-append, length-replicate, get_or-eq_default}
use lib.Pow.{pow_pos}
use lib.Seq.{take-append-le, take-append-add, take-take, take_all, length-take-le, get_or-take}
use Rattle.span.specs.Combination.{Below}
use Rattle.span.proofs.Combination.{below-append}
use Rattle.tables.proofs.Fit.{zeros-at}
use Rattle.load.specs.Draws.{next_state, after}
use Rattle.load.specs.Load.{errors, burst_length, gap_length, after_round, round, rounds, load, LoadLength}
use Rattle.load.specs.Load.{LoadRounds, LoadCut, LoadBelow}

-- ---- a burst

pub length-errors : (n k x : ℕ) → length (errors n k x) ≡ k
unfolding errors
length-errors n zero x = refl
length-errors n (suc k) x = ap suc (length-errors n k (next_state x))

pub errors-at : (n k x i : ℕ) → i < k → get_or (errors n k x) i 0 ≡ next_state (after i x) % 2 ^ n
unfolding errors after
errors-at n zero x i h = absurd (omega arith)
errors-at n (suc k) x zero h = refl
errors-at n (suc k) x (suc i) h = errors-at n k (next_state x) i (omega arith)

pub errors-cut : (n j k i x : ℕ) → i ≡ min k j → take j (errors n k x) ≡ errors n i x
unfolding errors
errors-cut n zero k zero x e = refl
errors-cut n zero k (suc i) x e = absurd (omega arith)
errors-cut n (suc j) zero zero x e = refl
errors-cut n (suc j) zero (suc i) x e = absurd (omega arith)
errors-cut n (suc j) (suc k) zero x e = absurd (omega arith)
errors-cut n (suc j) (suc k) (suc i) x e =
    ap (λ (l : List ℕ). next_state x % 2 ^ n ∷ l) (errors-cut n j k i (next_state x) (omega arith))

-- ---- rounds

pub length-round : (n m guard x : ℕ) → length (round n m guard x) ≡ burst_length m x + gap_length m guard x
length-round n m guard x =
    let e = length-append (errors n (burst_length m x) (next_state x)) (replicate (gap_length m guard x) 0) in
    let f = length-errors n (burst_length m x) (next_state x) in
    let g = length-replicate {A = ℕ} (gap_length m guard x) 0 in
    omega arith

pub rounds-long : (n m guard k x : ℕ) → k ≤ length (rounds n m guard k x)
unfolding rounds
rounds-long n m guard zero x = omega arith
rounds-long n m guard (suc k) x =
    let e = length-append (round n m guard x) (rounds n m guard k (after_round m x)) in
    let f = length-round n m guard x in
    let g = rounds-long n m guard k (after_round m x) in
    omega arith

-- a cut of two lists
pub take-append : (xs ys : List ℕ) (k : ℕ) → take k (xs ++ ys) ≡ take k xs ++ take (k - length xs) ys
take-append xs ys k = go (dec_lt (length xs) k)
  where
    go : Dec (length xs < k) → take k (xs ++ ys) ≡ take k xs ++ take (k - length xs) ys
    go (yes h) =
        let e : k ≡ length xs + (k - length xs) = omega arith in
        ap (λ (j : ℕ). take j (xs ++ ys)) e ∙ take-append-add xs ys (k - length xs)
        ∙ ap (λ (l : List ℕ). l ++ take (k - length xs) ys) (sym (take_all k xs (omega arith)))
    go (no h) =
        let e : k - length xs ≡ 0 = omega arith in
        take-append-le k xs ys (omega arith) ∙ sym (append-nil (take k xs))
        ∙ sym (ap (λ (j : ℕ). take k xs ++ take j ys) e)

take_none : (xs ys : List ℕ) (k : ℕ) → k ≤ 0 → take k xs ≡ take k ys
take_none xs ys k h =
    let e : k ≡ 0 = omega arith in
    ap (λ (j : ℕ). take j xs) e ∙ sym (ap (λ (j : ℕ). take j ys) e)

-- rounds that are enough agree
rounds-agree : (n m guard i j x k : ℕ) → k ≤ length (rounds n m guard i x) → k ≤ length (rounds n m guard j x)
    → take k (rounds n m guard i x) ≡ take k (rounds n m guard j x)
unfolding rounds
rounds-agree n m guard zero j x k a b = take_none [] (rounds n m guard j x) k a
rounds-agree n m guard (suc i) zero x k a b = take_none (rounds n m guard (suc i) x) [] k b
rounds-agree n m guard (suc i) (suc j) x k a b =
    let r = round n m guard x in
    let y = after_round m x in
    let e = length-append r (rounds n m guard i y) in
    let f = length-append r (rounds n m guard j y) in
    take-append r (rounds n m guard i y) k
    ∙ ap (λ (l : List ℕ). take k r ++ l) (rounds-agree n m guard i j y (k - length r) (omega arith) (omega arith))
    ∙ sym (take-append r (rounds n m guard j y) k)

pub load_rounds : LoadRounds
unfolding load
load_rounds n m guard seed k j h = rounds-agree n m guard j k seed k h (rounds-long n m guard k seed)

pub load_length : LoadLength
unfolding load
load_length n m guard seed k = length-take-le k (rounds n m guard k seed) (rounds-long n m guard k seed)

pub load_cut : LoadCut
unfolding load
load_cut n m guard seed k l h =
    let e = rounds-long n m guard l seed in
    take-take k l (rounds n m guard l seed) h ∙ load_rounds n m guard seed k l (omega arith)

-- how a load goes on
pub load-round : (n m guard x k : ℕ)
    → let r = round n m guard x in
    load n m guard x k ≡ take k r ++ load n m guard (after_round m x) (k - length r)
unfolding load rounds
load-round n m guard x zero =
    let r = round n m guard x in
    let e : 0 - length r ≡ 0 = omega arith in
    sym (ap (load n m guard (after_round m x)) e)
load-round n m guard x (suc k) =
    let r = round n m guard x in
    let y = after_round m x in
    let f = length-round n m guard x in
    let g = rounds-long n m guard k y in
    take-append r (rounds n m guard k y) (suc k)
    ∙ ap (λ (l : List ℕ). take (suc k) r ++ l) (load_rounds n m guard y (suc k - length r) k (omega arith))

pub load_at : (n m guard x k i : ℕ) → get_or (load n m guard x k) i 0 ≢ 0
    → get_or (load n m guard x k) i 0 ≡ get_or (rounds n m guard k x) i 0
unfolding load
load_at n m guard x k i some = go (dec_lt i k)
  where
    go : Dec (i < k) → get_or (take k (rounds n m guard k x)) i 0 ≡ get_or (rounds n m guard k x) i 0
    go (yes h) = get_or-take k (rounds n m guard k x) i 0 h
    go (no h) =
        let size = length-take-le k (rounds n m guard k x) (rounds-long n m guard k x) in
        absurd (some (get_or-eq_default (take k (rounds n m guard k x)) 0 {n = i} (omega arith)))

-- ---- its blocks

errors_below : (n k x : ℕ) → Below n (errors n k x)
errors_below n k x i h =
    let size = length-errors n k x in
    rw (errors-at n k x i (omega arith)) (mod-lt (next_state (after i x)) (pow_pos n))

pub zeros-below : (n k : ℕ) → Below n (replicate k 0)
zeros-below n k i h = rw (zeros-at k i) (pow_pos n)

rounds-below : (n m guard k x : ℕ) → Below n (rounds n m guard k x)
unfolding rounds
rounds-below n m guard zero x = λ i h. absurd (omega arith)
rounds-below n m guard (suc k) x =
    below-append n (round n m guard x) (rounds n m guard k (after_round m x))
    (below-append n (errors n (burst_length m x) (next_state x)) (replicate (gap_length m guard x) 0)
    (errors_below n (burst_length m x) (next_state x)) (zeros-below n (gap_length m guard x)))
    (rounds-below n m guard k (after_round m x))

pub load_below : LoadBelow
unfolding load
load_below n m guard x k i h =
    let size = length-take-le k (rounds n m guard k x) (rounds-long n m guard k x) in
    let long = rounds-long n m guard k x in
    rw (get_or-take k (rounds n m guard k x) i 0 (omega arith)) (rounds-below n m guard k x i (omega arith))
