-- How lent blocks come to hold a load: a round at a time. Assumes nothing.
--
--   round_filled   errors and then zeros in their places, cut where the blocks end, are a round
--   Goes           so many blocks are filled, and what is left of the load is that of the generator's state
--   goes_first, goes_on, goes-all   at first, after one more round, and at the end
use mathlib.Core.Path.{◌≡◌, refl, sym, ap, ◌∙◌}
use mathlib.Core.List.{List, [], ◌∷◌, ◌++◌, append_assoc, append-nil}
use Prim.Native.Nat.{ℕ, zero, suc, ◌+◌, ◌-◌, ◌%◌, ◌≤◌, ◌<◌, min}
use native.Mathlib.Nat.{sub-zero}
use native.Mathlib.Decide.{dec_lt}
use native.Mathlib.Omega.{arith}
use borrow.Rule.Slice.PartMut.{put_mid, Post-is}
use lib.ListN.{length, take, drop, replicate, length-append, length-replicate, length-take}
use lib.Seq.{take_all, take_at, drop_at, length-take-le, take-append-add}
use Rattle.load.specs.Draws.{next_state, after}
use Rattle.load.specs.Load.{errors, burst_length, gap_length, after_round, round, load}
use Rattle.load.proofs.Load.{length-errors, errors-cut, length-round, take-append, load-round}

take-zeros : (j k i : ℕ) → i ≡ min j k → take j (replicate {A = ℕ} k 0) ≡ replicate i 0
take-zeros zero k zero e = refl
take-zeros zero k (suc i) e = absurd (omega arith)
take-zeros (suc j) zero zero e = refl
take-zeros (suc j) zero (suc i) e = absurd (omega arith)
take-zeros (suc j) (suc k) zero e = absurd (omega arith)
take-zeros (suc j) (suc k) (suc i) e = ap (λ (l : List ℕ). 0 ∷ l) (take-zeros j k i (omega arith))

-- a part filled in the front, and then one after it
put-after : (out es zs : List ℕ) (b e : ℕ) → length es ≡ b → b ≤ e
    → put_mid b (e - b) (es ++ drop b out) zs ≡ es ++ zs ++ drop e out
put-after out es zs b e size h =
    let x = es ++ drop b out in
    ap (λ (l : List ℕ). l ++ (zs ++ drop (e - b) (drop b x))) (take_at es (drop b out) b size)
    ∙ ap (λ (l : List ℕ). es ++ (zs ++ drop (e - b) l)) (drop_at es (drop b out) b size)
    ∙ ap (λ (l : List ℕ). es ++ (zs ++ l)) (Post-is b e out h)
    ∙ sym (append_assoc es zs (drop e out))

module _ (n m guard x : ℕ) (out es zs : List ℕ) (b e g : ℕ) (burst : b ≡ min (burst_length m x) (length out))
    (errors-are : es ≡ errors n b (next_state x)) (drawn : g ≡ after b (next_state x))
    (end : e ≡ min (b + guard + next_state g % 16) (length out)) (zeros-are : zs ≡ replicate (e - b) 0) where
  -- where the blocks end in the burst the gap's draw does not count
  gap_is : e - b ≡ min (length out - burst_length m x) (gap_length m guard x)
  gap_is = go (dec_lt (burst_length m x) (length out))
    where
      go : Dec (burst_length m x < length out) → e - b ≡ min (length out - burst_length m x) (gap_length m guard x)
      go (yes h) =
          let whole : b ≡ burst_length m x = omega arith in
          let same = drawn ∙ ap (λ (k : ℕ). after k (next_state x)) whole in
          let gap = ap (λ (y : ℕ). next_state y % 16) same in
          omega arith
      go (no h) = omega arith

  cut : take (length out) (round n m guard x) ≡ es ++ zs
  cut =
      let size = length-errors n (burst_length m x) (next_state x) in
      let gap = gap_is ∙ sym (ap (λ (k : ℕ). min (length out - k) (gap_length m guard x)) size) in
      let rest = length out - length (errors n (burst_length m x) (next_state x)) in
      take-append (errors n (burst_length m x) (next_state x)) (replicate (gap_length m guard x) 0) (length out)
      ∙ ap (λ (l : List ℕ). l ++ take rest (replicate (gap_length m guard x) 0))
      (errors-cut n (length out) (burst_length m x) b (next_state x) burst ∙ sym errors-are)
      ∙ ap (λ (l : List ℕ). es ++ l)
      (take-zeros rest (gap_length m guard x) (e - b) gap ∙ sym zeros-are)

  size_is : e ≡ length (take (length out) (round n m guard x))
  size_is =
      let a = ap length cut in
      let f = length-append es zs in
      let p = ap length errors-are ∙ length-errors n b (next_state x) in
      let q = ap length zeros-are ∙ length-replicate {A = ℕ} (e - b) 0 in
      omega arith

  next-is : e < length out → next_state g ≡ after_round m x
  next-is h =
      let whole : b ≡ burst_length m x = omega arith in
      ap next_state (drawn ∙ ap (λ (k : ℕ). after k (next_state x)) whole)

  pub round_filled : (e ≡ length (take (length out) (round n m guard x)))
      × (put_mid b (e - b) (es ++ drop b out) zs ≡ take (length out) (round n m guard x) ++ drop e out)
      × (e < length out → next_state g ≡ after_round m x)
  round_filled = (
    size_is,
    put-after out es zs b e (ap length errors-are ∙ length-errors n b (next_state x)) (omega arith)
        ∙ ap (λ (l : List ℕ). l ++ drop e out) (sym cut),
    next-is,
  )

-- ---- round after round

-- of L blocks `at` are filled; x is the generator's state
pub record Goes (n m guard seed L at x : ℕ) (out : List ℕ) : Type 0 where
  pub inside : at ≤ L
  pub size : length out ≡ L
  pub rest : load n m guard seed L ≡ take at out ++ load n m guard x (L - at)

load-none : (n m guard x k : ℕ) → k ≡ 0 → load n m guard x k ≡ []
unfolding load
load-none n m guard x k e = ap (load n m guard x) e

pub goes_first : (n m guard seed : ℕ) (out : List ℕ) → Goes n m guard seed (length out) 0 seed out
goes_first n m guard seed out =
    record { inside = omega arith; size = refl; rest = ap (load n m guard seed) (sym (sub-zero (length out))) }

pub goes-all : (n m guard seed L at x : ℕ) (out : List ℕ) → Goes n m guard seed L at x out → L ≤ at
    → out ≡ load n m guard seed L
goes-all n m guard seed L at x out g h =
    let size = g.size in
    sym
    (g.rest ∙ ap (λ (l : List ℕ). take at out ++ l) (load-none n m guard x (L - at) (omega arith))
    ∙ append-nil (take at out) ∙ take_all at out (omega arith))

-- what is left after a round: where that was cut, nothing
left : (n m guard x y k j : ℕ) → k ≡ length (take j (round n m guard x)) → (k < j → y ≡ after_round m x)
    → load n m guard (after_round m x) (j - length (round n m guard x)) ≡ load n m guard y (j - k)
left n m guard x y k j e next = go (dec_lt k j)
  where
    short : k ≡ min j (length (round n m guard x))
    short = e ∙ length-take j (round n m guard x)

    go : Dec (k < j) → load n m guard (after_round m x) (j - length (round n m guard x)) ≡ load n m guard y (j - k)
    go (yes h) =
        let s = short in
        let whole : length (round n m guard x) ≡ k = omega arith in
        ap (λ (l : ℕ). load n m guard (after_round m x) (j - l)) whole
        ∙ ap (λ (z : ℕ). load n m guard z (j - k)) (sym (next h))
    go (no h) =
        let s = short in
        load-none n m guard (after_round m x) (j - length (round n m guard x)) (omega arith)
        ∙ sym (load-none n m guard y (j - k) (omega arith))

-- what is filled after a round
filled : (out r rest past : List ℕ) (at k : ℕ) → at ≤ length out → length r ≡ k
    → take (at + k) (take at out ++ (r ++ rest ++ past)) ≡ take at out ++ r
filled out r rest past at k h size =
    let p = take at out in
    let here = length-take-le at out h in
    ap (λ (j : ℕ). take (j + k) (p ++ (r ++ rest ++ past))) (sym here) ∙ take-append-add p (r ++ rest ++ past) k
    ∙ ap (λ (l : List ℕ). p ++ take k l) (append_assoc r rest past)
    ∙ ap (λ (l : List ℕ). p ++ l) (take_at r (rest ++ past) k size)

-- the round is filled into the i blocks that are left
pub goes_on : (n m guard seed L at x k y i : ℕ) (out ys rest past : List ℕ) → Goes n m guard seed L at x out → at < L
    → i ≡ L - at → k ≡ length (take i (round n m guard x)) → ys ≡ take i (round n m guard x) ++ rest
    → (k < i → y ≡ after_round m x) → length (take at out ++ (ys ++ past)) ≡ L
    → Goes n m guard seed L (at + k) y (take at out ++ (ys ++ past)) × (1 ≤ k)
goes_on n m guard seed L at x k y i out ys rest past g h here size ys-are next same =
    let r = round n m guard x in
    let long = length-round n m guard x in
    let short = size ∙ length-take i r in
    let all = g.size in
    let sub : i - k ≡ L - (at + k) = omega arith in (
      record {
        inside = omega arith;
        size = same;
        rest =
            g.rest ∙ ap (λ (l : List ℕ). take at out ++ l)
            (ap (load n m guard x) (sym here) ∙ load-round n m guard x i
            ∙ ap (λ (l : List ℕ). take i r ++ l) (left n m guard x y k i size next))
            ∙ sym (append_assoc (take at out) (take i r) (load n m guard y (i - k)))
            ∙ ap (λ (l : List ℕ). l ++ load n m guard y (i - k))
            (sym (filled out (take i r) rest past at k (omega arith) (sym size))
            ∙ sym (ap (λ (l : List ℕ). take (at + k) (take at out ++ (l ++ past))) ys-are))
            ∙ ap (λ (j : ℕ). take (at + k) (take at out ++ (ys ++ past)) ++ load n m guard y j) sub;
      },
      omega arith,
    )
