-- Two wrong places of a load lie in one burst, or have the guard between them: a burst is m blocks at most, and the gap
-- after it m × (N − 1) at least. Assumes nothing.
--
--   Apart m guard xs   so stand any two places of a list, counted from 0, at which it is not 0
--   load_apart         and those of a load
use mathlib.Core.Path.{◌≡◌, refl, ◌∙◌}
use mathlib.Core.Logic.{◌≢◌, ◌⊎◌, inl, inr}
use mathlib.Core.List.{List, ◌++◌}
use Prim.Native.Nat.{ℕ, zero, suc, ◌+◌, ◌-◌, ◌≤◌, ◌<◌}
use native.Mathlib.Nat.{mod-lt}
use native.Mathlib.Decide.{dec_lt}
use native.Mathlib.Omega.{arith}
use lib.ListN.{length, get_or, get_or-append}
use Rattle.span.proofs.Combination.{get_d_past}
use Rattle.tables.proofs.Fit.{padded-zero}
use Rattle.load.specs.Draws.{next_state}
use Rattle.load.specs.Load.{errors, burst_length, gap_length, after_round, round, rounds, load}
use Rattle.load.proofs.Load.{length-errors, length-round, load_at}

abbrev pub Apart : ℕ → ℕ → List ℕ → Type 0
Apart m guard xs = (i j : ℕ) → i < j → get_or xs i 0 ≢ 0 → get_or xs j 0 ≢ 0 → (j < i + m) ⊎ (i + guard < j)

module _ (m guard : ℕ) (some : 1 ≤ m) where
  module _ (n x : ℕ) (rest : List ℕ) where
    abbrev r : List ℕ
    r = round n m guard x

    short : burst_length m x ≤ m
    short = let h = mod-lt (next_state x) {m = m} some in omega arith

    -- no place of the gap is wrong
    in-gap : (i : ℕ) → burst_length m x ≤ i → i < length r → get_or (r ++ rest) i 0 ≡ 0
    in-gap i from to =
        let size = length-errors n (burst_length m x) (next_state x) in
        get_or-append r rest 0 i to
        ∙ padded-zero (errors n (burst_length m x) (next_state x)) (gap_length m guard x) i (omega arith)

    shifted-on : (i j : ℕ) → length r ≤ i → i < j
        → (j - length r < i - length r + m) ⊎ (i - length r + guard < j - length r) → (j < i + m) ⊎ (i + guard < j)
    shifted-on i j h l (inl a) = inl (omega arith)
    shifted-on i j h l (inr a) = inr (omega arith)

    -- a wrong place lies in the burst or past the round
    lies : (i : ℕ) → get_or (r ++ rest) i 0 ≢ 0 → (i < burst_length m x) ⊎ (length r ≤ i)
    lies i u = go (dec_lt i (burst_length m x)) (dec_lt i (length r))
      where
        go : Dec (i < burst_length m x) → Dec (i < length r) → (i < burst_length m x) ⊎ (length r ≤ i)
        go (yes a) b = inl a
        go (no a) (yes b) = absurd (u (in-gap i (omega arith) b))
        go (no a) (no b) = inr (omega arith)

    round-apart : Apart m guard rest → Apart m guard (r ++ rest)
    round-apart later i j l u v = go (lies i u) (lies j v)
      where
        go : (i < burst_length m x) ⊎ (length r ≤ i) → (j < burst_length m x) ⊎ (length r ≤ j)
            → (j < i + m) ⊎ (i + guard < j)
        go (inl a) (inl b) = inl (let s = short in omega arith)
        go (inl a) (inr b) = inr (let s = length-round n m guard x in omega arith)
        go (inr a) (inl b) = absurd (let s = length-round n m guard x in omega arith)
        go (inr a) (inr b) =
            shifted-on i j a l
            (later (i - length r) (j - length r) (omega arith) (λ e. u (get_d_past r rest i a ∙ e))
            (λ e. v (get_d_past r rest j b ∙ e)))

  rounds-apart : (n k x : ℕ) → Apart m guard (rounds n m guard k x)
  unfolding rounds
  rounds-apart n zero x = λ i j l u v. absurd (u refl)
  rounds-apart n (suc k) x =
      round-apart n x (rounds n m guard k (after_round m x)) (rounds-apart n k (after_round m x))

  pub load_apart : (n x k : ℕ) → Apart m guard (load n m guard x k)
  load_apart n x k i j l u v =
      rounds-apart n k x i j l (λ e. u (load_at n m guard x k i u ∙ e)) (λ e. v (load_at n m guard x k j v ∙ e))
