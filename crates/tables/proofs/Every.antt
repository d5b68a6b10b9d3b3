-- A test that is computed at every number below a bound, and what it says of each. Assumes nothing.
use mathlib.Core.Path.{◌≡◌, ap, ◌∙◌}
use mathlib.Core.Bool.{Bool, true, ◌&&◌}
use Prim.Native.Nat.{ℕ, zero, suc, ◌<◌}
use native.Mathlib.Decide.{ℕ_discrete}
use native.Mathlib.Omega.{arith}
use Rattle.tables.proofs.Fit.{and_left, and_right}

unfoldable pub every : (ℕ → Bool) → ℕ → Bool
every f zero = true
every f (suc k) = f k && every f k

pub every-at : (f : ℕ → Bool) (k : ℕ) → every f k ≡ true → (i : ℕ) → i < k → f i ≡ true
unfolding every
every-at f zero e i h = absurd (omega arith)
every-at f (suc k) e i h = go (λ l. every-at f k (and_right (f k) (every f k) e) i l) (ℕ_discrete i k)
  where
    go : (i < k → f i ≡ true) → Dec (i ≡ k) → f i ≡ true
    go rest (yes s) = ap f s ∙ and_left (f k) (every f k) e
    go rest (no s) = rest (omega arith)
