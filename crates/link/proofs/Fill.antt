-- A fill that grows by one a step to where it is complete, and stays: f is the fills before each step, `full` the
-- complete one. Assumes nothing.
--
--   fill_complete   after that many steps it is complete
--   fill_waits      after p steps it has grown by no more than p
use mathlib.Core.Path.{◌≡◌, refl}
use mathlib.Core.Bool.{Bool, true, false, cond}
use mathlib.Core.Logic.{◌⊎◌, inl, inr}
use Prim.Native.Nat.{ℕ, zero, suc, ◌+◌, ◌≤◌, ◌<◌}
use native.Mathlib.Omega.{arith}
use borrow.Author.Tests.{ltb-false}
use lib.Dec.{ltb}

module _ (f : ℕ → ℕ) (full count : ℕ)
    (next : (p : ℕ) → p < count → f (suc p) ≡ cond (ltb (f p) full) (f p + 1) (f p)) where
  fill-grows : (p : ℕ) → p ≤ count → (p ≤ f p) ⊎ (full ≤ f p)
  fill-grows zero h = inl (omega arith)
  fill-grows (suc p) h = go (ltb (f p) full) refl (next p (omega arith)) (fill-grows p (omega arith))
    where
      go : (b : Bool) → ltb (f p) full ≡ b → f (suc p) ≡ cond b (f p + 1) (f p) → (p ≤ f p) ⊎ (full ≤ f p)
          → (suc p ≤ f (suc p)) ⊎ (full ≤ f (suc p))
      go true q e (inl z) = inl (omega arith)
      go true q e (inr z) = inr (omega arith)
      go false q e z = inr (let y = ltb-false (f p) full q in omega arith)

  pub fill_complete : (p : ℕ) → p ≤ count → full ≤ p → full ≤ f p
  fill_complete p h enough = go (fill-grows p h)
    where
      go : (p ≤ f p) ⊎ (full ≤ f p) → full ≤ f p
      go (inl z) = omega arith
      go (inr z) = z

  pub fill_waits : (p : ℕ) → p ≤ count → f p ≤ f 0 + p
  fill_waits zero h = omega arith
  fill_waits (suc p) h = go (ltb (f p) full) (next p (omega arith)) (fill_waits p (omega arith))
    where
      go : (b : Bool) → f (suc p) ≡ cond b (f p + 1) (f p) → f p ≤ f 0 + p → f (suc p) ≤ f 0 + suc p
      go true e z = omega arith
      go false e z = omega arith
