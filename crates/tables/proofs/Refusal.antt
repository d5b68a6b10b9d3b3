-- The first refusal that applies. Assumes nothing.
use mathlib.Core.Path.{◌≡◌, refl}
use mathlib.Core.Bool.{Bool, true, false, cond}
use mathlib.Core.List.{List, [], ◌∷◌}
use Prim.Native.Nat.{ℕ, zero, suc, ◌+◌, ◌<◌}
use lib.ListN.{get_or}
use native.Mathlib.Omega.{arith}
use Rattle.tables.specs.Refusal.{first_of}
use Rattle.tables.specs.Laws.{FirstApplies, FirstNone, FirstRange}

pub first-nil : (k : ℕ) → first_of k [] ≡ 0
unfolding first_of
first-nil k = refl

pub first-cons : (k : ℕ) (b : Bool) (bs : List Bool) → first_of k (b ∷ bs) ≡ cond b k (first_of (suc k) bs)
unfolding first_of
first-cons k true bs = refl
first-cons k false bs = refl

pub first-none : FirstNone
unfolding first_of
first-none k true bs h e = absurd (omega arith)
first-none k false bs h e = (refl, e)

pub first_range : FirstRange
unfolding first_of
first_range k [] some = absurd (some refl)
first_range k (true ∷ bs) some = (omega arith, omega arith)
first_range k (false ∷ bs) some = let r = first_range (suc k) bs some in (omega (arith, r.0), omega (arith, r.1))

pub first-applies : FirstApplies
unfolding first_of
first-applies k [] j h e = absurd (omega arith)
first-applies k (true ∷ bs) zero h e = (omega arith, refl, λ i l. absurd (omega arith))
first-applies k (true ∷ bs) (suc j) h e = absurd (omega arith)
first-applies k (false ∷ bs) zero h e =
    let r = first_range (suc k) bs (λ (z : first_of (suc k) bs ≡ 0). omega arith) in absurd (omega (arith, r.0))
first-applies k (false ∷ bs) (suc j) h e =
    let r =
    first-applies (suc k) bs j (omega arith) (let same : first_of (suc k) bs ≡ suc k + j = omega arith in same) in
    (omega (arith, r.0), r.1, before r.2)
  where
    before : ((i : ℕ) → i < j → get_or bs i true ≡ false) → (i : ℕ) → i < suc j → get_or (false ∷ bs) i true ≡ false
    before rest zero l = refl
    before rest (suc i) l = rest i (omega arith)
