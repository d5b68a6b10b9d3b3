-- Images are linear, and in a suitable table only the zero block has a shifted image as its own. Assumes nothing.
use mathlib.Core.Path.{◌≡◌}
use mathlib.Core.Logic.{◌⊎◌, inl, inr}
use mathlib.Core.List.{List}
use Prim.Native.Nat.{ℕ, ◌-◌, ◌^◌, ◌≤◌, ◌<◌}
use native.Mathlib.Nat.{eq-zero-or-pos}
use native.Mathlib.Omega.{arith}
use lib.ListN.{length}
use Rattle.span.specs.Word.{shifted}
use Rattle.span.specs.Combination.{combination}
use Rattle.span.proofs.Combination.{combination-pow, combination-xor}
use Rattle.tables.specs.Code.{image, shifted_image, Suitable}
use Rattle.tables.specs.Laws.{ImageLaw}

pub images : ImageLaw
unfolding image
images rows = (λ j. combination-pow rows (j - 1), combination-xor rows)

-- in a suitable table only the zero block has a shifted image as its image
pub alike : (N : ℕ) (rows : List ℕ) → Suitable N rows → (l e0 e1 : ℕ) → 1 ≤ l → l < N → e0 < 2 ^ length rows
    → e1 < 2 ^ length rows → combination rows e0 ≡ shifted N l (combination rows e1) → e0 ≡ 0
unfolding image shifted_image
alike N rows suits l e0 e1 from to h0 h1 same = go (eq-zero-or-pos e0)
  where
    go : ((e0 ≡ 0) ⊎ (0 < e0)) → e0 ≡ 0
    go (inl z) = z
    go (inr p) = absurd (suits l e0 e1 (record {
      shift_from = from;
      shift_to = to;
      first_some = λ z. omega arith;
      first_block = h0;
      second_block = h1;
      alike = same;
    }))
