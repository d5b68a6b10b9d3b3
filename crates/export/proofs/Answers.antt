-- The range of a mark's number, and the number of an answer of an answer alone. Assumes nothing.
use mathlib.Core.Path.{◌≡◌, refl}
use mathlib.Core.List.{List, [], ◌∷◌}
use Prim.Native.Nat.{ℕ, ◌≤◌}
use native.Mathlib.Omega.{arith}
use Rattle.link.specs.declared.decode.Mark.{Mark}
use Rattle.link.specs.declared.decode.Mark.TheVariants.{Clean, Held, Corrected, Doubtful, Parity}
use Rattle.std.specs.Prelude.{Some, None, Result, Ok, Err, IfErr, OnOk}
use Rattle.link.specs.Decoder.{mark_number}
use Rattle.export.specs.Answers.{number_of, MarkRange}

pub mark-range : MarkRange
mark-range (Ok None) = omega arith
mark-range (Err e) = omega arith
mark-range (Ok (Some d)) = go d.mark
  where
    go : (k : Mark) → mark_number k ≤ 5
    go Clean = omega arith
    go Held = omega arith
    go (Corrected e) = omega arith
    go Doubtful = omega arith
    go (Parity e) = omega arith

pub refused_is : {T E : Type 0} (number : E → ℕ) (numbers : Result T E → List ℕ)
    → ((t : T) → numbers (Ok t) ≡ 0 ∷ []) → ((e : E) → numbers (Err e) ≡ number e ∷ [])
    → (r : Result T E) (k : ℕ) → OnOk r (k ≡ 0) → IfErr r (λ e. k ≡ number e) → k ≡ number_of (numbers r)
refused_is number numbers ok err (Ok u) k none some = rw (ok u, none) refl
refused_is number numbers ok err (Err e) k none some = rw (err e, some) refl
