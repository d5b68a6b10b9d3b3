-- The digits of a number. Assumes nothing.
use mathlib.Core.Path.{◌≡◌, refl, sym, ap, ◌∙◌}
use mathlib.Core.Bool.{Bool, true, false}
use mathlib.Core.List.{List, [], ◌∷◌, ◌++◌}
use Prim.Native.Nat.{ℕ, zero, suc, ◌+◌, ◌/◌, ◌%◌, ◌^◌, ◌≤◌, ◌<◌}
use native.Mathlib.Omega.{arith}
use native.Mathlib.Nat.{pow-suc}
use lib.Dec.{ltb}
use lib.ListN.{length, length-append}
use borrow.Author.Tests.{ltb-true, ltb-false, lt-ltb, le-ltb}
use Rattle.std.specs.Fmt.{decimal as written-decimal}
use Rattle.std.proofs.lemmas.Fmt.{decimal_from_appends, length-decimal-le_succ}
use Rattle.report.specs.Text.{glyph, decimal_within, decimal_of, Decimal}

within-below : (f x : ℕ) → x < 10 → decimal_within (suc f) x ≡ glyph x ∷ []
unfolding decimal_within
within-below f x h = rw (lt-ltb x 10 h, decimal_within)

within-above : (f x : ℕ) → 10 ≤ x → decimal_within (suc f) x ≡ decimal_within f (x / 10) ++ (glyph (x % 10) ∷ [])
unfolding decimal_within
within-above f x h = rw (le-ltb x 10 h, decimal_within)

within_step : (f g x : ℕ) (b : Bool) → ltb x 10 ≡ b → (10 ≤ x → decimal_within f (x / 10) ≡ decimal_within g (x / 10))
    → decimal_within (suc f) x ≡ decimal_within (suc g) x
within_step f g x true e h = within-below f x (ltb-true x 10 e) ∙ sym (within-below g x (ltb-true x 10 e))
within_step f g x false e h =
    let k = ltb-false x 10 e in
    within-above f x k ∙ ap (λ (l : List ℕ). l ++ (glyph (x % 10) ∷ [])) (h k) ∙ sym (within-above g x k)

-- more fuel than the number changes nothing
within-any : (f g x : ℕ) → x < f → x < g → decimal_within f x ≡ decimal_within g x
within-any zero g x h k = absurd (omega arith)
within-any (suc f) zero x h k = absurd (omega arith)
within-any (suc f) (suc g) x h k =
    within_step f g x (ltb x 10) refl (λ a. within-any f g (x / 10) (omega arith) (omega arith))

pub decimal : Decimal
unfolding decimal_of
decimal x = (
  λ h. within-below x x h,
  λ h. within-above x x h ∙ ap (λ (l : List ℕ). l ++ (glyph (x % 10) ∷ []))
      (within-any x (suc (x / 10)) (x / 10) (omega arith) (omega arith)),
)

-- of 64 bits they are what the library writes
pub decimal-is : (x : ℕ) → x < 2 ^ 64 → decimal_of x ≡ written-decimal x
unfolding decimal_of
decimal-is x h =
    decimal_from_appends decimal_within (record { one = within-below; more = within-above }) (suc x) x h
    (omega (arith, length-decimal-le_succ x h))

pub one-digit : (x : ℕ) → x < 10 → length (decimal_of x) ≡ 1
one-digit x h = ap length ((decimal x).0 h)

pub more-digits : (x : ℕ) → 10 ≤ x → length (decimal_of x) ≡ length (decimal_of (x / 10)) + 1
more-digits x h = ap length ((decimal x).1 h) ∙ length-append (decimal_of (x / 10)) (glyph (x % 10) ∷ [])

-- a number below 10^(k + 1) has at most k + 1 digits
digits_step : (k x : ℕ) (b : Bool) → ltb x 10 ≡ b → (10 ≤ x → length (decimal_of (x / 10)) ≤ k)
    → length (decimal_of x) ≤ suc k
digits_step k x true e h = omega (arith, one-digit x (ltb-true x 10 e))
digits_step k x false e h = let g = ltb-false x 10 e in omega (arith, more-digits x g, h g)

pub digits-most : (k x : ℕ) → x < 10 ^ suc k → length (decimal_of x) ≤ suc k
digits-most zero x h = omega (arith, one-digit x h)
digits-most (suc k) x h =
    digits_step (suc k) x (ltb x 10) refl (λ g. digits-most k (x / 10) (omega (arith, pow-suc 10 (suc k))))

pub digits-64 : (x : ℕ) → x < 2 ^ 64 → length (decimal_of x) ≤ 20
digits-64 x h = digits-most 19 x (omega arith)

pub digits-16 : (x : ℕ) → x < 2 ^ 16 → length (decimal_of x) ≤ 5
digits-16 x h = digits-most 4 x (omega arith)
