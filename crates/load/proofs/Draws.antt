-- The generator: its three shifts as the code has them; and no draw leads from a state that is not 0 to 0, since a
-- shift leaves no number as it was but 0. Assumes nothing.
--
--   draw-code    the state after a draw, in the code
--   after_next   one draw more
--   never_zero   the theorem
use mathlib.Core.Path.{◌≡◌, refl, ap, ◌∙◌}
use mathlib.Core.Logic.{◌≢◌}
use Prim.Native.Nat.{ℕ, zero, suc, ◌*◌, ◌/◌, ◌%◌, ◌^◌, ◌≤◌, ◌<◌}
use native.Mathlib.Nat.{div-le_self}
use native.Mathlib.Omega.{arith}
use lib.Bits.{bit_xor}
use Rattle.span.specs.Word.{◌⊕◌, shifted}
use Rattle.span.proofs.Word.{xor-code, xor_zero_l, xor-eq, xor_lt}
use Rattle.span.proofs.Word.{shifted-code, shifted-zero, shifted-lt, shifted-fixed}
use Rattle.load.specs.Draws.{left_xor, right_xor, next_state, after, NeverZero}

abbrev left_code : ℕ → ℕ → ℕ
left_code k x = bit_xor x (x * 2 ^ k % 2 ^ 32)

abbrev right_code : ℕ → ℕ → ℕ
right_code k x = bit_xor x (x / 2 ^ k)

left-code : (k x : ℕ) → left_code k x ≡ left_xor k x
left-code k x = xor-code x (x * 2 ^ k % 2 ^ 32) ∙ ap (λ (y : ℕ). x ⊕ y) (shifted-code 32 k x)

pub draw-code : (x : ℕ) → left_code 5 (right_code 17 (left_code 13 x)) ≡ next_state x
unfolding next_state
draw-code x =
    ap (λ (a : ℕ). left_code 5 (right_code 17 a)) (left-code 13 x)
    ∙ ap (left_code 5) (xor-code (left_xor 13 x) (left_xor 13 x / 2 ^ 17)) ∙ left-code 5 (right_xor 17 (left_xor 13 x))

pub after_next : (k x : ℕ) → after (suc k) x ≡ next_state (after k x)
unfolding after
after_next zero x = refl
after_next (suc k) x = after_next k (next_state x)

left-zero : (k x : ℕ) → 1 ≤ k → left_xor k x ≡ 0 → x ≡ 0
left-zero k x some e = shifted-fixed 32 k x some (xor-eq x (shifted 32 k x) e)

right_zero : (x : ℕ) → right_xor 17 x ≡ 0 → x ≡ 0
right_zero x e = let same = xor-eq x (x / 2 ^ 17) e in omega arith

left_lt : (k x : ℕ) → x < 2 ^ 32 → left_xor k x < 2 ^ 32
left_lt k x h = xor_lt 32 x (shifted 32 k x) h (shifted-lt 32 k x)

right_lt : (k x : ℕ) → x < 2 ^ 32 → right_xor k x < 2 ^ 32
right_lt k x h = let l = div-le_self x (2 ^ k) in xor_lt 32 x (x / 2 ^ k) h (omega arith)

next-some : (x : ℕ) → x < 2 ^ 32 → x ≢ 0 → (next_state x < 2 ^ 32) × (next_state x ≢ 0)
unfolding next_state
next-some x h some =
    let a = left_xor 13 x in
    let b = right_xor 17 a in (
      left_lt 5 b (right_lt 17 a (left_lt 13 x h)),
      λ e. some (left-zero 13 x (omega arith) (right_zero a (left-zero 5 b (omega arith) e))),
    )

left-none : (k : ℕ) → left_xor k 0 ≡ 0
left-none k = ap (λ (x : ℕ). 0 ⊕ x) (shifted-zero 32 k) ∙ xor_zero_l 0

next-none : next_state 0 ≡ 0
unfolding next_state
next-none =
    ap (λ (x : ℕ). left_xor 5 (right_xor 17 x)) (left-none 13) ∙ ap (left_xor 5) (xor_zero_l 0) ∙ left-none 5

after_none : (k : ℕ) → after k 0 ≡ 0
unfolding after
after_none zero = refl
after_none (suc k) = ap (after k) next-none ∙ after_none k

after-some : (k x : ℕ) → x < 2 ^ 32 → x ≢ 0 → (after k x < 2 ^ 32) × (after k x ≢ 0)
unfolding after
after-some zero x h some = (h, some)
after-some (suc k) x h some = let n = next-some x h some in after-some k (next_state x) n.0 n.1

pub never_zero : NeverZero
never_zero = (after_none, after-some)
