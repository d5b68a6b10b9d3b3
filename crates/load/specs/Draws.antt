-- The generator of a load: 02, CR 8, "Draws use Marsaglia's xorshift32 with shifts left 13, right 17, left 5." Its
-- state is a number of 32 bits.
--
--   left_xor k x, right_xor k x   the exclusive or of x and x shifted by k places, in 32 bits
--   next_state x                  the state after a draw
--   drawn g                       what a draw of the generator g hands back
--   after k x                     the state after k draws
--   NeverZero                     0 leads to 0, and no other state does
use Rattle.std.specs.Prelude.{◌≡◌, ◌≢◌, ℕ, zero, suc, ◌/◌, ◌^◌, ◌<◌}
use Rattle.span.specs.Word.{◌⊕◌, shifted}
use Rattle.load.specs.declared.generator.Generator.{Generator}
use Rattle.load.specs.declared.generator.Draw.{Draw}

abbrev pub left_xor : ℕ → ℕ → ℕ
left_xor k x = x ⊕ shifted 32 k x

abbrev pub right_xor : ℕ → ℕ → ℕ
right_xor k x = x ⊕ (x / 2 ^ k)

-- "shifts left 13, right 17, left 5", in this order
unfoldable pub next_state : ℕ → ℕ
next_state x = left_xor 5 (right_xor 17 (left_xor 13 x))

-- "Each draw hands back the number and the generator as it now stands": the number is the new state
abbrev pub drawn : Generator → Draw
drawn g = record { number = next_state g.state; next = record { state = next_state g.state } }

unfoldable pub after : ℕ → ℕ → ℕ
after zero x = x
after (suc k) x = after k (next_state x)

-- why 17 refuses the seed 0 and no other: 0 draws 0 for ever, and what another seed draws is never 0
abbrev pub NeverZero : Type 0
NeverZero =
    ((k : ℕ) → after k 0 ≡ 0) × ((k x : ℕ) → x < 2 ^ 32 → x ≢ 0 → (after k x < 2 ^ 32) × (after k x ≢ 0))
