-- The first of refusals 13 to 15 that applies to a step, as a chain of tests, and what the tests of a step that is
-- taken say. Assumes nothing.
--
--   step_fault_lem        the chain
--   step_settled          the same once 13 is settled
--   Passed, step_passed   what no refusal says
--   coder-range, decoder-range   a refusal has a number from 13 to 15
use mathlib.Core.Path.{◌≡◌, ap, ◌∙◌}
use mathlib.Core.Bool.{Bool, false, cond, not}
use mathlib.Core.List.{List, [], ◌∷◌}
use Prim.Native.Nat.{ℕ, ◌<◌, ◌≤◌}
use native.Mathlib.Omega.{arith}
use borrow.Author.Tests.{eq-eqb, eqb-true, leb-false, not-false}
use lib.Dec.{leb, eqb}
use lib.ListN.{length}
use Rattle.tables.proofs.Refusal.{first-nil, first-cons, first-none, first_range}
use Rattle.iwadare.specs.Refusals.{step_fault, coder_fault, decoder_fault}

module _ (words : ℕ) (malformed : Bool) (bound : ℕ) (s : List ℕ) (b : ℕ) where
  abbrev long : Bool
  long = not (eqb (length s) words)

  abbrev large : Bool
  large = leb bound b

  pub step_fault_lem : step_fault words malformed bound s b ≡ cond long 13 (cond malformed 14 (cond large 15 0))
  unfolding step_fault
  step_fault_lem =
      first-cons 13 long (malformed ∷ large ∷ [])
      ∙ ap (cond long 13) (first-cons 14 malformed (large ∷ [])
      ∙ ap (cond malformed 14) (first-cons 15 large [] ∙ ap (cond large 15) (first-nil 16)))

  -- once 13 is settled
  pub step_settled : length s ≡ words → (p q : Bool) → malformed ≡ p → large ≡ q
      → step_fault words malformed bound s b ≡ cond p 14 (cond q 15 0)
  step_settled size p q e g = step_fault_lem ∙ simp (eq-eqb (length s) words size, e, g)

  -- what the tests of a step that is taken say
  pub record Passed : Type 0 where
    pub size : length s ≡ words
    pub formed : malformed ≡ false
    pub block : b < bound

  pub step_passed : step_fault words malformed bound s b ≡ 0 → Passed
  unfolding step_fault
  step_passed e =
      let p = first-none 13 long (malformed ∷ large ∷ []) (omega arith) e in
      let q = first-none 14 malformed (large ∷ []) (omega arith) p.1 in
      let r = first-none 15 large [] (omega arith) q.1 in
      record {
        size = eqb-true (length s) words (not-false (eqb (length s) words) p.0);
        formed = q.0;
        block = leb-false bound b r.0;
      }

step_range : (words : ℕ) (malformed : Bool) (bound : ℕ) (s : List ℕ) (b : ℕ)
    → (step_fault words malformed bound s b ≡ 0 → ⊥)
    → (13 ≤ step_fault words malformed bound s b) × (step_fault words malformed bound s b ≤ 15)
unfolding step_fault
step_range words malformed bound s b some =
    let r = first_range 13 (_ ∷ _ ∷ _ ∷ []) some in
    (omega (arith, r), omega (arith, r))

pub coder-range : (s : List ℕ) (b : ℕ) → (coder_fault s b ≡ 0 → ⊥)
    → (13 ≤ coder_fault s b) × (coder_fault s b ≤ 15)
unfolding coder_fault
coder-range s b = step_range _ _ _ s b

pub decoder-range : (s : List ℕ) (b : ℕ) → (decoder_fault s b ≡ 0 → ⊥)
    → (13 ≤ decoder_fault s b) × (decoder_fault s b ≤ 15)
unfolding decoder_fault
decoder-range s b = step_range _ _ _ s b
