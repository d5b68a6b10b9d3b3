-- The first refusal that applies to a start or a step, as a chain of tests; what a call that has a fault answers and
-- leaves; and a table whose rows are lent. Assumes nothing.
--
--   or-none, none_or              a test of two parts that does not apply
--   picked, passed                a pick by a test that is decided
--   start-fault, step_fault_lem   the chains of a start and of a step
--   step_settled                  the same once 12 and 13 are settled
--   Passed, step_passed           what no refusal says
--   refusal-number, numbered      the number of the refusal of a number from 12 to 15
--   settled-taken, settled-refused   what is known where a call is not refused, and where it is
--   answered-is                   an answer, by its fault
--   refuses, takes                answer and memory of a call that is refused, and of one that is not
--   call-numbers, refused-numbers, taken-numbers   the numbers of both
--   number_12 to number_15        the number that the tests come to
use mathlib.Core.Path.{◌≡◌, refl, sym, ap, ◌∙◌}
use mathlib.Core.Bool.{Bool, true, false, cond, not, ◌||◌}
use mathlib.Core.List.{List, [], ◌∷◌}
use Prim.Native.Nat.{ℕ, zero, suc, ◌+◌, ◌-◌, ◌≤◌, ◌<◌}
use native.Mathlib.Omega.{arith}
use borrow.Author.Tests.{eq-eqb, ne_eqb, eqb-true, eqb-false, leb-false, not-false}
use lib.Dec.{leb, eqb}
use lib.ListN.{length}
use Rattle.std.specs.Prelude.{Result, Ok, Err, ⊤}
use Rattle.tables.specs.declared.table.Table.{Table}
use Rattle.tables.specs.Table.{zero_table, info_rows, fit}
use Rattle.tables.specs.Refusal.{first_of}
use Rattle.tables.proofs.Fit.{Fits, fit-facts, zero-unfit}
use Rattle.tables.proofs.Refusal.{first-nil, first-cons, first-none, first_range}
use Rattle.link.specs.declared.refusal.Refusal.{Refusal}
use Rattle.link.specs.Refusals.{start_fault, step_fault, coder_fault, decoder_fault, refusal_number, refusal_of, answered}
use Rattle.link.specs.Refusals.{settled, leaves, call_numbers}

pub or-none : (s t : Bool) → s || t ≡ false → (s ≡ false) × (t ≡ false)
or-none true t e = let z : ◌≡◌ {A = ℕ} 0 1 = cc in absurd (omega arith)
or-none false t e = (refl, e)

pub none_or : (s t : Bool) → s ≡ false → t ≡ false → s || t ≡ false
none_or s t e f = rw (e, f)

pub picked : {X : Type 0} (b : Bool) (x y : X) → b ≡ true → x ≡ cond b x y
picked true x y e = refl
picked false x y e = let z : ◌≡◌ {A = ℕ} 0 1 = cc in absurd (omega arith)

pub passed : {X : Type 0} (b : Bool) (x y : X) → b ≡ false → y ≡ cond b x y
passed true x y e = let z : ◌≡◌ {A = ℕ} 0 1 = cc in absurd (omega arith)
passed false x y e = refl

-- ---- the tests in their order

pub start-fault : (t : Table) (words : ℕ) (s : List ℕ)
    → start_fault t words s ≡ cond (not (fit t)) 12 (cond (not (eqb (length s) words)) 13 0)
unfolding start_fault
start-fault t words s =
    let long = not (eqb (length s) words) in
    first-cons 12 (not (fit t)) (long ∷ [])
    ∙ ap (cond (not (fit t)) 12) (first-cons 13 long [] ∙ ap (cond long 13) (first-nil 14))

module _ (t : Table) (words : ℕ) (malformed : Bool) (bound : ℕ) (s : List ℕ) (b : ℕ) where
  abbrev long : Bool
  long = not (eqb (length s) words)

  abbrev large : Bool
  large = leb bound b

  pub step_fault_lem : step_fault t words malformed bound s b
      ≡ cond (not (fit t)) 12 (cond long 13 (cond malformed 14 (cond large 15 0)))
  unfolding step_fault
  step_fault_lem =
      first-cons 12 (not (fit t)) (long ∷ malformed ∷ large ∷ [])
      ∙ ap (cond (not (fit t)) 12) (first-cons 13 long (malformed ∷ large ∷ [])
      ∙ ap (cond long 13) (first-cons 14 malformed (large ∷ [])
      ∙ ap (cond malformed 14) (first-cons 15 large [] ∙ ap (cond large 15) (first-nil 16))))

  -- once 12 and 13 are settled
  pub step_settled : fit t ≡ true → length s ≡ words → (p q : Bool) → malformed ≡ p → large ≡ q
      → step_fault t words malformed bound s b ≡ cond p 14 (cond q 15 0)
  step_settled f size p q e g = step_fault_lem ∙ simp (f, eq-eqb (length s) words size, e, g)

  -- what the tests of a step that is taken say
  pub record Passed : Type 0 where
    pub fits : fit t ≡ true
    pub sizes : Fits t.symbols t.span t.depth (info_rows t)
    pub size : length s ≡ words
    pub formed : malformed ≡ false
    pub block : b < bound

  pub step_passed : step_fault t words malformed bound s b ≡ 0 → Passed
  unfolding step_fault
  step_passed e =
      let p = first-none 12 (not (fit t)) (long ∷ malformed ∷ large ∷ []) (omega arith) e in
      let q = first-none 13 long (malformed ∷ large ∷ []) (omega arith) p.1 in
      let r = first-none 14 malformed (large ∷ []) (omega arith) q.1 in
      let l = first-none 15 large [] (omega arith) r.1 in
      record {
        fits = not-false (fit t) p.0;
        sizes = fit-facts t (not-false (fit t) p.0);
        size = eqb-true (length s) words (not-false (eqb (length s) words) q.0);
        formed = r.0;
        block = leb-false bound b l.0;
      }

-- 12 is the first, and there are two tests or four
pub ranges : (bs : List Bool) (most : ℕ) → 12 + length bs ≡ suc most → (first_of 12 bs ≡ 0 → ⊥)
    → (12 ≤ first_of 12 bs) × (first_of 12 bs ≤ most)
ranges bs most e some = let r = first_range 12 bs some in (r.0, omega (arith, r.1, e))

pub start-range : (t : Table) (words : ℕ) (s : List ℕ) → (start_fault t words s ≡ 0 → ⊥)
    → (12 ≤ start_fault t words s) × (start_fault t words s ≤ 13)
unfolding start_fault
start-range t words s = ranges (_ ∷ _ ∷ []) 13 refl

step_range : (t : Table) (words : ℕ) (malformed : Bool) (bound : ℕ) (s : List ℕ) (b : ℕ)
    → (step_fault t words malformed bound s b ≡ 0 → ⊥)
    → (12 ≤ step_fault t words malformed bound s b) × (step_fault t words malformed bound s b ≤ 15)
unfolding step_fault
step_range t words malformed bound s b = ranges (_ ∷ _ ∷ _ ∷ _ ∷ []) 15 refl

pub coder-range : (t : Table) (s : List ℕ) (b : ℕ) → (coder_fault t s b ≡ 0 → ⊥)
    → (12 ≤ coder_fault t s b) × (coder_fault t s b ≤ 15)
unfolding coder_fault
coder-range t s b = step_range t _ _ _ s b

pub decoder-range : (t : Table) (s : List ℕ) (b : ℕ) → (decoder_fault t s b ≡ 0 → ⊥)
    → (12 ≤ decoder_fault t s b) × (decoder_fault t s b ≤ 15)
unfolding decoder_fault
decoder-range t s b = step_range t _ _ _ s b

-- ---- a refusal and its number

pub refusal-number : (k : ℕ) → 12 ≤ k → k ≤ 15 → refusal_number (refusal_of k) ≡ k
refusal-number k low high = go (k - 12) (omega arith) (omega arith)
  where
    go : (j : ℕ) → j ≤ 3 → k ≡ 12 + j → refusal_number (refusal_of k) ≡ k
    go zero l e = rw e refl
    go (suc zero) l e = rw e refl
    go (suc (suc zero)) l e = rw e refl
    go (suc (suc (suc zero))) l e = rw e refl
    go (suc (suc (suc (suc j)))) l e = absurd (omega arith)

pub numbered : (k : ℕ) → (12 ≤ k) × (k ≤ 15) → refusal_number (refusal_of k) ∷ [] ≡ k ∷ []
numbered k l = ap (λ (i : ℕ). i ∷ []) (refusal-number k l.0 l.1)

pub settled-taken : (fault : ℕ) (u : ⊤) → settled fault ≡ Ok u → fault ≡ 0
unfolding answered
settled-taken fault u = go (eqb fault 0) refl
  where
    go : (b : Bool) → eqb fault 0 ≡ b
        → ◌≡◌ {A = Result ⊤ Refusal} (cond b (Ok tt) (Err (refusal_of fault))) (Ok u) → fault ≡ 0
    go true e h = eqb-true fault 0 e
    go false e h = let z : ◌≡◌ {A = ℕ} 0 1 = cc h in absurd (omega arith)

pub settled-refused : (fault : ℕ) (e : Refusal) → settled fault ≡ Err e
    → (fault ≡ 0 → ⊥) × (e ≡ refusal_of fault)
unfolding answered
settled-refused fault e = go (eqb fault 0) refl
  where
    go : (b : Bool) → eqb fault 0 ≡ b
        → ◌≡◌ {A = Result ⊤ Refusal} (cond b (Ok tt) (Err (refusal_of fault))) (Err e)
        → (fault ≡ 0 → ⊥) × (e ≡ refusal_of fault)
    go true z h = let w : ◌≡◌ {A = ℕ} 0 1 = cc h in absurd (omega arith)
    go false z h = (eqb-false fault 0 z, cc h)

-- ---- answer and memory of a call

pub answered-is : {X : Type 0} (fault : ℕ) (x : X) (refused : ℕ → X)
    → answered fault x refused ≡ cond (eqb fault 0) x (refused fault)
unfolding answered
answered-is fault x refused = refl

module _ {X : Type 0} (refused : ℕ → X) (fault : ℕ) (x : X) (next before : List ℕ) where
  pub refuses : (k : ℕ) → fault ≡ k → 0 < k
      → (refused k ≡ answered fault x refused) × (before ≡ leaves fault next before)
  unfolding answered leaves
  refuses k e some =
      let no : eqb fault 0 ≡ false = ne_eqb fault 0 (λ (z : fault ≡ 0). omega arith) in
      (ap refused (sym e) ∙ passed (eqb fault 0) x (refused fault) no, passed (eqb fault 0) next before no)

  pub takes : fault ≡ 0 → (x ≡ answered fault x refused) × (next ≡ leaves fault next before)
  unfolding answered leaves
  takes e =
      let yes : eqb fault 0 ≡ true = eq-eqb fault 0 e in
      (picked (eqb fault 0) x (refused fault) yes, picked (eqb fault 0) next before yes)

pub call-numbers : {X : Type 0} (numbers : X → List ℕ) (fault : ℕ) (x : X) (refused : ℕ → X) (values : List ℕ)
    → numbers x ≡ 0 ∷ values → ((fault ≡ 0 → ⊥) → numbers (refused fault) ≡ fault ∷ [])
    → numbers (answered fault x refused) ≡ call_numbers fault values
unfolding answered call_numbers
call-numbers numbers fault x refused values p q = go (eqb fault 0) refl
  where
    go : (b : Bool) → eqb fault 0 ≡ b
        → numbers (cond b x (refused fault)) ≡ cond b (0 ∷ values) (fault ∷ [])
    go true e = p
    go false e = q (eqb-false fault 0 e)

-- an answer that is y, where what is answered otherwise is not: the call is refused, and the memory stays
pub refused-as : {X : Type 0} (refused : ℕ → X) (fault : ℕ) (x y : X) (next before : List ℕ)
    → answered fault x refused ≡ y → (x ≡ y → ⊥)
    → (refused fault ≡ y) × (fault ≡ 0 → ⊥) × (leaves fault next before ≡ before)
unfolding answered leaves
refused-as {X} refused fault x y next before e other = go (eqb fault 0) refl e
  where
    go : (b : Bool) → eqb fault 0 ≡ b → cond b x (refused fault) ≡ y
        → (refused fault ≡ y) × (fault ≡ 0 → ⊥) × (cond b next before ≡ before)
    go true z h = absurd (other h)
    go false z h = (h, eqb-false fault 0 z, refl)

pub refused-numbers : (fault : ℕ) (values : List ℕ) → (fault ≡ 0 → ⊥) → call_numbers fault values ≡ fault ∷ []
unfolding call_numbers
refused-numbers fault values some = rw (ne_eqb fault 0 some)

pub taken-numbers : (fault : ℕ) (values : List ℕ) → fault ≡ 0 → call_numbers fault values ≡ 0 ∷ values
unfolding call_numbers
taken-numbers fault values none = rw (eq-eqb fault 0 none)

-- ---- lent rows

pub zero-refused : (words : ℕ) (malformed : Bool) (bound : ℕ) (s : List ℕ) (b : ℕ)
    → step_fault zero_table words malformed bound s b ≡ 12
zero-refused words malformed bound s b = step_fault_lem zero_table words malformed bound s b ∙ simp zero-unfit

-- the number that the tests of a step come to: each test once those before it are settled
module _ (t : Table) (words : ℕ) (malformed : Bool) (bound : ℕ) (s : List ℕ) (b : ℕ) where
  pub number_12 : fit t ≡ false → step_fault t words malformed bound s b ≡ 12
  number_12 f = step_fault_lem t words malformed bound s b ∙ simp f

  module _ (f : fit t ≡ true) where
    pub number_13 : (length s ≡ words → ⊥) → 13 ≡ step_fault t words malformed bound s b
    number_13 long = sym (step_fault_lem t words malformed bound s b ∙ simp (f, ne_eqb (length s) words long))

    pub number_14 : length s ≡ words → malformed ≡ true → 14 ≡ step_fault t words malformed bound s b
    number_14 size out = sym (step_settled t words malformed bound s b f size true (leb bound b) out refl)

    pub number_15 : length s ≡ words → malformed ≡ false → (q : Bool) → leb bound b ≡ q
        → cond q 15 0 ≡ step_fault t words malformed bound s b
    number_15 size fine q large = sym (step_settled t words malformed bound s b f size false q fine large)
