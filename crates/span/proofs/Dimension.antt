-- Words below 2^N without a relation are at most N, and N of them span everything below 2^N: their combinations are all
-- different, and there is no room for more than 2^N different numbers below 2^N. Assumes nothing.
use Rattle.std.proofs.Common.{◌≡◌, ℕ, zero, suc, ◌^◌, ◌<◌, ◌≤◌, Bool, true, false, eqb, ◌≢◌, List, length, sym, refl}
use Rattle.std.proofs.Common.{ap, ◌∙◌, suc-le-suc, zero-le, le_refl, lt_irrefl, arith, eqb-true}
use native.Mathlib.Decide.{dec_le}
use borrow.Author.Tests.{eqb-false}
use lib.Pow.{pow-lt}
use Rattle.std.specs.Prelude.{Option}
use Rattle.std.specs.Prelude.{Some, None}
use Rattle.span.specs.Word.{◌⊕◌}
use Rattle.span.specs.Combination.{combination, Member, Independent, Below}
use Rattle.span.specs.Laws.{DimensionLaw, Spanning}
use Rattle.span.specs.Relation.{least_coefficients, IsLeast}
use Rattle.span.proofs.Word.{xor-eq, xor_self, xor_lt}
use Rattle.span.proofs.Combination.{combination-xor, combination-lt}
use Rattle.span.proofs.Relation.{least-coefficients}

-- ---- numbers below a bound

abbrev Into : (ℕ → ℕ) → ℕ → ℕ → Type 0
Into f a b = (x : ℕ) → x < a → f x < b

abbrev Different : (ℕ → ℕ) → ℕ → Type 0
Different f a = (x y : ℕ) → x < a → y < a → f x ≡ f y → x ≡ y

abbrev Unhit : (ℕ → ℕ) → ℕ → ℕ → Type 0
Unhit f a z = (x : ℕ) → x < a → f x ≡ z → ⊥

abbrev instead : Bool → ℕ → ℕ → ℕ
instead true z y = z
instead false z y = y

-- a value z that is not taken stands in for the greatest, b, so that b is free
module _ (f : ℕ → ℕ) (a b z : ℕ) (into : Into f a (suc b)) (different : Different f a) (below : z < suc b)
    (unhit : Unhit f a z) where
  moved : ℕ → ℕ
  moved x = instead (eqb (f x) b) z (f x)

  moved-into : Into moved a b
  unfolding moved
  moved-into x h = go (eqb (f x) b) refl
    where
      go : (s : Bool) → eqb (f x) b ≡ s → instead s z (f x) < b
      go true e = let p = eqb-true (f x) b e in let q : z ≢ b = λ (r : z ≡ b). unhit x h (p ∙ sym r) in omega arith
      go false e = let p = eqb-false (f x) b e in let q = into x h in omega arith

  moved-different : Different moved a
  unfolding moved
  moved-different x y hx hy = go (eqb (f x) b) (eqb (f y) b) refl refl
    where
      go : (s t : Bool) → eqb (f x) b ≡ s → eqb (f y) b ≡ t → instead s z (f x) ≡ instead t z (f y) → x ≡ y
      go true true e g q = different x y hx hy (eqb-true (f x) b e ∙ sym (eqb-true (f y) b g))
      go true false e g q = absurd (unhit y hy (sym q))
      go false true e g q = absurd (unhit x hx q)
      go false false e g q = different x y hx hy q

pigeonhole : (b a : ℕ) (f : ℕ → ℕ) → Into f a b → Different f a → a ≤ b
pigeonhole b zero f into different = zero-le
pigeonhole zero (suc a) f into different = absurd (let h = into zero (suc-le-suc zero-le) in omega arith)
pigeonhole (suc b) (suc a) f into different =
    let i : Into f a (suc b) = λ x h. into x (omega arith) in
    let d : Different f a = λ x y hx hy. different x y (omega arith) (omega arith) in
    let l : f a < suc b = into a (le_refl (suc a)) in
    let u : Unhit f a (f a) = λ x h e. let p = different x a (omega arith) (le_refl (suc a)) e in omega arith in
    suc-le-suc
    (pigeonhole b a (moved f a b (f a) i d l u) (moved-into f a b (f a) i d l u) (moved-different f a b (f a) i d l u))

onto : (a : ℕ) (f : ℕ → ℕ) → Into f a a → Different f a → (z : ℕ) → z < a → Unhit f a z → ⊥
onto zero f into different z h unhit = omega arith
onto (suc b) f into different z h unhit =
    lt_irrefl b
    (pigeonhole b (suc b) (moved f (suc b) b z into different h unhit) (moved-into f (suc b) b z into different h unhit)
    (moved-different f (suc b) b z into different h unhit))

-- ---- combinations

module _ (N : ℕ) (ws : List ℕ) (bound : Below N ws) (independent : Independent ws) where
  into : Into (combination ws) (2 ^ length ws) (2 ^ N)
  into c h = combination-lt N ws c bound

  different : Different (combination ws) (2 ^ length ws)
  different c d hc hd e =
      xor-eq c d (independent (c ⊕ d) (xor_lt (length ws) c d hc hd)
      (combination-xor ws c d ∙ ap (λ (x : ℕ). combination ws c ⊕ x) (sym e) ∙ xor_self (combination ws c)))

  within : length ws ≤ N
  within = go (dec_le (length ws) N)
    where
      go : Dec (length ws ≤ N) → length ws ≤ N
      go (yes h) = h
      go (no h) =
          let p : 2 ^ N < 2 ^ length ws = pow-lt (omega arith) in
          let q = pigeonhole (2 ^ N) (2 ^ length ws) (combination ws) into different in
          absurd (omega arith)

  all-spanned : length ws ≡ N → (y : ℕ) → y < 2 ^ N → Member ws y
  all-spanned e y h = go (least_coefficients ws y) (least-coefficients ws y)
    where
      go : (r : Option ℕ) → IsLeast (λ (c : ℕ). combination ws c ≡ y) 0 (2 ^ length ws) r → Member ws y
      go (Some c) l = (c, l.1, l.2)
      go None l =
          absurd
          (onto (2 ^ length ws) (combination ws) (rw (← e) at into) different y (rw e h) (λ x u p. l x zero-le u p))

pub dimension : DimensionLaw
dimension = within

pub spanning : Spanning
spanning = all-spanned
