-- The laws of reduction at once: by the bilinearity of the parity alone, a step's test of what is left of a word is the
-- new check word's test of the word itself. Assumes nothing.
use Rattle.std.proofs.Common.{◌≡◌, ℕ, zero, suc, ◌<◌, ◌≤◌, min, Bool, true, false, cond, eqb, List, length, get_or, set}
use Rattle.std.proofs.Common.{sym, refl, ap, ◌∙◌, subst, ap₂, le_refl, arith, length-set, get_or-set_other}
use Rattle.std.proofs.Common.{get_or-set_same, ne_eqb, eqb-true}
use mathlib.Core.Bool.{xor}
use native.Mathlib.Decide.{dec_le}
use borrow.Author.Tests.{eqb-false}
use lib.Bits.{bit_and, and_zero_l}
use Rattle.span.specs.declared.eliminate.Basis.{Basis}
use Rattle.span.specs.declared.eliminate.Reduced.{Reduced}
use Rattle.std.specs.Prelude.{Some, None}
use Rattle.span.specs.Word.{◌⊕◌, sel, common_parity}
use Rattle.span.specs.Basis.{basis, reduced_by, reduced_to, reduction, answer}
use Rattle.span.specs.Elimination.{basis_of}
use Rattle.span.specs.Dual.{crossed, dual_to, dual_checks, dual, at_once_to, at_once, together}
use Rattle.span.specs.Dual.{least_by, AtOnce, DualReduces, LeastBy, Unmet}
use Rattle.span.proofs.Word.{xor_zero_r, parity-zero-l, parity-comm, parity-xor, parity_none, and-or-l, and-or-r}
use Rattle.span.proofs.Basis.{reduces}
use Rattle.span.proofs.Linear.{parity-xor-r}

-- both sides are odd exactly if the common parities of x and d, and of v and h, are
parity-either : (k x v h d : ℕ) (s : Bool) → s ≡ common_parity k x d
    → common_parity k (sel s v) h ≡ common_parity k x (sel (common_parity k v h) d)
parity-either k x v h d s e = go s (common_parity k v h) e refl
  where
    go : (s t : Bool) → s ≡ common_parity k x d → common_parity k v h ≡ t
        → common_parity k (sel s v) h ≡ common_parity k x (sel t d)
    go true true e f = f ∙ e
    go true false e f = f ∙ sym (parity-comm k x 0 ∙ parity-zero-l k x)
    go false true e f = parity-zero-l k h ∙ e
    go false false e f = parity-zero-l k h ∙ sym (parity-comm k x 0 ∙ parity-zero-l k x)

pub length-dual : (vs hs : List ℕ) (i : ℕ) → length (dual_to vs hs i) ≡ 32
unfolding dual_to
length-dual vs hs zero = refl
length-dual vs hs (suc i) = simp length-set (length-dual vs hs i)

module _ (b : Basis) (x : ℕ) where
  -- what step i of the chain tests
  tested : ℕ → Bool
  tested i = common_parity 64 (reduced_to b i x).rest (get_or b.checks i 0)

  -- any check word's test of what is left, from the tests of the steps before
  crossing : (ds : List ℕ) (h i : ℕ) → ((j : ℕ) → j < i → tested j ≡ common_parity 64 x (get_or ds j 0))
      → common_parity 64 (reduced_to b i x).rest h ≡ common_parity 64 x (crossed b.vectors ds h i)
  unfolding tested reduced_to reduced_by crossed
  crossing ds h zero known = refl
  crossing ds h (suc i) known =
      let v = get_or b.vectors i 0 in
      let d = get_or ds i 0 in
      parity-xor 64 (reduced_to b i x).rest (sel (tested i) v) h
      ∙ ap₂ xor (crossing ds h i (λ j l. known j (omega arith)))
      (parity-either 64 x v h d (tested i) (known i (le_refl (suc i))))
      ∙ sym (parity-xor-r 64 x (crossed b.vectors ds h i) (sel (common_parity 64 v h) d))

  -- the new check words test the word itself
  dual-tests : (i : ℕ) → i ≤ 32 → (j : ℕ) → j < i
      → tested j ≡ common_parity 64 x (get_or (dual_to b.vectors b.checks i) j 0)
  unfolding tested dual_to
  dual-tests zero room j h = absurd (omega arith)
  dual-tests (suc i) room j h = go (dual-tests i (omega arith)) (dec_le (suc j) i)
    where
      ds : List ℕ
      ds = dual_to b.vectors b.checks i

      new : ℕ
      new = crossed b.vectors ds (get_or b.checks i 0) i

      go : ((j : ℕ) → j < i → tested j ≡ common_parity 64 x (get_or ds j 0)) → Dec (j < i)
          → tested j ≡ common_parity 64 x (get_or (set ds i new) j 0)
      go ih (yes l) =
          ih j l ∙ ap (common_parity 64 x) (sym (get_or-set_other ds i j new 0 (λ e. omega arith)))
      go ih (no l) =
          let e : i ≡ j = omega arith in
          subst (λ (k : ℕ). tested k ≡ common_parity 64 x (get_or (set ds i new) k 0)) e
          (crossing ds (get_or b.checks i 0) i ih
          ∙ ap (common_parity 64 x)
          (sym (get_or-set_same ds i new 0 (rw (length-dual b.vectors b.checks i) room))))

  at-once-to : (i : ℕ) → i ≤ min b.size 32 → at_once_to (dual b) i x ≡ reduced_to b i x
  unfolding at_once_to reduced_to reduced_by dual dual_checks tested
  at-once-to zero room = refl
  at-once-to (suc i) room =
      ap₂
      (λ (s : Bool) (r : Reduced). record {
        rest = r.rest ⊕ sel s (get_or b.vectors i 0);
        coefficients = r.coefficients ⊕ sel s (get_or b.coefficients i 0);
      })
      (sym (dual-tests (min b.size 32) (omega arith) i room))
      (at-once-to i (omega arith))

pub at-once : AtOnce
unfolding at_once reduction dual
at-once b x = at-once-to b x (min b.size 32) (le_refl (min b.size 32))

pub dual-reduces : DualReduces
dual-reduces ws room bound x = ap answer (at-once (basis_of ws) x) ∙ reduces ws room bound x

-- no check word that a word has no one in common with changes it
unmet-to : (b : Basis) (x i : ℕ) → bit_and x (together b.checks i) ≡ 0
    → at_once_to b i x ≡ record { rest = x; coefficients = 0 }
unfolding at_once_to together
unmet-to b x zero e = refl
unmet-to b x (suc i) e =
    let h = get_or b.checks i 0 in
    ap₂
    (λ (s : Bool) (r : Reduced). record {
      rest = r.rest ⊕ sel s (get_or b.vectors i 0);
      coefficients = r.coefficients ⊕ sel s (get_or b.coefficients i 0);
    })
    (parity_none 64 x h (and-or-r x (together b.checks i) h e))
    (unmet-to b x i (and-or-l x (together b.checks i) h e))
    ∙ ap₂ (λ (y c : ℕ). record { rest = y; coefficients = c }) (xor_zero_r x) (xor_zero_r 0)

pub unmet : Unmet
unfolding at_once
unmet b x e = unmet-to b x (min b.size 32) e

-- a word that is left as it is, and not 0, is no combination
left-missing : (b : Basis) (x : ℕ) → (x ≡ 0 → ⊥) → bit_and x (together b.checks (min b.size 32)) ≡ 0
    → None ≡ answer (at_once b x)
unfolding answer
left-missing b x some e =
    sym (ap (λ (r : Reduced). cond (eqb r.rest 0) (Some r.coefficients) None) (unmet b x e)
    ∙ ap (λ (t : Bool). cond t (Some 0) None) (ne_eqb x 0 some))

zero-found : (b : Basis) → Some 0 ≡ answer (at_once b 0)
unfolding answer
zero-found b =
    sym (ap (λ (r : Reduced). cond (eqb r.rest 0) (Some r.coefficients) None)
    (unmet b 0 (and_zero_l (together b.checks (min b.size 32)))))

pub least_by_lem : LeastBy
unfolding least_by
least_by_lem ws room bound b e x =
    go (eqb x 0) (eqb (bit_and x (together b.checks (min b.size 32))) 0) refl refl
    ∙ ap (λ (b : Basis). answer (at_once b x)) e ∙ dual-reduces ws room bound x
  where
    go : (p q : Bool) → eqb x 0 ≡ p → eqb (bit_and x (together b.checks (min b.size 32))) 0 ≡ q
        → cond p (Some 0) (cond q None (answer (at_once b x))) ≡ answer (at_once b x)
    go true q h k = zero-found b ∙ ap (λ (y : ℕ). answer (at_once b y)) (sym (eqb-true x 0 h))
    go false true h k = left-missing b x (eqb-false x 0 h) (eqb-true _ 0 k)
    go false false h k = refl

-- the stores of the code
pub dual-stored : (b b' : Basis) (ds : List ℕ) → b ≡ b' → ds ≡ dual_checks b
    → basis b.size b.vectors ds b.coefficients ≡ dual b'
unfolding dual
dual-stored b b' ds e d = ap (λ (hs : List ℕ). basis b.size b.vectors hs b.coefficients) d ∙ ap dual e
