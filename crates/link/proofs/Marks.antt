-- The five marks: what is found gives the mark, and the mark tells what was found. Assumes nothing.
use mathlib.Core.Path.{◌≡◌, refl, sym, ap, ◌∙◌, subst}
use mathlib.Core.Bool.{Bool, true, false, cond}
use mathlib.Core.Logic.{◌≢◌, ◌↔◌}
use mathlib.Core.List.{List}
use Prim.Native.Nat.{ℕ, ◌-◌, ◌^◌, ◌<◌, zero-le}
use native.Mathlib.Omega.{arith}
use borrow.Author.Tests.{eqb-true, eqb-false}
use lib.Dec.{eqb}
use lib.ListN.{length}
use lib.Pow.{pow_pos}
use Rattle.std.specs.Prelude.{Option}
use Rattle.std.specs.Prelude.{Some, None}
use Rattle.span.specs.Word.{odd}
use Rattle.span.specs.Combination.{combination}
use Rattle.span.specs.Relation.{IsLeast}
use Rattle.span.proofs.Combination.{combination-zero}
use Rattle.span.proofs.Relation.{least-coefficients, least-unique}
use Rattle.link.specs.declared.decode.Mark.{Mark}
use Rattle.link.specs.declared.decode.Mark.TheVariants.{Clean, Corrected, Parity, Doubtful, Held}
use Rattle.link.specs.Step.{found, error_of, mark_of}
use Rattle.link.specs.Decoder.{mark_error}
use Rattle.link.specs.Marks.{NoError, LeastError, MarksLaw}
use Rattle.link.proofs.Refusals.{picked, passed}
use Rattle.link.proofs.Error.{zero-found, mark_parity, mark_corrected}

-- the error that a mark tells is the one that was found, or 0
pub mark-error : (weight : ℕ) (f : Option ℕ) (x : ℕ) → mark_error (mark_of weight f x) ≡ error_of f
mark-error weight None x = go (odd x)
  where
    go : (s : Bool) → mark_error (cond s Doubtful Held) ≡ 0
    go true = refl
    go false = refl
mark-error weight (Some e) x = go (eqb e 0) (eqb e weight) refl
  where
    go : (s p : Bool) → eqb e 0 ≡ s → mark_error (cond s Clean (cond p (Parity e) (Corrected e))) ≡ e
    go true p z = sym (eqb-true e 0 z)
    go false true z = refl
    go false false z = refl

module _ (rows : List ℕ) (x : ℕ) where
  least : (f : Option ℕ) → found rows x ≡ f → IsLeast (λ (c : ℕ). combination rows c ≡ x) 0 (2 ^ length rows) f
  least f e = subst (IsLeast (λ (c : ℕ). combination rows c ≡ x) 0 (2 ^ length rows)) e (least-coefficients rows x)

  found-least : (f : Option ℕ) → IsLeast (λ (c : ℕ). combination rows c ≡ x) 0 (2 ^ length rows) f → found rows x ≡ f
  found-least f l =
      least-unique (λ (c : ℕ). combination rows c ≡ x) 0 (2 ^ length rows) (found rows x) f
      (least-coefficients rows x) l

  found_none : NoError rows x → found rows x ≡ None
  found_none n = found-least None (λ d from to p. n d to p)

  none_found : found rows x ≡ None → NoError rows x
  none_found e c below p = least None e c zero-le below p

  module _ (weight : ℕ) (some : 0 < weight) where
    abbrev Meaning : Mark → Type 0
    Meaning Clean = x ≡ 0
    Meaning (Corrected e) = (e ≢ 0) × (e ≢ weight) × LeastError rows x e
    Meaning (Parity e) = (e ≡ weight) × LeastError rows x e
    Meaning Doubtful = NoError rows x × (odd x ≡ true)
    Meaning Held = NoError rows x × (odd x ≡ false)

    meant : (f : Option ℕ) → found rows x ≡ f → Meaning (mark_of weight f x)
    meant (Some e) h = go (eqb e 0) refl (eqb e weight) refl
      where
        go : (b : Bool) → eqb e 0 ≡ b → (c : Bool) → eqb e weight ≡ c
            → Meaning (cond b Clean (cond c (Parity e) (Corrected e)))
        go true p c q = sym (least (Some e) h).2 ∙ ap (combination rows) (eqb-true e 0 p) ∙ combination-zero rows
        go false p true q = (eqb-true e weight q, least (Some e) h)
        go false p false q = (eqb-false e 0 p, eqb-false e weight q, least (Some e) h)
    meant None h = go (odd x) refl
      where
        go : (b : Bool) → odd x ≡ b → Meaning (cond b Doubtful Held)
        go true q = (none_found h, q)
        go false q = (none_found h, q)

    -- the mark of what is found
    by-found : (f : Option ℕ) (mark : Mark) → found rows x ≡ f → mark ≡ mark_of weight f x
        → mark_of weight (found rows x) x ≡ mark
    by-found f mark h e = ap (λ (g : Option ℕ). mark_of weight g x) h ∙ sym e

    given : (mark : Mark) → Meaning mark → mark_of weight (found rows x) x ≡ mark
    given Clean m = by-found (Some 0) Clean (ap (found rows) m ∙ zero-found rows) refl
    given (Corrected e) m =
        by-found (Some e) (Corrected e) (found-least (Some e) m.2) (mark_corrected weight e m.0 m.1)
    given (Parity e) m =
        let same = m.0 in
        by-found (Some e) (Parity e) (found-least (Some e) m.1)
        (mark_parity weight e (λ (z : e ≡ 0). omega arith) same)
    given Doubtful m = by-found None Doubtful (found_none m.0) (picked (odd x) Doubtful Held m.1)
    given Held m = by-found None Held (found_none m.0) (passed (odd x) Doubtful Held m.1)

    told : (mark : Mark) → (mark_of weight (found rows x) x ≡ mark) ↔ Meaning mark
    told mark = (λ e. subst Meaning e (meant (found rows x) refl), given mark)

-- what is found is the least error block, and nothing where there is none
pub found_told : (rows : List ℕ) (x : ℕ)
    → ((e : ℕ) → (found rows x ≡ Some e) ↔ LeastError rows x e) × ((found rows x ≡ None) ↔ NoError rows x)
found_told rows x = (
  λ e. (least rows x (Some e), found-least rows x (Some e)),
  (none_found rows x, found_none rows x),
)

pub marks : MarksLaw
marks n rows x =
    let t = told rows x (2 ^ (n - 1)) (pow_pos (n - 1)) in
    (t Clean, λ e. t (Corrected e), λ e. t (Parity e), t Doubtful, t Held)
