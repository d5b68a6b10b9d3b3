-- `span::eliminate::Basis::least`: the tests in their order. Assumes nothing.
use Rattle.std.proofs.Common.{◌≡◌, sym, ap, ◌∙◌, eq-eqb, ne_eqb}
use Rattle.std.specs.Prelude.{Some, None}
use Rattle.span.specs.declared.eliminate.Reduced.{Reduced}
use Rattle.span.specs.Basis.{answer}
use Rattle.span.specs.Dual.{least_by}
use Rattle.span.proofs.eliminate.Basis.least.Goals as goal

-- what a reduction says of its word
told : (r : Reduced) → r.rest ≡ 0 → answer r ≡ Some r.coefficients
unfolding answer
told r e = rw (eq-eqb r.rest 0 e)

untold : (r : Reduced) → (r.rest ≡ 0 → ⊥) → answer r ≡ None
unfolding answer
untold r e = rw (ne_eqb r.rest 0 e)

pub returns-then-x-eq0 : goal.returns-then-x-eq0
unfolding least_by
returns-then-x-eq0 c = rw (eq-eqb _ 0 c.if-x-eq0.true)

pub returns-then-x-ones-eq0 : goal.returns-then-x-ones-eq0
unfolding least_by
returns-then-x-ones-eq0 c = rw (ne_eqb _ 0 c.if-x-eq0.false, eq-eqb _ 0 c.if-x-ones-eq0.true)

pub returns-then-reduced-eq0 : goal.returns-then-reduced-eq0
unfolding least_by
returns-then-reduced-eq0 c =
    let r = c.reduce_at_once-reduced in
    rw (ne_eqb _ 0 c.if-x-eq0.false, ne_eqb _ 0 c.if-x-ones-eq0.false)
    (sym (told r.result c.if-reduced-eq0.true) ∙ ap answer r.ensures)

pub returns : goal.returns
unfolding least_by
returns c =
    let r = c.reduce_at_once-reduced in
    rw (ne_eqb _ 0 c.if-x-eq0.false, ne_eqb _ 0 c.if-x-ones-eq0.false)
    (sym (untold r.result c.if-reduced-eq0.false) ∙ ap answer r.ensures)
