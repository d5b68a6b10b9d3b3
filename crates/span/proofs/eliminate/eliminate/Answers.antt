use Rattle.span.proofs.Masks.{weight_fits}
use Rattle.std.proofs.Common.{◌≡◌, ℕ, ◌+◌, ◌^◌, ◌<◌, ◌≤◌, List, length, get_or, take, sym, refl, ap, ◌∙◌, arith}
use Rattle.std.proofs.Common.{pow_pos}
use Rattle.span.specs.Combination.{combination, Below}
use Rattle.span.specs.Relation.{least_relation, IsLeast}
use Rattle.span.specs.Basis.{reduction}
use Rattle.span.specs.Elimination.{basis_of, joined, extended}
use Rattle.span.specs.declared.eliminate.Basis.{Basis}
use Rattle.span.specs.declared.eliminate.Reduced.{Reduced}
use Rattle.std.specs.Prelude.{Some, None}
use Rattle.span.specs.Word.{◌⊕◌}
use Rattle.span.proofs.Relation.{relation-missing}
use Rattle.span.proofs.Basis.{joined-passed, joined-stored, turn_basis, turn_found, turn_none}
use Rattle.span.proofs.eliminate.eliminate.Goals as goal
use Rattle.span.proofs.eliminate.eliminate.Goals.{then-rest-eq0+else-f-i, else-rest-eq0}

-- one turn of the loop, in plain terms
module _ (words : List ℕ) (f i : ℕ) (room : length words ≤ 32) (bound : (j : ℕ) → get_or words j 0 < 2 ^ 64)
    (h : i < length words) (b : Basis) (so_far : b ≡ basis_of (take i words))
    (none : IsLeast (λ (c : ℕ). combination words c ≡ 0) (2 ^ f) (2 ^ i) None)
    (r : Reduced) (reduced : r ≡ reduction b (get_or words i 0)) where
  below : Below 64 words
  below j l = bound j

  found : f ≤ i → r.rest ≡ 0 → (one : ℕ) → one ≡ 2 ^ i → Some (r.coefficients ⊕ one) ≡ least_relation words f
  found l e one o =
      rw (o, reduced)
      (turn_found words room below i h b so_far f none l (ap (λ (s : Reduced). s.rest) (sym reduced) ∙ e))

  basis-next : basis_of (take (i + 1) words) ≡ joined i b r
  basis-next = rw reduced (turn_basis words room below i h b so_far)

  none-next : (f ≤ i → r.rest ≡ 0 → ⊥)
      → IsLeast (λ (c : ℕ). combination words c ≡ 0) (2 ^ f) (2 ^ (i + 1)) None
  none-next ne =
      turn_none words room below i h b so_far f none (λ l e. ne l (ap (λ (s : Reduced). s.rest) reduced ∙ e))

pub loop-i-init : goal.loop-i-init
unfolding basis_of extended
loop-i-init c = (omega arith, refl, λ d l u e. let p = pow_pos c.args.f in omega arith)

pub returns-then-f-i-clause-relation : goal.returns-then-f-i-clause-relation
unfolding ◌⊕◌
returns-then-f-i-clause-relation c =
    let known = c.shared_slice_known-1 in
    found c.args.words.now c.args.f c.loop-i.i c.requires (λ j. omega (arith, known.given j)) (omega arith) c.loop-i.b
    c.loop-i.invariant.1 c.loop-i.invariant.2 c.reduce_by-r.result c.reduce_by-r.ensures (omega arith)
    c.if-rest-eq0.true c.one_at.result (c.one_at.ensures ∙ weight_fits _ (omega arith))

pub loop-i-preserved : goal.loop-i-preserved
unfolding ◌⊕◌
loop-i-preserved c =
    let one = c.one_at in
    let a = c.args in
    let known = c.shared_slice_known-1 in
    let next = basis-next a.words.now a.f c.loop-i.i c.requires (λ j. omega (arith, known.given j)) (omega arith)
    c.loop-i.b c.loop-i.invariant.1 c.loop-i.invariant.2 c.reduce_by-r.result c.reduce_by-r.ensures in
    let none = none-next a.words.now a.f c.loop-i.i c.requires (λ j. omega (arith, known.given j)) (omega arith)
    c.loop-i.b c.loop-i.invariant.1 c.loop-i.invariant.2 c.reduce_by-r.result c.reduce_by-r.ensures in
    elim c.if-rest-eq0.branch [
      | then-rest-eq0+else-f-i w ↦ (
        (let e = ap (λ (b : Basis). b.size) w.b-is in omega arith),
        w.b-is ∙ sym (next ∙ joined-passed c.loop-i.i c.loop-i.b c.reduce_by-r.result w.if-rest-eq0.true),
        none (λ u e. omega arith),
      )
      | else-rest-eq0 w ↦ (
        (let e = ap (λ (b : Basis). b.size) w.b-is in omega arith),
        w.b-is ∙ sym (next ∙ joined-stored c.loop-i.i c.loop-i.b c.reduce_by-r.result w.check_word.result one.result
            w.if-rest-eq0.false w.check_word.ensures (one.ensures ∙ weight_fits _ (omega arith))),
        none (λ u e. w.if-rest-eq0.false e),
      )
    ]

pub returns-clause-relation : goal.returns-clause-relation
returns-clause-relation c = relation-missing c.args.words.now c.args.f c.loop-i.i (omega arith) c.loop-i.invariant.2
