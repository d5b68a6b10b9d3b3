use Rattle.std.proofs.Common.{◌≡◌, ℕ, ◌+◌, get_or, refl, ap, ◌∙◌, add-one, arith}
use Rattle.span.specs.declared.eliminate.Basis.{Basis}
use Rattle.span.specs.declared.eliminate.Reduced.{Reduced}
use Rattle.span.specs.Word.{◌⊕◌, odd, sel, digit, common_parity}
use Rattle.span.specs.Basis.{reduced_by, reduced_to, reduction}
use Rattle.span.proofs.Word.{odd-digit}
use Rattle.span.proofs.eliminate.reduce_by.Goals as goal

one_more : (b : Basis) (i x rest coefficients on v q : ℕ)
    → ◌≡◌ {A = Reduced} (record { rest = rest; coefficients = coefficients }) (reduced_to b i x)
    → on ≡ digit (common_parity 64 rest (get_or b.checks i 0))
    → v ≡ sel (odd on) (get_or b.vectors i 0)
    → q ≡ sel (odd on) (get_or b.coefficients i 0)
    → ◌≡◌ {A = Reduced} (record { rest = rest ⊕ v; coefficients = coefficients ⊕ q }) (reduced_to b (i + 1) x)
unfolding reduced_to reduced_by
one_more b i x rest coefficients on v q e on-is v-is q-is =
    let s = common_parity 64 rest (get_or b.checks i 0) in
    let on-odd : odd on ≡ s = ap odd on-is ∙ odd-digit s in
    rw (add-one i, ← e, v-is, q-is, on-odd)

pub loop-i-init : goal.loop-i-init
unfolding reduced_to
loop-i-init c = refl

pub loop-i-preserved : goal.loop-i-preserved
unfolding ◌⊕◌
loop-i-preserved c =
    one_more c.args.b.now c.loop-i.i c.args.x c.loop-i.rest c.loop-i.coefficients c.parity-on.result
    c.select-rest.result c.select-coefficients.result c.loop-i.invariant c.parity-on.ensures c.select-rest.ensures
    c.select-coefficients.ensures

pub returns : goal.returns
unfolding reduction
returns c =
    let a = c.args in
    c.loop-i.invariant
    ∙ ap (λ (i : ℕ). reduced_to a.b.now i a.x)
    (omega arith)
