use Rattle.std.proofs.Common.{◌≡◌, ℕ, ◌+◌, List, get_or, refl, ap, ◌∙◌, add-one}
use Rattle.span.specs.Word.{◌⊕◌, odd, sel, digit, common_parity}
use Rattle.span.specs.Dual.{crossed}
use Rattle.span.proofs.Word.{odd-digit}
use Rattle.span.proofs.dual.dual_check.Goals as goal

one_more : (vs ds : List ℕ) (h i sum on d : ℕ) → sum ≡ crossed vs ds h i
    → on ≡ digit (common_parity 64 (get_or vs i 0) h) → d ≡ sel (odd on) (get_or ds i 0)
    → sum ⊕ d ≡ crossed vs ds h (i + 1)
unfolding crossed
one_more vs ds h i sum on d e on-is d-is =
    let s = common_parity 64 (get_or vs i 0) h in
    let on-odd : odd on ≡ s = ap odd on-is ∙ odd-digit s in
    rw (add-one i, ← e, d-is, on-odd)

pub loop-i-init : goal.loop-i-init
unfolding crossed
loop-i-init c = refl

pub loop-i-preserved : goal.loop-i-preserved
unfolding ◌⊕◌
loop-i-preserved c =
    let a = c.args in
    one_more a.vectors.now a.duals.now a.check c.loop-i.i c.loop-i.sum c.parity.result c.select-sum.result
    c.loop-i.invariant c.parity.ensures c.select-sum.ensures
