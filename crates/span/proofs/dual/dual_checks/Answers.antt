use Rattle.std.proofs.Common.{◌≡◌, ℕ, ◌+◌, List, get_or, set, refl, ap, ◌∙◌, add-one, arith}
use Rattle.span.specs.Dual.{crossed, dual_to, dual_checks}
use Rattle.span.proofs.dual.dual_checks.Goals as goal

one_more : (vs hs ds : List ℕ) (i word : ℕ) → ds ≡ dual_to vs hs i → word ≡ crossed vs ds (get_or hs i 0) i
    → set ds i word ≡ dual_to vs hs (i + 1)
unfolding dual_to
one_more vs hs ds i word e w = rw (add-one i, ← e, w)

pub loop-i-init : goal.loop-i-init
unfolding dual_to
loop-i-init c = refl

pub loop-i-preserved : goal.loop-i-preserved
loop-i-preserved c =
    let b = c.args.b.now in
    one_more b.vectors b.checks c.loop-i.duals c.loop-i.i c.dual_check.result
    c.loop-i.invariant c.dual_check.ensures

pub returns : goal.returns
unfolding dual_checks
returns c =
    let b = c.args.b.now in
    c.loop-i.invariant ∙ ap (dual_to b.vectors b.checks) (omega arith)
