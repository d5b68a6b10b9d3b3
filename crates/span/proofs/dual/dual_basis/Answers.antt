-- `span::dual::dual_basis`: the basis of the words, with the new check words stored over the old. Assumes nothing.
use Rattle.span.specs.Combination.{counted}
use Rattle.span.specs.Elimination.{basis_of}
use Rattle.span.proofs.Duals.{dual-stored}
use Rattle.span.proofs.dual.dual_basis.Goals as goal

pub returns : goal.returns
returns c =
    let a = c.args in
    dual-stored c.basis_of-b.result (basis_of (counted a.count a.words.now)) c.dual_checks-b.result
    c.basis_of-b.ensures c.dual_checks-b.ensures
