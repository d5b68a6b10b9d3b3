-- `span::eliminate::Basis::ones`: the first check words are a slice of their own. Assumes nothing.
use Rattle.std.proofs.Common.{ap, ◌∙◌, arith}
use Rattle.span.specs.Dual.{together}
use Rattle.span.proofs.Together.{together-take}
use Rattle.span.proofs.eliminate.Basis.ones.Goals as goal

pub returns : goal.returns
returns c =
    let checks = c.args.self.now.checks in
    c.together.ensures ∙ together-take c.min.result checks (omega arith) ∙ ap (together checks) c.min.ensures
