-- `span::dual::reduce_at_once`: after i turns the word is reduced by the first i triples. Assumes nothing.
use Rattle.std.proofs.Common.{◌≡◌}
use Rattle.span.specs.declared.eliminate.Reduced.{Reduced}
use Rattle.span.specs.Dual.{at_once_to}
use Rattle.span.proofs.dual.reduce_at_once.Given as goal

abbrev pub invariant-loop-i : goal.invariant-loop-i
invariant-loop-i l = ◌≡◌ {A = Reduced} (record { rest = l.rest; coefficients = l.coefficients }) (at_once_to l.b l.i l.x)
