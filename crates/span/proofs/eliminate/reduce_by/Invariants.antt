-- `span::eliminate::reduce_by`: after i turns the word is reduced by the first i triples. Assumes nothing.
use Rattle.std.proofs.Common.{◌≡◌}
use Rattle.span.specs.declared.eliminate.Reduced.{Reduced}
use Rattle.span.specs.Basis.{reduced_to}
use Rattle.span.proofs.eliminate.reduce_by.Given as goal

abbrev pub invariant-loop-i : goal.invariant-loop-i
invariant-loop-i l = ◌≡◌ {A = Reduced} (record { rest = l.rest; coefficients = l.coefficients }) (reduced_to l.b l.i l.x)
