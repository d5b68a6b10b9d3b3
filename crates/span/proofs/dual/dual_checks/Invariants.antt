-- `span::dual::dual_checks`: after i turns the first i new check words are there. Assumes nothing.
use Rattle.std.proofs.Common.{◌≡◌}
use Rattle.span.specs.Dual.{dual_to}
use Rattle.span.proofs.dual.dual_checks.Given as goal

abbrev pub invariant-loop-i : goal.invariant-loop-i
invariant-loop-i l = l.duals ≡ dual_to l.b.vectors l.b.checks l.i
