-- `span::dual::dual_check`: after i turns the first i new check words are crossed with the old one. Assumes nothing.
use Rattle.std.proofs.Common.{◌≡◌}
use Rattle.span.specs.Dual.{crossed}
use Rattle.span.proofs.dual.dual_check.Given as goal

abbrev pub invariant-loop-i : goal.invariant-loop-i
invariant-loop-i l = l.sum ≡ crossed l.vectors l.duals l.check l.i
