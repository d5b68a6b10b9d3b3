-- `span::lookup::double`: after v turns the first v entries have their sums behind them. Assumes nothing.
use Rattle.span.specs.Lookup.{Doubled}
use Rattle.span.proofs.lookup.double.Given as goal

abbrev pub invariant-loop-v : goal.invariant-loop-v
invariant-loop-v l = Doubled l.at l.width l.v l.row l.initial.tables l.tables
