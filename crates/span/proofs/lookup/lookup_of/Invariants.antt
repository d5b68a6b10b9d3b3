-- `span::lookup::lookup_of`: after g turns the first g tables are made. Assumes nothing.
use Rattle.std.proofs.Common.{take}
use Rattle.span.proofs.Lookups.{Made}
use Rattle.span.proofs.lookup.lookup_of.Given as goal

abbrev pub invariant-loop-g : goal.invariant-loop-g
invariant-loop-g l = Made (take 16 l.words) l.g l.tables
