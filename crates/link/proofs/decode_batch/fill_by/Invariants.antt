-- `link::decode_batch::fill_by`: block by block (`Going`). Assumes nothing.
use Rattle.link.specs.Fit.{table_of}
use Rattle.link.proofs.Going.{Going}
use Rattle.link.proofs.decode_batch.fill_by.Given as goal

abbrev pub invariant-loop-i : goal.invariant-loop-i
invariant-loop-i g l = Going (table_of l.t) l.initial.state l.blocks l.initial.out l.i l.state l.out
