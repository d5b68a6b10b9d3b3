-- `report::part::list`: turn by turn (`Loop`). Assumes nothing.
use Rattle.report.proofs.Loop.{Going}
use Rattle.report.proofs.part.list.Given as goal

abbrev pub invariant-loop-block : goal.invariant-loop-block
invariant-loop-block l =
    Going l.t l.initial.state l.first l.bytes l.initial.lines l.state l.lines l.number l.block-index
