-- `report::text::Lines::delivery`: with room and without. Assumes nothing.
use mathlib.Core.Path.{sym, ◌∙◌}
use Rattle.report.specs.Text.{line_of}
use Rattle.report.proofs.Written.{puts-there, puts-nothing}
use Rattle.report.proofs.text.Lines.delivery.Goals as goal

pub returns-then-has_room-clause-line : goal.returns-then-has_room-clause-line
returns-then-has_room-clause-line c =
    puts-there (line_of c.args.number c.args.d) (sym c.has_room.ensures ∙ c.if-has_room.true) c.push_delivery.ensures.line

pub returns-else-has_room-clause-line : goal.returns-else-has_room-clause-line
returns-else-has_room-clause-line c =
    puts-nothing c.args.self.now (line_of c.args.number c.args.d) (sym c.has_room.ensures ∙ c.if-has_room.false)
