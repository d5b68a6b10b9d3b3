-- `report::text::Lines::fixed`: with room and without. Assumes nothing.
use mathlib.Core.Path.{sym, ◌∙◌}
use Rattle.report.proofs.Written.{puts-there, puts-nothing}
use Rattle.report.proofs.text.Lines.fixed.Goals as goal

pub returns-then-has_room : goal.returns-then-has_room
returns-then-has_room c = puts-there c.args.line.now (sym c.has_room.ensures ∙ c.if-has_room.true) c.push.ensures

pub returns-else-has_room : goal.returns-else-has_room
returns-else-has_room c = puts-nothing c.args.self.now c.args.line.now (sym c.has_room.ensures ∙ c.if-has_room.false)
