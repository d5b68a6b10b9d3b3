-- `report::part::answer_line`: answer by answer. Assumes nothing.
use Rattle.link.specs.Refusals.{Answer}
use Rattle.std.proofs.Common.{refl}
use Rattle.std.specs.Prelude.{◌≡◌, Option, Some, None, Ok}
use Rattle.link.specs.declared.decode.Delivered.{Delivered}
use native.Mathlib.Omega.{arith}
use Rattle.report.proofs.Longest.{longest-line}
use Rattle.report.proofs.Answer.{printed-delivery, printed-nothing, printed-refusal}
use Rattle.report.proofs.part.answer_line.Goals as goal

-- the answer, once what it holds is known
told : (a : Answer (Option Delivered)) (o o' : Option Delivered) → a ≡ Ok o → o ≡ o' → a ≡ Ok o'
told a o o' e f = rw (e, f) refl

pub returns-in-Ok-Some : goal.returns-in-Ok-Some
returns-in-Ok-Some c =
    let a = c.args in
    let w = c.delivery.ensures in
    let k = c.in-Ok-Some in
    printed-delivery a.number a.answer k.d (told a.answer k.field-0 (Some k.d) k.is (rw k.is at k.field-0-is))
    c.requires.0 w.line w.short

pub returns-in-Ok-None : goal.returns-in-Ok-None
returns-in-Ok-None c =
    let a = c.args in
    let k = c.in-Ok-None in
    printed-nothing a.lines.now a.number a.answer (told a.answer k.field-0 None k.is (rw k.is at k.field-0-is))

pub returns-in-Err : goal.returns-in-Err
returns-in-Err c =
    let a = c.args in
    printed-refusal a.number a.answer c.in-Err.refusal c.in-Err.is c.requires.0
    (rw c.from.ensures at c.refusal.ensures) (longest-line.refusal _ (omega arith))
