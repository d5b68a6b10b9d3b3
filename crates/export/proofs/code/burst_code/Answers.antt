-- `export::code::burst_code`: the step of the table of the numbers. Assumes nothing.
use mathlib.Core.Path.{ap, ◌∙◌}
use lib.ListN.{drop}
use Rattle.tables.specs.declared.table.Table.{Table}
use Rattle.export.specs.Answers.{coded_of}
use Rattle.tables.specs.Lent.{with_rows}
use Rattle.link.specs.Coder.{Codes}
use Rattle.export.specs.Numbers.{table_of}
use Rattle.export.proofs.Numbers.{table-parts}
use Rattle.export.proofs.code.burst_code.Goals as goal

pub returns : goal.returns
returns c =
    let a = c.args in
    let whole = ap (λ (t : Table). with_rows t (drop 3 a.table.now)) c.sizes_of.ensures
    ∙ table-parts a.table.now in
    let step : Codes (table_of a.table.now) a.words.now a.info c.step.result
    c.step.new.words =
    rw whole at c.step.ensures in
    record { answer = c.into.ensures ∙ ap coded_of step.numbers; memory = step.memory }
