-- `export::decode::burst_decode`: the step of the table of the numbers. Assumes nothing.
use mathlib.Core.Path.{ap, ◌∙◌}
use lib.ListN.{drop}
use Rattle.tables.specs.declared.table.Table.{Table}
use Rattle.export.specs.Answers.{decoded_of}
use Rattle.tables.specs.Lent.{with_rows}
use Rattle.link.specs.Decoder.{Decodes}
use Rattle.export.specs.Numbers.{table_of}
use Rattle.export.proofs.Numbers.{table-parts}
use Rattle.export.proofs.decode.burst_decode.Goals as goal

pub returns : goal.returns
returns c =
    let a = c.args in
    let whole = ap (λ (t : Table). with_rows t (drop 3 a.table.now)) c.sizes_of.ensures
    ∙ table-parts a.table.now in
    let step : Decodes (table_of a.table.now) a.words.now a.received c.step.result
    c.step.new.words =
    rw whole at c.step.ensures in
    record { answer = c.into.ensures ∙ ap decoded_of step.numbers; memory = step.memory }
