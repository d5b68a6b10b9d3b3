-- `export::code::step`: the part of the numbers that is lent is the rows. Assumes nothing.
use mathlib.Core.Path.{subst}
use Rattle.tables.specs.declared.table.Table.{Table}
use Rattle.link.specs.Coder.{Codes}
use Rattle.export.proofs.Lent.{rows-lent}
use Rattle.export.proofs.code.step.Goals as goal

pub returns : goal.returns
returns c =
    let a = c.args in
    let step = c.code_lent in
    subst (λ (u : Table). Codes u a.words.now a.info step.result step.new.state)
    (rows-lent a.t a.numbers.now c.requires) step.ensures
