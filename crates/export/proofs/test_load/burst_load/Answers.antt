-- `export::test_load::burst_load`: the load of the table of the numbers. Assumes nothing.
use mathlib.Core.Path.{refl, ap, ◌∙◌, subst}
use Rattle.tables.specs.declared.table.Table.{Table}
use Rattle.load.specs.Filling.{refusal_number, load_numbers}
use Rattle.export.specs.Answers.{number_of}
use Rattle.export.proofs.Answers.{refused_is}
use Rattle.export.specs.Promises.{LoadsBy}
use Rattle.export.proofs.test_load.burst_load.Goals as goal

pub returns : goal.returns
returns c =
    let a = c.args in
    let fill = c.fill_load.ensures in
    subst (λ (u : Table). LoadsBy u a.seed a.blocks.now c.refused.result c.fill_load.new.out)
    c.table_of.ensures
    (record {
      number = refused_is refusal_number load_numbers (λ u. refl) (λ e. refl) _ _ c.refused.ensures.ok c.refused.ensures.err
          ∙ ap number_of fill.numbers;
      blocks = fill.blocks;
    })
