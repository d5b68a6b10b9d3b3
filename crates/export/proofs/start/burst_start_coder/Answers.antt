-- `export::start::burst_start_coder`: the start of the table of the numbers. Assumes nothing.
use mathlib.Core.Path.{refl, ap, ◌∙◌, subst}
use Rattle.tables.specs.declared.table.Table.{Table}
use Rattle.link.specs.Memory.{coder_words}
use Rattle.link.specs.Refusals.{refusal_number}
use Rattle.link.specs.Start.{start_numbers}
use Rattle.export.specs.Answers.{number_of}
use Rattle.export.proofs.Answers.{refused_is}
use Rattle.export.specs.Promises.{StartsBy}
use Rattle.export.proofs.start.burst_start_coder.Goals as goal

pub returns : goal.returns
returns c =
    let s = c.args.words.now in
    let start = c.start_coder.ensures in
    subst (λ (u : Table). StartsBy u (coder_words u) s c.refused.result c.start_coder.new.state)
    c.table_of.ensures
    (record {
      number = refused_is refusal_number start_numbers (λ u. refl) (λ e. refl) _ _ c.refused.ensures.ok c.refused.ensures.err
          ∙ ap number_of start.numbers;
      memory = start.memory;
    })
