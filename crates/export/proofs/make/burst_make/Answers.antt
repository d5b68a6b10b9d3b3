-- `export::make::burst_make`: the number of the answer, and the table, if there is one. Assumes nothing.
use mathlib.Core.Path.{refl, ap, ◌∙◌}
use Rattle.std.specs.Prelude.{Result}
use Rattle.tables.specs.declared.table.Table.{Table}
use Rattle.tables.specs.declared.make.MakeError.{MakeError}
use Rattle.tables.specs.Made.{make_number, made_numbers}
use Rattle.export.specs.Answers.{number_of}
use Rattle.export.specs.Numbers.{given_back}
use Rattle.export.proofs.Answers.{refused_is}
use Rattle.export.proofs.make.burst_make.Goals as goal

pub returns : goal.returns
returns c =
    let made = c.make-answer.ensures in
    record {
      number = refused_is make_number made_numbers (λ t. refl) (λ e. refl) _ _ c.refused.ensures.ok c.refused.ensures.err
          ∙ ap (λ (r : Result Table MakeError). number_of (made_numbers r)) made.answer;
      table = c.give_back.ensures ∙ ap (λ (r : Result Table MakeError). given_back r c.args.table.now) made.answer;
    }
