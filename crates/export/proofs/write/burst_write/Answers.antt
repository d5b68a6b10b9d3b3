-- `export::write::burst_write`: the writing of the table of the numbers. Assumes nothing.
use mathlib.Core.Path.{ap, subst, ◌∙◌}
use Rattle.tables.specs.declared.table.Table.{Table}
use Rattle.std.specs.Prelude.{ℕ, Result}
use Rattle.tables.specs.declared.write.WriteError.{WriteError}
use Rattle.tables.specs.Writing.{write_numbers}
use Rattle.export.specs.Answers.{written_of}
use Rattle.export.specs.Promises.{WritesBy}
use Rattle.export.proofs.write.burst_write.Goals as goal

pub returns : goal.returns
returns c =
    let bytes = c.args.bytes.now in
    subst (λ (u : Table). WritesBy u bytes c.into.result c.write.new.out) c.table_of.ensures
    (record {
      answer = c.into.ensures ∙ ap (λ (a : Result ℕ WriteError). written_of (write_numbers a)) c.write.ensures.answer;
      buffer = c.write.ensures.buffer;
    })
