-- `export::batch::burst_code_batch`: the batch of the table of the numbers, with its own rows lent. Assumes nothing.
use mathlib.Core.Path.{◌≡◌, subst, ◌∙◌}
use borrow.Author.Rules.{rules}
use lib.ListN.{length}
use Rattle.tables.specs.declared.table.Table.{Table}
use Rattle.tables.proofs.Lent.{lent_rows}
use Rattle.link.specs.Batch.{code_batch, Fills}
use Rattle.export.proofs.batch.burst_code_batch.Goals as goal

pub returns : goal.returns
returns c =
    let a = c.args in
    let f = c.fill_coded in
    let t = c.table_of-t.result in
    let size : length t.rows ≡ 15 = search rules in
    subst (λ (u : Table). Fills (code_batch u (length a.entries.now) a.words.now a.infos.now)
    a.entries.now
    f.result f.new.state f.new.out)
    ((lent_rows t t.rows).0 size ∙ c.table_of-t.ensures) f.ensures
