-- `export::batch::burst_decode_batch`: the batch of the table of the numbers, with its own rows lent. Assumes nothing.
use mathlib.Core.Path.{◌≡◌, subst, ◌∙◌}
use borrow.Author.Rules.{rules}
use lib.ListN.{length}
use Rattle.tables.specs.declared.table.Table.{Table}
use Rattle.tables.proofs.Lent.{lent_rows}
use Rattle.link.specs.Batch.{decode_batch, Fills}
use Rattle.export.proofs.batch.burst_decode_batch.Goals as goal

pub returns : goal.returns
returns c =
    let a = c.args in
    let f = c.fill_decoded in
    let t = c.table_of-t.result in
    let size : length t.rows ≡ 15 = search rules in
    subst (λ (u : Table). Fills (decode_batch u (length a.entries.now) a.words.now a.received.now)
    a.entries.now
    f.result f.new.state f.new.out)
    ((lent_rows t t.rows).0 size ∙ c.table_of-t.ensures) f.ensures
