-- `link::decode_batch::decode_batch`: the first of the output, as many as were counted. Assumes nothing.
use mathlib.Core.Path.{◌≡◌, subst}
use borrow.Author.Rules.{rules}
use lib.ListN.{length, take}
use Rattle.tables.specs.declared.table.Table.{Table}
use Rattle.tables.proofs.Lent.{lent_rows}
use Rattle.link.specs.Batch.{decode_batch, Fills, FillsPart}
use Rattle.link.proofs.Reached.{fills-part}
use Rattle.link.proofs.decode_batch.decode_batch.Goals as goal

filled : (c : goal.After-out-2-1)
    → let a = c.args in
    let f = c.fill_decoded-count in
    (f.result ≡ length (take f.result f.new.out))
    × FillsPart (decode_batch a.t (length a.out.now) a.state.now a.blocks.now)
    (take f.result f.new.out) f.new.state
filled c =
    let a = c.args in
    let f = c.fill_decoded-count in
    let size : length a.t.rows ≡ 15 = search rules in
    fills-part (decode_batch a.t (length a.out.now) a.state.now a.blocks.now) a.out.now f.result
    f.new.state f.new.out
    (subst (λ (u : Table). Fills (decode_batch u (length a.out.now) a.state.now a.blocks.now) a.out.now
    f.result f.new.state f.new.out) ((lent_rows a.t a.t.rows).0 size) f.ensures)

pub slice_bounds-result-end : goal.slice_bounds-result-end
slice_bounds-result-end c = (filled c).0

pub returns : goal.returns
returns c = (filled c).1
