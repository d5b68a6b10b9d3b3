-- `link::decode::decode`: the table is that with its own rows lent. Assumes nothing.
use mathlib.Core.Path.{◌≡◌}
use borrow.Author.Rules.{rules}
use lib.ListN.{length}
use Rattle.tables.proofs.Lent.{lent_rows}
use Rattle.link.proofs.decode.decode.Goals as goal

pub returns : goal.returns
returns c =
    let a = c.args in
    let size : length a.t.rows ≡ 15 = search rules in
    rw ((lent_rows a.t a.t.rows).0 size) at c.decode_lent.ensures
