-- `tables::table::lent_fits`: fifteen rows, and those fit. Assumes nothing.
use mathlib.Core.Path.{sym, ap, ◌∙◌}
use mathlib.Core.Bool.{Bool, ◌&&◌}
use lib.Dec.{eqb}
use lib.ListN.{length}
use Rattle.tables.proofs.Lent.{lent-fit}
use Rattle.tables.proofs.table.lent_fits.Goals as goal

pub returns : goal.returns
returns c =
    let a = c.args in
    ap (λ (b : Bool). eqb (length a.rows.now) 15 && b) c.is_fit.ensures ∙ sym (lent-fit a.t a.rows.now)
