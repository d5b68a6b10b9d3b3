-- `link::fit::FitTable::of`: the test of 12, and what it says. Assumes nothing.
use mathlib.Core.Path.{◌≡◌, sym, ◌∙◌}
use mathlib.Core.Bool.{true}
use Rattle.tables.specs.Lent.{lent}
use Rattle.tables.specs.Table.{fit}
use Rattle.tables.proofs.Lent.{fit-lent, fit-fifteen}
use Rattle.link.proofs.Room.{fit_fields}
use Rattle.link.proofs.fit.FitTable.of.Goals as goal
use Rattle.link.proofs.fit.FitTable.of.Goals.{Else-not-lent_fits}

fitted : (c : goal.Else-not-lent_fits) → fit (lent c.args.t c.args.rows.now) ≡ true
fitted c = sym c.lent_fits.ensures ∙ c.if-not-lent_fits.false

pub invariant_of-result : goal.invariant_of-result
invariant_of-result c =
    let a = c.args in
    let f = fitted c in
    let is_fit = (fit-lent a.t a.rows.now f).1 in record {
      in_range = fit_fields a.t a.rows.now is_fit;
      is_fit = is_fit;
      fifteen = fit-fifteen a.t a.rows.now f;
    }

pub returns : goal.returns
returns c =
    let a = c.args in
    sym (fit-lent a.t a.rows.now (fitted (goal.at.returns c).Else-not-lent_fits)).0
