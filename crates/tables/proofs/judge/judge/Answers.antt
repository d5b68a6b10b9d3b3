-- `tables::judge::judge`: a fit table is searched for a clash. Assumes nothing.
use mathlib.Core.Path.{◌≡◌, sym, ap, ◌∙◌}
use mathlib.Core.Bool.{true, false}
use Rattle.tables.specs.Table.{fit}
use Rattle.tables.specs.Judging.{judgement_of}
use Rattle.tables.proofs.Judging.{judging_by}
use Rattle.tables.proofs.judge.judge.Goals as goal
use Rattle.tables.proofs.judge.judge.Goals.{Else-not-is_fit}

pub returns-then-not-is_fit : goal.returns-then-not-is_fit
returns-then-not-is_fit c = sym (judging_by c.args.t false (sym c.is_fit.ensures ∙ c.if-not-is_fit.true))

fits : (c : goal.Else-not-is_fit) → fit c.args.t ≡ true
fits c = sym c.is_fit.ensures ∙ c.if-not-is_fit.false

pub first_clash-requires : goal.first_clash-requires
first_clash-requires c = fits (goal.at.first_clash-requires c).Else-not-is_fit

pub returns-in-Some : goal.returns-in-Some
returns-in-Some c =
    ap judgement_of (sym c.in-Some.is ∙ c.first_clash.ensures)
    ∙ sym (judging_by c.args.t true (fits (goal.at.returns-in-Some c).Else-not-is_fit))

pub returns-in-None : goal.returns-in-None
returns-in-None c =
    ap judgement_of (sym c.in-None.is ∙ c.first_clash.ensures)
    ∙ sym (judging_by c.args.t true (fits (goal.at.returns-in-None c).Else-not-is_fit))
