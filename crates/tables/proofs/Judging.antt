-- The judgement of a table is the one that is right: what the search finds, by its order. Assumes nothing.
use mathlib.Core.Path.{◌≡◌, refl, sym, ap, ◌∙◌, subst}
use mathlib.Core.Bool.{Bool, true, false, cond}
use Rattle.std.specs.Prelude.{Option, None, Some, Result, Ok, Err}
use Rattle.tables.specs.declared.table.Table.{Table}
use Rattle.tables.specs.declared.judge.Clash.{Clash}
use Rattle.tables.specs.declared.judge.Unsound.{Unsound}
use Rattle.tables.specs.declared.judge.Unsound.TheVariants.{NotFit, Clashing}
use Rattle.tables.specs.Clash.{first_clash}
use Rattle.tables.specs.Table.{rows_of, fit}
use Rattle.tables.specs.Judging.{judgement_of, judging, Judges, Judged}
use Rattle.tables.proofs.Clash.{first-clash, no-clash}

module _ (t : Table) where
  abbrev clash : Option Clash
  clash = first_clash t.span (rows_of t)

  pub judging_by : (b : Bool) → fit t ≡ b → judging t ≡ cond b (judgement_of clash) (Err NotFit)
  unfolding judging
  judging_by b e = ap (λ (f : Bool). cond f (judgement_of clash) (Err NotFit)) e

  judges-fit : fit t ≡ true → (o : Option Clash) → clash ≡ o → Judges t (judgement_of o)
  judges-fit f None e = (f, (no-clash t.span (rows_of t)).0 e)
  judges-fit f (Some c) e = (f, (first-clash t.span (rows_of t) c.l c.e0 c.e1).0 e)

  judges : (b : Bool) → fit t ≡ b → Judges t (judging t)
  judges true e = subst (Judges t) (sym (judging_by true e)) (judges-fit e clash refl)
  judges false e = subst (Judges t) (sym (judging_by false e)) e

  judges-one : (j : Result (Unit {0}) Unsound) → Judges t j → judging t ≡ j
  judges-one (Err NotFit) f = judging_by false f
  judges-one (Err (Clashing c)) (f, first) =
      judging_by true f ∙ ap judgement_of ((first-clash t.span (rows_of t) c.l c.e0 c.e1).1 first)
  judges-one (Ok sound) (f, suits) = judging_by true f ∙ ap judgement_of ((no-clash t.span (rows_of t)).1 suits)

pub judged : Judged
judged t j = (λ e. subst (Judges t) e (judges t (fit t) refl), judges-one t j)
