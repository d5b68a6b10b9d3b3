-- What judging a table value says.
--
--   judgement_of o   what the search for a clash says of a fit table: the clash that it found, or sound
--   judging t        the judgement of t: not fit, its first clash, or sound
--   Judges t j       the judgement j is right of t: not fit; fit, and the triple is the first that shows it unsuitable;
--                    or fit and suitable
--   Judged           the judgement of t is the one that is right
use Rattle.std.specs.Prelude.{◌≡◌, ◌↔◌, true, false, cond, Option, None, Some, Result, Ok, Err}
use Rattle.tables.specs.declared.table.Table.{Table}
use Rattle.tables.specs.declared.judge.Clash.{Clash}
use Rattle.tables.specs.declared.judge.Unsound.{Unsound}
use Rattle.tables.specs.declared.judge.Unsound.TheVariants.{NotFit, Clashing}
use Rattle.tables.specs.Code.{Suitable}
use Rattle.tables.specs.Clash.{first_clash, First}
use Rattle.tables.specs.Table.{rows_of, fit}

abbrev pub judgement_of : Option Clash → Result (Unit {0}) Unsound
judgement_of None = Ok tt
judgement_of (Some c) = Err (Clashing c)

-- 12, the triple of 10, or neither
unfoldable pub judging : Table → Result (Unit {0}) Unsound
judging t = cond (fit t) (judgement_of (first_clash t.span (rows_of t))) (Err NotFit)

abbrev pub Judges : Table → Result (Unit {0}) Unsound → Type 0
Judges t (Err NotFit) = fit t ≡ false
Judges t (Err (Clashing c)) = (fit t ≡ true) × First t.span (rows_of t) c.l c.e0 c.e1
Judges t (Ok sound) = (fit t ≡ true) × Suitable t.span (rows_of t)

abbrev pub Judged : Type 0
Judged = (t : Table) (j : Result (Unit {0}) Unsound) → (judging t ≡ j) ↔ Judges t j
