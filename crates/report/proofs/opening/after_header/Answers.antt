-- `report::opening::after_header`: a made table is fit, and no larger than N = 32; otherwise the refusal. Assumes
-- nothing.
use mathlib.Core.Path.{◌≡◌, refl, sym, ◌∙◌, subst}
use Prim.Native.Nat.{ℕ}
use native.Mathlib.Omega.{arith}
use Rattle.tables.specs.declared.make.MakeError.{MakeError}
use Rattle.tables.specs.declared.make.MakeError.TheVariants.{OutOfRange}
use Rattle.tables.specs.Made.{make_number}
use Rattle.report.specs.Text.{refused_line}
use Rattle.report.specs.Writing.{Pushes}
use Rattle.report.proofs.Answer.{puts-pushes}
use Rattle.report.proofs.Opens.{made-fits}
use Rattle.report.proofs.Written.{pushes_nothing}
use Rattle.report.proofs.opening.after_header.Goals as goal

pub started-requires : goal.started-requires
started-requires c =
    let a = c.args in
    let f = made-fits a.n a.m c.in-Ok.table (sym c.make.ensures.answer ∙ c.in-Ok.is) in
    (f.0, f.1, c.requires.0)

pub returns-in-Ok-clause-text : goal.returns-in-Ok-clause-text
returns-in-Ok-clause-text c = rw (sym c.make.ensures.answer ∙ c.in-Ok.is) (pushes_nothing c.args.lines.now)

-- a making is refused by 11 alone
eleven : (e : MakeError) → make_number e ≡ 11
eleven OutOfRange = refl

pub returns-in-Err-clause-text : goal.returns-in-Err-clause-text
returns-in-Err-clause-text c =
    let e = eleven c.in-Err.error in
    let printed : c.into.result ≡ 11 = omega (arith, c.into.ensures) in
    rw (sym c.make.ensures.answer ∙ c.in-Err.is)
    (subst (λ (k : ℕ). Pushes (refused_line k) c.args.lines.now c.refusal.new.self) (sym e)
    (puts-pushes (refused_line 11) c.requires.1 (rw printed at c.refusal.ensures)))
