-- `tables::write::write`: the answer by the judgement. Assumes nothing.
use mathlib.Core.Path.{◌≡◌, refl, sym, ap, ◌∙◌}
use native.Mathlib.Omega.{arith}
use Rattle.std.specs.Prelude.{ℕ, Result, Ok, Err, IsErr, IsErrAnd}
use Rattle.tables.specs.declared.judge.Unsound.{Unsound}
use Rattle.tables.specs.declared.write.WriteError.{WriteError}
use Rattle.tables.specs.Writing.{unsound_error}
use Rattle.tables.proofs.Fit.{fit-facts}
use Rattle.tables.proofs.Judging.{judged}
use Rattle.tables.proofs.Writing.{writes-by}
use Rattle.tables.proofs.write.write.Goals as goal

pub put-requires : goal.put-requires
put-requires c =
    let t = c.args.t in
    let f = fit-facts t ((judged t (Ok tt)).0 (sym c.judge.ensures ∙ c.in_ok-judge.was)).0 in
    (omega arith, omega arith, omega arith, omega arith)

-- what the conversion gives
converted : (r : Result ℕ WriteError) (u : Unsound) → IsErr r → IsErrAnd r (λ e. e ≡ unsound_error u) → r ≡ Err (unsound_error u)
converted (Ok n) u i h = absurd h
converted (Err e) u i h = ap Err h

pub returns-in_err-judge : goal.returns-in_err-judge
returns-in_err-judge c =
    let e = c.from_residual.ensures in
    let same = converted _ _ e.0 e.1 in
    writes-by c.args.t _ c.judge.result _ _ c.judge.ensures (same ∙ rw c.in_err-judge.was refl) (rw same refl)

pub returns : goal.returns
returns c =
    writes-by c.args.t _ (Ok tt) _ _ (sym c.in_ok-judge.was ∙ c.judge.ensures)
    c.put.ensures.answer c.put.ensures.buffer
