-- `iwadare::code::code`: a refusal, or a step that is taken. Assumes nothing.
use mathlib.Core.Path.{◌≡◌, refl, sym, ap, subst, ◌∙◌}
use mathlib.Core.List.{List}
use Prim.Native.Nat.{ℕ}
use native.Mathlib.Omega.{arith}
use borrow.Author.Tests.{ne_eqb}
use Rattle.std.specs.Prelude.{Ok}
use Rattle.std.proofs.lemmas.Result.{err_from_is_err_and}
use Rattle.link.specs.Refusals.{refused}
use Rattle.link.proofs.Refusals.{settled-taken, settled-refused}
use Rattle.iwadare.specs.Refusals.{coder_fault}
use Rattle.iwadare.specs.Coder.{Codes}
use Rattle.iwadare.proofs.Coder.{coder-fault, code-refuses, codes, codes-so, coder-taken, coded-below}
use Rattle.iwadare.proofs.code.code.Goals as goal
use Rattle.iwadare.proofs.code.code.Goals.{In_ok-fault}

pub returns-in_default : goal.returns-in_default
returns-in_default c =
    let s = c.args.state.now in
    let b = c.args.info in
    let e = code-refuses s b 13 (coder-fault s b ∙ simp (ne_eqb _ _ c.in_default.ensures.cases)) (omega arith) in
    codes-so s b (refused 13) s e.0 e.1

-- the array is the lent memory
pub returns-in_err-fault : goal.returns-in_err-fault
returns-in_err-fault c =
    let s = c.in-Some.memory.now in
    let b = c.args.info in
    let p = err_from_is_err_and c.from_residual.result c.from_residual.ensures.1 in
    let q = settled-refused (coder_fault s b) c.in_err-fault.field-0.0 (sym c.fault.ensures ∙ c.in_err-fault.was) in
    let e = code-refuses s b (coder_fault s b) refl (omega (arith, q.0)) in
    subst (λ (t : List ℕ). Codes t b c.from_residual.result s) c.in-Some.ensures.cases.same
    (rw (p.1, p.2, q.1) (codes-so s b (refused (coder_fault s b)) s e.0 e.1))

none : (c : goal.In_ok-fault) → coder_fault c.in-Some.memory.now c.args.info ≡ 0
none c = settled-taken _ tt (sym c.fault.ensures ∙ c.in_ok-fault.was)

pub taken-requires : goal.taken-requires
taken-requires c = (coder-taken _ _ (none (goal.at.taken-requires c).In_ok-fault)).info

pub overflow_cast-result : goal.overflow_cast-result
overflow_cast-result c =
    let e = c.taken.ensures.block in
    let l = coded-below _ _ (none (goal.at.overflow_cast-result c).In_ok-fault) in
    record { fits = omega arith }

pub returns : goal.returns
returns c =
    let s = c.in-Some.memory.now in
    let b = c.args.info in
    let t = c.taken in
    let e = codes s b (none (goal.at.returns c).In_ok-fault) in
    subst (λ (u : List ℕ). Codes u b (Ok t.result) t.new.memory) c.in-Some.ensures.cases.same
    (codes-so s b (Ok t.result) t.new.memory (ap Ok t.ensures.block ∙ e.0) (t.ensures.memory ∙ e.1))
