-- `iwadare::decode::decode`: a refusal, or a step that is taken. Assumes nothing.
use mathlib.Core.Path.{◌≡◌, refl, sym, subst, ◌∙◌}
use mathlib.Core.List.{List}
use Prim.Native.Nat.{ℕ}
use native.Mathlib.Omega.{arith}
use borrow.Author.Tests.{ne_eqb}
use Rattle.std.specs.Prelude.{Ok}
use Rattle.std.proofs.lemmas.Result.{err_from_is_err_and}
use Rattle.link.specs.Refusals.{refused}
use Rattle.link.proofs.Refusals.{settled-taken, settled-refused}
use Rattle.iwadare.specs.Refusals.{decoder_fault}
use Rattle.iwadare.specs.Decoder.{Decodes}
use Rattle.iwadare.proofs.Decoder.{decoder-fault, decode-refuses, decodes, decodes-so}
use Rattle.iwadare.proofs.decode.decode.Goals as goal
use Rattle.iwadare.proofs.decode.decode.Goals.{In_ok-fault}

pub returns-in_default : goal.returns-in_default
returns-in_default c =
    let s = c.args.state.now in
    let r = c.args.received in
    let e = decode-refuses s r 13 (decoder-fault s r ∙ simp (ne_eqb _ _ c.in_default.ensures.cases)) (omega arith) in
    decodes-so s r (refused 13) s e.0 e.1

-- the array is the lent memory
pub returns-in_err-fault : goal.returns-in_err-fault
returns-in_err-fault c =
    let s = c.in-Some.memory.now in
    let r = c.args.received in
    let p = err_from_is_err_and c.from_residual.result c.from_residual.ensures.1 in
    let q = settled-refused (decoder_fault s r) c.in_err-fault.field-0.0 (sym c.fault.ensures ∙ c.in_err-fault.was) in
    let e = decode-refuses s r (decoder_fault s r) refl (omega (arith, q.0)) in
    subst (λ (t : List ℕ). Decodes t r c.from_residual.result s) c.in-Some.ensures.cases.same
    (rw (p.1, p.2, q.1) (decodes-so s r (refused (decoder_fault s r)) s e.0 e.1))

none : (c : goal.In_ok-fault) → decoder_fault c.in-Some.memory.now c.args.received ≡ 0
none c = settled-taken _ tt (sym c.fault.ensures ∙ c.in_ok-fault.was)

pub taken-requires : goal.taken-requires
taken-requires c = none (goal.at.taken-requires c).In_ok-fault

pub returns : goal.returns
returns c =
    let s = c.in-Some.memory.now in
    let r = c.args.received in
    let t = c.taken in
    let e = decodes s r (none (goal.at.returns c).In_ok-fault) in
    subst (λ (u : List ℕ). Decodes u r (Ok t.result) t.new.memory) c.in-Some.ensures.cases.same
    (decodes-so s r (Ok t.result) t.new.memory (t.ensures.answer ∙ e.0) (t.ensures.memory ∙ e.1))
