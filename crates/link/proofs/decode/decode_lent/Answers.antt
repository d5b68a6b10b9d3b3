-- `link::decode::decode_lent`: a refusal, or a step that is taken. Assumes nothing.
use mathlib.Core.Path.{refl, sym, subst, ◌∙◌}
use native.Mathlib.Omega.{arith}
use Rattle.tables.specs.declared.table.Table.{Table}
use Rattle.tables.specs.Lent.{lent}
use Rattle.std.specs.Prelude.{Ok}
use Rattle.std.proofs.lemmas.Result.{err_from_is_err_and}
use Rattle.link.specs.Fit.{table_of}
use Rattle.link.specs.Refusals.{decoder_fault, refused}
use Rattle.link.specs.Decoder.{Decodes}
use Rattle.link.proofs.Refusals.{settled-taken, settled-refused}
use Rattle.link.proofs.Decoder.{decode-refuses, decodes, decodes-so, decode-unfit}
use Rattle.link.proofs.decode.decode_lent.Goals as goal

pub returns-in_err-fit : goal.returns-in_err-fit
returns-in_err-fit c =
    let a = c.args in
    let u = lent a.t a.rows.now in
    let p = err_from_is_err_and c.from_residual.result c.from_residual.ensures.1 in
    let q = c.in_err-fit.ensures in
    let e = decode-refuses u a.state.now a.received 12 (decode-unfit u a.state.now a.received q.1) (omega arith) in
    rw (p.1, p.2, q.0) (decodes-so u a.state.now a.received (refused 12) a.state.now e.0 e.1)

pub returns-in_err-fault : goal.returns-in_err-fault
returns-in_err-fault c =
    let a = c.args in
    let u = table_of c.in_ok-fit.fit in
    let r = c.from_residual-in_err-fault in
    let p = err_from_is_err_and r.result r.ensures.1 in
    let q = settled-refused (decoder_fault u a.state.now a.received) c.in_err-fault.field-0.0
    (sym c.fault.ensures ∙ c.in_err-fault.was) in
    let e = decode-refuses u a.state.now a.received (decoder_fault u a.state.now a.received) refl (omega (arith, q.0)) in
    subst (λ (t : Table). Decodes t a.state.now a.received r.result a.state.now) c.in_ok-fit.ensures
    (rw (p.1, p.2, q.1) (decodes-so u a.state.now a.received (refused (decoder_fault u a.state.now a.received)) a.state.now
    e.0 e.1))

pub taken-requires : goal.taken-requires
taken-requires c = settled-taken _ tt (sym c.fault.ensures ∙ c.in_ok-fault.was)

pub returns : goal.returns
returns c =
    let a = c.args in
    let s = a.state.now in
    let u = table_of c.in_ok-fit.fit in
    let k = c.taken in
    let e = decodes u s a.received (settled-taken _ tt (sym c.fault.ensures ∙ c.in_ok-fault.was)) in
    subst (λ (t : Table). Decodes t s a.received (Ok k.result) k.new.state) c.in_ok-fit.ensures
    (decodes-so u s a.received (Ok k.result) k.new.state (k.ensures.answer ∙ e.0) (k.ensures.memory ∙ e.1))
