-- `link::code::code_lent`: a refusal, or a step that is taken. Assumes nothing.
use mathlib.Core.Path.{◌≡◌, refl, sym, ap, subst, ◌∙◌}
use Prim.Native.Nat.{ℕ, ◌-◌, ◌≤◌, ◌<◌}
use native.Mathlib.Omega.{arith}
use lib.Pow.{pow_mono}
use Rattle.tables.specs.declared.table.Table.{Table}
use Rattle.span.specs.Combination.{combination}
use Rattle.tables.specs.Table.{info_rows}
use Rattle.tables.specs.Lent.{lent}
use Rattle.std.specs.Prelude.{Ok}
use Rattle.std.proofs.lemmas.Result.{err_from_is_err_and}
use Rattle.link.specs.Fit.{table_of}
use Rattle.link.specs.Refusals.{coder_fault, refused}
use Rattle.link.specs.Coder.{coded_block, Codes}
use Rattle.link.proofs.Refusals.{settled-taken, settled-refused}
use Rattle.link.proofs.Coder.{coder-taken, code-refuses, codes, codes-so, code-unfit}
use Rattle.link.proofs.Coder.{coded-fits, block_in_numbers, memory_in_numbers}
use Rattle.link.proofs.code.code_lent.Goals as goal
use Rattle.link.proofs.code.code_lent.Goals.{In_ok-fault}

pub returns-in_err-fit : goal.returns-in_err-fit
returns-in_err-fit c =
    let a = c.args in
    let u = lent a.t a.rows.now in
    let p = err_from_is_err_and c.from_residual.result c.from_residual.ensures.1 in
    let q = c.in_err-fit.ensures in
    let e = code-refuses u a.state.now a.info 12 (code-unfit u a.state.now a.info q.1) (omega arith) in
    rw (p.1, p.2, q.0) (codes-so u a.state.now a.info (refused 12) a.state.now e.0 e.1)

pub returns-in_err-fault : goal.returns-in_err-fault
returns-in_err-fault c =
    let a = c.args in
    let u = table_of c.in_ok-fit.fit in
    let r = c.from_residual-in_err-fault in
    let p = err_from_is_err_and r.result r.ensures.1 in
    let q = settled-refused (coder_fault u a.state.now a.info) c.in_err-fault.field-0.0
    (sym c.fault.ensures ∙ c.in_err-fault.was) in
    let e = code-refuses u a.state.now a.info (coder_fault u a.state.now a.info) refl (omega (arith, q.0)) in
    subst (λ (t : Table). Codes t a.state.now a.info r.result a.state.now) c.in_ok-fit.ensures
    (rw (p.1, p.2, q.1) (codes-so u a.state.now a.info (refused (coder_fault u a.state.now a.info)) a.state.now e.0 e.1))

-- no refusal applies
none : (c : goal.In_ok-fault) → coder_fault (table_of c.in_ok-fit.fit) c.args.state.now c.args.info ≡ 0
none c = settled-taken _ tt (sym c.fault.ensures ∙ c.in_ok-fault.was)

pub taken-requires : goal.taken-requires
taken-requires c =
    let a = c.args in
    let t = table_of c.in_ok-fit.fit in
    let k = coder-taken t a.state.now a.info (none (goal.at.taken-requires c).In_ok-fault) in
    let h : t.symbols - 1 ≤ 15 = omega arith in
    (k.size, k.turn, subst (λ (w : ℕ). a.info < w) (sym c.weight.ensures) k.info, rw c.weight.ensures (pow_mono h))

-- the rows of the information's ones
combined : (c : goal.After-slice_known-2-1)
    → c.combination-image.result ≡ combination (info_rows (table_of c.in_ok-fit.fit)) c.args.info
combined c = c.combination-image.ensures

block-is : (c : goal.After-slice_known-2-1)
    → c.taken.result ≡ coded_block (table_of c.in_ok-fit.fit) c.args.state.now c.args.info
block-is c =
    let a = c.args in
    c.taken.ensures.block
    ∙ block_in_numbers (table_of c.in_ok-fit.fit) a.state.now a.info c.combination-image.result (combined c)
    c.weight.result c.weight.ensures

pub overflow_cast-result : goal.overflow_cast-result
overflow_cast-result c =
    let a = c.args in
    record {
      fits = rw (block-is c) (coded-fits (table_of c.in_ok-fit.fit) a.state.now a.info
          (none (goal.at.overflow_cast-result c).In_ok-fault));
    }

pub returns : goal.returns
returns c =
    let a = c.args in
    let s = a.state.now in
    let u = table_of c.in_ok-fit.fit in
    let k = c.taken in
    let e = codes u s a.info (none (goal.at.returns c).In_ok-fault) in
    subst (λ (t : Table). Codes t s a.info (Ok k.result) k.new.state) c.in_ok-fit.ensures
    (codes-so u s a.info (Ok k.result) k.new.state (ap Ok (block-is c) ∙ e.0)
    (k.ensures.memory ∙ memory_in_numbers u s a.info c.combination-image.result (combined c) ∙ e.1))
