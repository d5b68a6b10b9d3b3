-- `link::start::start_decoder`: 12, or what the length decides. Assumes nothing.
use mathlib.Core.Path.{◌≡◌, sym, ◌∙◌}
use mathlib.Core.Bool.{true}
use Prim.Native.Nat.{◌+◌}
use native.Mathlib.Nat.{mul-le-mul_right}
use native.Mathlib.Omega.{arith}
use Rattle.tables.specs.Table.{fit}
use Rattle.tables.proofs.Fit.{fit-facts}
use Rattle.link.specs.Memory.{decoder_words}
use Rattle.link.proofs.Starting.{unfit-so, starts_fit}
use Rattle.link.proofs.start.start_decoder.Goals as goal
use Rattle.link.proofs.start.start_decoder.Goals.{Then-fits}

fitted : (c : goal.Then-fits) → fit c.args.t ≡ true
fitted c = sym c.fits.ensures ∙ c.if-fits.true

pub overflow_add-t : goal.overflow_add-t
overflow_add-t c =
    let z = fit-facts c.args.t (fitted (goal.at.overflow_add-t c).Then-fits) in
    record { fits = omega arith }

pub overflow_mul-t : goal.overflow_mul-t
overflow_mul-t c =
    let t = c.args.t in
    let z = fit-facts t (fitted (goal.at.overflow_mul-t c).Then-fits) in
    let most = mul-le-mul_right (t.span + 1) z.m_to in
    record { fits = omega arith }

pub overflow_add-t-then-fits : goal.overflow_add-t-then-fits
overflow_add-t-then-fits c =
    let t = c.args.t in
    let z = fit-facts t (fitted (goal.at.overflow_add-t-then-fits c).Then-fits) in
    let most = mul-le-mul_right (t.span + 1) z.m_to in
    record { fits = omega arith }

pub returns-then-fits : goal.returns-then-fits
returns-then-fits c =
    let a = c.args in
    starts_fit a.t (decoder_words a.t) a.state.now c.start.result
    c.start.new.state (fitted (goal.at.returns-then-fits c).Then-fits) c.start.ensures

pub returns-else-fits : goal.returns-else-fits
returns-else-fits c =
    let a = c.args in
    unfit-so a.t (decoder_words a.t) a.state.now (sym c.fits.ensures ∙ c.if-fits.false)
