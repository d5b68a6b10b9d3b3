-- `load::fill::fill_load`: 12, then 17, then the rounds. Assumes nothing.
use mathlib.Core.Path.{◌≡◌, refl, sym, ◌∙◌}
use mathlib.Core.Bool.{true, false}
use Prim.Native.Nat.{◌≤◌}
use native.Mathlib.Omega.{arith}
use borrow.Author.Tests.{eq-eqb, ne_eqb}
use Rattle.tables.specs.Table.{fit}
use Rattle.tables.proofs.Fit.{fit-facts}
use Rattle.link.specs.Memory.{delay_of}
use Rattle.link.proofs.Room.{fit-room}
use Rattle.load.proofs.Filling.{settled}
use Rattle.load.proofs.fill.fill_load.Goals as goal
use Rattle.load.proofs.fill.fill_load.Goals.{Else-not-is_fit}

pub returns-then-not-is_fit : goal.returns-then-not-is_fit
returns-then-not-is_fit c = settled _ _ _ false _ (sym c.is_fit.ensures ∙ c.if-not-is_fit.true) refl

fitted : (c : goal.Else-not-is_fit) → fit c.args.t ≡ true
fitted c = sym c.is_fit.ensures ∙ c.if-not-is_fit.false

guarded : (c : goal.Else-not-is_fit) → delay_of c.args.t ≤ 4096
guarded c =
    let f = fit-facts c.args.t (fitted c) in
    (fit-room c.args.t f.N_to f.m_to).1

pub returns-then-seed-eq0 : goal.returns-then-seed-eq0
returns-then-seed-eq0 c =
    settled _ _ _ true true (fitted (goal.at.returns-then-seed-eq0 c).Else-not-is_fit)
    (eq-eqb _ 0 c.if-seed-eq0.true)

pub overflow_sub-channel : goal.overflow_sub-channel
overflow_sub-channel c = let f = (fit-facts _ (fitted (goal.at.overflow_sub-channel c).Else-not-is_fit)).N_from in omega arith

pub overflow_mul-channel : goal.overflow_mul-channel
overflow_mul-channel c = let g = guarded (goal.at.overflow_mul-channel c).Else-not-is_fit in record { fits = omega arith }

pub invariant_of-channel : goal.invariant_of-channel
invariant_of-channel c =
    let e = (goal.at.invariant_of-channel c).Else-not-is_fit in
    let f = fit-facts _ (fitted e) in
    record { symbols_to = f.n_to; depth_from = f.m_from; depth_to = f.m_to; guard_to = guarded e }

pub returns : goal.returns
returns c =
    rw c.fill_rounds.ensures
    (settled _ _ _ true false (fitted (goal.at.returns c).Else-not-is_fit) (ne_eqb _ 0 c.if-seed-eq0.false))
