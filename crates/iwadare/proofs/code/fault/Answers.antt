-- `iwadare::code::fault`: the tests of 13 to 15 in their order. Assumes nothing.
use mathlib.Core.Path.{◌≡◌, refl, sym, ap}
use mathlib.Core.Bool.{Bool, true, false, cond}
use borrow.Author.Tests.{le-leb, lt-leb}
use lib.Dec.{leb}
use Rattle.iwadare.specs.Memory.{coder_words, delayed_bound}
use Rattle.link.specs.Refusals.{answered, settled}
use Rattle.iwadare.specs.Refusals.{coder_malformed, coder_fault}
use Rattle.iwadare.proofs.Refusals.{step_settled}
use Rattle.iwadare.proofs.code.fault.Goals as goal
use Rattle.iwadare.proofs.code.fault.Goals.{Start}

-- the length is that of the type
last : (c : goal.Start) (p q : Bool)
    → let a = c.args in
    coder_malformed a.memory.now ≡ p → leb delayed_bound a.info ≡ q
    → cond p 14 (cond q 15 0) ≡ coder_fault a.memory.now a.info
unfolding coder_fault
last c p q e g =
    let s = c.args.memory.now in
    sym (step_settled coder_words (coder_malformed s) delayed_bound s c.args.info c.told-memory p q e g)

pub returns-then-memory-ge-PENDING_BOUND : goal.returns-then-memory-ge-PENDING_BOUND
unfolding answered
returns-then-memory-ge-PENDING_BOUND c =
    ap settled (last (goal.at.returns-then-memory-ge-PENDING_BOUND c).Start true _ (le-leb _ _ c.if-memory-ge-PENDING_BOUND.true) refl)

pub returns-then-info-ge-DELAYED_BOUND : goal.returns-then-info-ge-DELAYED_BOUND
unfolding answered
returns-then-info-ge-DELAYED_BOUND c =
    ap settled (last (goal.at.returns-then-info-ge-DELAYED_BOUND c).Start false true (lt-leb _ _ c.if-memory-ge-PENDING_BOUND.false)
    (le-leb _ _ c.if-info-ge-DELAYED_BOUND.true))

pub returns : goal.returns
unfolding answered
returns c =
    ap settled (last (goal.at.returns c).Start false false (lt-leb _ _ c.if-memory-ge-PENDING_BOUND.false)
    (lt-leb _ _ c.if-info-ge-DELAYED_BOUND.false))
