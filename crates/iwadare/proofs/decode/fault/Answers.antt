-- `iwadare::decode::fault`: the tests of 13 to 15 in their order. Assumes nothing.
use mathlib.Core.Path.{◌≡◌, refl, sym, ap, ◌∙◌}
use mathlib.Core.Bool.{Bool, true, false, cond}
use borrow.Author.Tests.{le-leb, lt-leb}
use lib.Dec.{leb}
use Rattle.iwadare.specs.Memory.{decoder_words, received_bound}
use Rattle.link.specs.Refusals.{answered, settled}
use Rattle.iwadare.specs.Refusals.{decoder_malformed, decoder_fault}
use Rattle.iwadare.proofs.Refusals.{step_settled}
use Rattle.iwadare.proofs.decode.fault.Goals as goal
use Rattle.iwadare.proofs.decode.fault.Goals.{After-malformed}

-- the length is that of the type
last : (c : goal.After-malformed) (p q : Bool)
    → let a = c.args in
    c.malformed.result ≡ p → leb received_bound a.received ≡ q
    → cond p 14 (cond q 15 0) ≡ decoder_fault a.memory.now a.received
unfolding decoder_fault
last c p q e g =
    let a = c.args in
    sym (step_settled decoder_words (decoder_malformed a.memory.now) received_bound a.memory.now a.received
    c.told-memory p q (sym c.malformed.ensures ∙ e) g)

pub returns-then-malformed : goal.returns-then-malformed
unfolding answered
returns-then-malformed c = ap settled (last (goal.at.returns-then-malformed c).After-malformed true _ c.if-malformed.true refl)

pub returns-then-received-ge-RECEIVED_BOUND : goal.returns-then-received-ge-RECEIVED_BOUND
unfolding answered
returns-then-received-ge-RECEIVED_BOUND c =
    ap settled (last (goal.at.returns-then-received-ge-RECEIVED_BOUND c).After-malformed false true c.if-malformed.false
    (le-leb _ _ c.if-received-ge-RECEIVED_BOUND.true))

pub returns : goal.returns
unfolding answered
returns c = ap settled (last (goal.at.returns c).After-malformed false false c.if-malformed.false (lt-leb _ _ c.if-received-ge-RECEIVED_BOUND.false))
