-- `link::code::fault`: the tests of 13 to 15 in their order. Assumes nothing.
use mathlib.Core.Path.{◌≡◌, sym, ap, ◌∙◌}
use mathlib.Core.Bool.{Bool, true, false, cond}
use Prim.Native.Nat.{◌-◌, ◌^◌}
use native.Mathlib.Omega.{arith}
use borrow.Author.Tests.{lt-ltb, le-ltb}
use lib.Dec.{ltb}
use lib.ListN.{length}
use Rattle.span.proofs.Masks.{above-mask}
use Rattle.link.specs.Fit.{table_of}
use Rattle.link.specs.Memory.{coder_words}
use Rattle.link.specs.Refusals.{coder_malformed, coder_fault, answered, settled}
use Rattle.link.proofs.Refusals.{number_13, number_14, number_15}
use Rattle.link.proofs.code.fault.Goals as goal
use Rattle.link.proofs.code.fault.Goals.{After-mask}

pub returns-then-state-coder_words : goal.returns-then-state-coder_words
unfolding coder_fault answered
returns-then-state-coder_words c =
    let t = table_of c.args.t.now in
    let s = c.args.state.now in
    ap settled (number_13 t (coder_words t) (coder_malformed t s) (2 ^ (t.symbols - 1)) s c.args.block c.args.t.now.is_fit
    (λ (z : ◌≡◌ (length s) (coder_words t)). c.if-state-coder_words.true (z ∙ sym c.coder_words.ensures)))

pub malformed-requires : goal.malformed-requires
malformed-requires c = c.if-state-coder_words.false ∙ c.coder_words.ensures

pub returns-then-malformed : goal.returns-then-malformed
unfolding coder_fault answered
returns-then-malformed c =
    let t = table_of c.args.t.now in
    let s = c.args.state.now in
    ap settled (number_14 t (coder_words t) (coder_malformed t s) (2 ^ (t.symbols - 1)) s c.args.block c.args.t.now.is_fit
    (c.if-state-coder_words.false ∙ c.coder_words.ensures) (sym c.malformed.ensures ∙ c.if-malformed.true))

-- past 13 and 14, 15 is left
last : (c : goal.After-mask) (q : Bool)
    → let a = c.args in
    ltb c.mask.result a.block ≡ q → cond q 15 0 ≡ coder_fault (table_of a.t.now) a.state.now a.block
unfolding coder_fault
last c q out =
    let t = table_of c.args.t.now in
    let s = c.args.state.now in
    number_15 t (coder_words t) (coder_malformed t s) (2 ^ (t.symbols - 1)) s c.args.block c.args.t.now.is_fit
    (c.if-state-coder_words.false ∙ c.coder_words.ensures) (sym c.malformed.ensures ∙ c.if-malformed.false) q
    (sym (above-mask (t.symbols - 1) c.mask.result c.args.block (omega arith) c.mask.ensures) ∙ out)

pub returns-then-mask-block : goal.returns-then-mask-block
unfolding answered
returns-then-mask-block c =
    ap settled (last (goal.at.returns-then-mask-block c).After-mask true (lt-ltb _ _ c.if-mask-block.true))

pub returns : goal.returns
unfolding answered
returns c = ap settled (last (goal.at.returns c).After-mask false (le-ltb _ _ c.if-mask-block.false))
