-- `link::decode::stream_malformed`: the two words together, and then the delayed blocks. Assumes nothing.
use mathlib.Core.Path.{◌≡◌, sym, ap, ◌∙◌}
use mathlib.Core.Bool.{Bool, true, false, ◌||◌}
use Prim.Native.Nat.{◌+◌, ◌-◌, ◌^◌}
use native.Mathlib.Omega.{arith}
use borrow.Author.Tests.{lt-ltb, le-ltb}
use lib.Bits.{bit_or}
use lib.Dec.{leb}
use lib.ListN.{get_or}
use Rattle.link.specs.Refusals.{some_above}
use Rattle.span.proofs.Masks.{above-mask, or_above}
use Rattle.link.proofs.decode.stream_malformed.Goals as goal

pub returns-then-mask-state : goal.returns-then-mask-state
returns-then-mask-state c =
    let a = c.args in
    let s = a.state.now in
    let k = a.t.now.span - 1 in
    let p = get_or s a.at 0 in
    let q = get_or s (a.at + 1) 0 in
    let e : leb (2 ^ k) p || leb (2 ^ k) q ≡ true =
    sym (or_above k p q) ∙ sym (above-mask k c.mask.result (bit_or p q) (omega arith)
    c.mask.ensures) ∙ lt-ltb _ _ c.if-mask-state.true in
    ap (λ (b : Bool). b || some_above (2 ^ (a.t.now.symbols - 1)) s (a.at + 2) k) (sym e)

pub returns : goal.returns
returns c =
    let a = c.args in
    let s = a.state.now in
    let k = a.t.now.span - 1 in
    let p = get_or s a.at 0 in
    let q = get_or s (a.at + 1) 0 in
    let e : leb (2 ^ k) p || leb (2 ^ k) q ≡ false =
    sym (or_above k p q) ∙ sym (above-mask k c.mask.result (bit_or p q) (omega arith)
    c.mask.ensures) ∙ le-ltb _ _ c.if-mask-state.false in
    c.some_above.ensures ∙ ap (λ (b : Bool). b || some_above (2 ^ (a.t.now.symbols - 1)) s (a.at + 2) k) (sym e)
