-- `link::code::malformed`: the turn, and then the turn's word. Assumes nothing.
use mathlib.Core.Path.{sym, ap, ◌∙◌}
use mathlib.Core.Bool.{Bool, ◌||◌}
use Prim.Native.Nat.{◌+◌, ◌-◌, ◌^◌}
use native.Mathlib.Omega.{arith}
use borrow.Author.Tests.{le-leb, lt-leb}
use lib.Dec.{leb}
use lib.ListN.{get_or}
use Rattle.span.proofs.Masks.{above-mask}
use Rattle.link.proofs.code.malformed.Goals as goal

pub returns-then-t-turn : goal.returns-then-t-turn
returns-then-t-turn c = simp (le-leb _ _ c.if-t-turn.true)

pub returns : goal.returns
returns c =
    let a = c.args in
    let s = a.state.now in
    let w = get_or s (1 + get_or s 0 0) 0 in
    above-mask (a.t.now.span - 1) c.mask.result w (omega arith) c.mask.ensures
    ∙ ap (λ (b : Bool). b || leb (2 ^ (a.t.now.span - 1)) w) (sym (lt-leb a.t.now.depth (get_or s 0 0) (omega arith)))
