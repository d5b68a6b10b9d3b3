-- `iwadare::decode::delayed_above`: the delayed blocks are the words from 3 on. Assumes nothing.
use mathlib.Core.Path.{ap, ◌∙◌}
use native.Mathlib.Omega.{arith}
use borrow.Rule.Slice.PartMut.{mid_of, mid_len}
use lib.Dec.{leb}
use lib.Seq.{get_or-take, get_or-drop}
use Rattle.span.specs.Dual.{together}
use Rattle.link.proofs.Malformed.{above-together}
use Rattle.iwadare.proofs.decode.delayed_above.Goals as goal

pub returns : goal.returns
returns c =
    let s = c.args.memory.now in
    let part = mid_of 3 18 s in
    ap (leb 4) (c.together.ensures ∙ ap (together part) (mid_len 3 21 s (omega arith)))
    ∙ above-together 2 part s 3 18 (λ j h. get_or-take 18 _ j 0 h ∙ get_or-drop 3 s j 0)
