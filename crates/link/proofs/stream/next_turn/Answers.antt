-- `link::stream::next_turn`: a turn that is one is followed by the next, or by 0. Assumes nothing.
use mathlib.Core.Path.{◌≡◌, refl, sym, ap, ◌∙◌}
use mathlib.Core.Bool.{Bool, cond}
use Prim.Native.Nat.{suc}
use native.Mathlib.Omega.{arith}
use native.Mathlib.Numerals.{add-one}
use borrow.Author.Tests.{eq-eqb, ne_eqb}
use Rattle.link.proofs.stream.next_turn.Goals as goal

pub returns-then-next-depth : goal.returns-then-next-depth
returns-then-next-depth c =
    let a = c.args in record {
      inside = λ h. add-one a.turn ∙ ap (λ (b : Bool). cond b 0 (suc a.turn))
          (sym (ne_eqb (suc a.turn) a.depth (λ (e : suc a.turn ≡ a.depth). omega arith)));
      outside = λ h. absurd (omega arith);
    }

pub returns-else-next-depth : goal.returns-else-next-depth
returns-else-next-depth c =
    let a = c.args in record {
      inside = λ h. ap (λ (b : Bool). cond b 0 (suc a.turn)) (sym (eq-eqb (suc a.turn) a.depth (omega arith)));
      outside = λ h. refl;
    }
