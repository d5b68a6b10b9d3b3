-- `load::fill::Channel::fill_round`: a burst, and then a gap, each cut where the blocks end. Assumes nothing.
use mathlib.Core.Path.{ap, ◌∙◌}
use Prim.Native.Nat.{ℕ, ◌+◌, ◌%◌, min}
use native.Mathlib.Omega.{arith}
use mathlib.Core.List.{◌++◌}
use borrow.Rule.Slice.PartMut.{mid_len}
use lib.ListN.{length, drop, replicate}
use lib.Seq.{length-take-le, length_front}
use Rattle.load.specs.declared.generator.Draw.{Draw}
use Rattle.load.specs.Draws.{next_state, after}
use Rattle.load.specs.Load.{errors as errors-of}
use Rattle.load.proofs.Rounds.{round_filled}
use Rattle.load.proofs.fill.Channel.fill_round.Goals as goal

pub returns : goal.returns
returns c =
    let a = c.args in
    let out = a.out.now in
    let d = c.draw-d in
    let d2 = c.draw-d-2 in
    let es = c.fill_errors-g.new.out in
    let zs = c.fill.new.self in
    let b = c.min-burst.result in
    let e = c.min-end.result in
    let g = c.fill_errors-g.result.state in
    let short = c.min-burst.ensures in
    let size = length-take-le b out (omega arith) in
    let whole = length_front out es b c.fill_errors-g.auto.out in
    let end =
    c.min-end.ensures
    ∙ ap (λ (r : Draw). min (b + a.self.guard + r.number % 16) (length (es ++ drop b out))) d2.ensures
    ∙ ap (min (b + a.self.guard + next_state g % 16)) whole in
    let r =
    round_filled a.self.symbols a.self.depth a.self.guard a.generator.state out es zs b e g
    (short ∙ ap (λ (r : Draw). min (1 + r.number % a.self.depth) (length out)) d.ensures)
    (c.fill_errors-g.ensures.blocks ∙ ap (λ (k : ℕ). errors-of a.self.symbols k d.result.next.state) size
    ∙ ap (λ (r : Draw). errors-of a.self.symbols b r.next.state) d.ensures)
    (c.fill_errors-g.ensures.generator ∙ ap (λ (k : ℕ). after k d.result.next.state) size
    ∙ ap (λ (r : Draw). after b r.next.state) d.ensures)
    end
    (c.fill.ensures.after (λ y e. e)
    ∙ ap (λ (k : ℕ). replicate k 0) (mid_len b e (es ++ drop b out) (omega arith))) in
    record {
      size = r.0;
      blocks = r.1;
      generator = λ h. ap (λ (r : Draw). r.next.state) d2.ensures ∙ r.2 h;
    }
