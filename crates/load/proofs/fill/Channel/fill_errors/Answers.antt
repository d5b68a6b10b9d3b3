use mathlib.Core.Path.{◌≡◌, refl, sym, ap, ◌∙◌}
use Prim.Native.Nat.{ℕ, ◌%◌, ◌^◌}
use native.Mathlib.Numerals.{add-one}
use native.Mathlib.Omega.{arith}
use lib.ListN.{length}
use Rattle.span.proofs.Masks.{masked_low}
use Rattle.load.specs.declared.generator.Draw.{Draw}
use Rattle.load.specs.Draws.{next_state, after}
use Rattle.load.specs.Load.{errors}
use Rattle.span.proofs.Stored.{storing-first, storing-next, storing-all}
use Rattle.load.proofs.Draws.{after_next}
use Rattle.load.proofs.Load.{length-errors, errors-at}
use Rattle.load.proofs.fill.Channel.fill_errors.Goals as goal
use Rattle.load.proofs.fill.Channel.fill_errors.Goals.{After-draw-d}

pub loop-block-init : goal.loop-block-init
unfolding after
loop-block-init c = (storing-first _ _, refl)

pub loop-block-preserved : goal.loop-block-preserved
loop-block-preserved c =
    let l = c.loop-block in
    let a = c.args in
    let x = a.generator.state in
    let out = a.out.now in
    let d = c.draw-d in
    let n = a.self.symbols in
    let next = ap next_state l.invariant.1 in (
      storing-next (errors n (length out) x) out l.out l.block-index _ (length-errors n (length out) x) (omega arith)
          (masked_low n _ d.result.number (omega arith) c.mask-most.ensures
          ∙ ap (λ (r : Draw). r.number % 2 ^ n) d.ensures ∙ ap (λ (y : ℕ). y % 2 ^ n) next
          ∙ sym (errors-at n (length out) x l.block-index (omega arith)))
          l.invariant.0,
      ap (λ (r : Draw). r.next.state) d.ensures ∙ next ∙ sym (after_next l.block-index x)
          ∙ ap (λ (k : ℕ). after k x) (sym (add-one l.block-index)),
    )

pub returns : goal.returns
returns c =
    let l = c.loop-block in
    let a = c.args in
    let out = a.out.now in
    let inside = l.invariant.0.inside in
    let all : l.block-index ≡ length out = omega arith in
    record {
      blocks =
          storing-all _ out l.out l.block-index (length-errors a.self.symbols (length out) a.generator.state) (omega arith)
          l.invariant.0;
      generator = l.invariant.1 ∙ ap (λ (k : ℕ). after k a.generator.state) all;
    }
