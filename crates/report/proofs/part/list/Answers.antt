use mathlib.Core.Path.{◌≡◌, sym, ap, subst, ◌∙◌}
use mathlib.Core.List.{List, []}
use Prim.Native.Nat.{ℕ, ◌+◌, ◌*◌, ◌/◌}
use native.Mathlib.Omega.{arith}
use lib.ListN.{length, get_or}
use Rattle.std.proofs.lemmas.Bool.Decides.{nat_tests}
use Rattle.std.specs.Prelude.{Option}
use Rattle.link.specs.Refusals.{Answer}
use Rattle.link.specs.declared.decode.Delivered.{Delivered}
use Rattle.link.specs.Decoder.{decode_answer, decode_memory}
use Rattle.report.specs.Text.{odd_line}
use Rattle.report.specs.Listing.{Printed}
use Rattle.report.proofs.Answer.{puts-pushes}
use Rattle.report.proofs.Loop.{block_at, chunk-block, going_start, going_room, going_next, going_stops, going_odd, going_even}
use Rattle.report.proofs.part.list.Goals as goal
use Rattle.report.proofs.part.list.Goals.{After-answer_line}

pub loop-block-init : goal.loop-block-init
loop-block-init c = going_start _ _ _ _ _ c.requires.1

pub answer_line-requires : goal.answer_line-requires
answer_line-requires c =
    let a = c.args in
    let g = c.loop-block.invariant in (
      going_room a.t a.state.now a.first a.bytes.now a.lines.now c.requires.1 c.requires.2 g,
      omega (arith, g.few, c.as_chunks.ensures.front_len),
    )

-- this turn's block
received : (c : goal.After-answer_line) → c.from_le_bytes.result ≡ block_at c.args.bytes.now c.loop-block.block-index
received c =
    c.from_le_bytes.ensures
    ∙ ap (λ (l : List (List ℕ)).
    get_or (get_or l c.loop-block.block-index []) 0 0 + get_or (get_or l c.loop-block.block-index []) 1 0 * 256)
    c.as_chunks.ensures.front
    ∙ chunk-block (length c.args.bytes.now / 2) c.loop-block.block-index c.args.bytes.now
    (omega (arith, c.as_chunks.ensures.front_len))

-- its answer printed, and the memory after its step
printed : (c : goal.After-answer_line)
    → let l = c.loop-block in
    Printed l.number (decode_answer c.args.t l.state (block_at c.args.bytes.now l.block-index)) l.lines
    c.answer_line.new.lines c.answer_line.result
printed c =
    let l = c.loop-block in
    subst (λ (x : Answer (Option Delivered)). Printed l.number x l.lines c.answer_line.new.lines c.answer_line.result)
    (c.decode-answer.ensures.answer ∙ ap (decode_answer c.args.t l.state) (received c))
    c.answer_line.ensures

remembered : (c : goal.After-answer_line)
    → c.decode-answer.new.state ≡ decode_memory c.args.t c.loop-block.state (block_at c.args.bytes.now c.loop-block.block-index)
remembered c = c.decode-answer.ensures.memory ∙ ap (decode_memory c.args.t c.loop-block.state) (received c)

pub loop-block-preserved : goal.loop-block-preserved
loop-block-preserved c =
    let a = c.args in
    let p = (goal.at.loop-block-preserved c).After-answer_line in
    let m = remembered p in
    rw m (going_next a.t a.state.now a.first a.bytes.now a.lines.now c.requires.1 c.requires.2 c.loop-block.invariant
    (omega (arith, c.as_chunks.ensures.front_len)) (printed p) c.in_ok-number.was
    (sym (ap length m) ∙ c.decode-answer.auto.state))

pub returns-in_err-number-clause-listed : goal.returns-in_err-number-clause-listed
returns-in_err-number-clause-listed c =
    let a = c.args in
    let p = (goal.at.returns-in_err-number-clause-listed c).After-answer_line in
    let m = remembered p in
    rw (m, c.from_residual.ensures) (going_stops a.t a.state.now a.first a.bytes.now a.lines.now c.requires.1
    c.requires.2 c.loop-block.invariant (omega (arith, c.as_chunks.ensures.front_len)) (printed p) c.in_err-number.was)

pub returns-then-not-is_empty-clause-listed : goal.returns-then-not-is_empty-clause-listed
returns-then-not-is_empty-clause-listed c =
    let a = c.args in
    let g = c.loop-block.invariant in
    let r = going_room a.t a.state.now a.first a.bytes.now a.lines.now c.requires.1 c.requires.2 g in
    going_odd a.t a.state.now a.first a.bytes.now a.lines.now c.requires.1 c.requires.2 g
    (let o : ¬ (length c.as_chunks.result.1.now ≡ 0) = grind (arith, nat_tests) in
    omega (arith, c.as_chunks.ensures.front_len, c.as_chunks.ensures.back_len)) (puts-pushes odd_line r c.odd_byte.ensures)

pub returns-clause-listed : goal.returns-clause-listed
returns-clause-listed c =
    let a = c.args in
    going_even a.t a.state.now a.first a.bytes.now a.lines.now c.requires.1 c.requires.2 c.loop-block.invariant
    (let e : length c.as_chunks.result.1.now ≡ 0 = grind (arith, nat_tests) in
    omega (arith, c.as_chunks.ensures.front_len, c.as_chunks.ensures.back_len))
