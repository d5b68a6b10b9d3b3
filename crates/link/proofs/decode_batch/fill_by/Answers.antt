use mathlib.Core.Path.{◌≡◌, sym, ap, subst, ◌∙◌}
use mathlib.Core.Logic.{inl}
use Prim.Native.Nat.{ℕ, ◌^◌, ◌≤◌, ◌<◌}
use native.Mathlib.Omega.{arith}
use lib.Dec.{leb, ltb}
use lib.ListN.{length, get_or}
use Rattle.span.specs.Word.{◌⊕◌}
use Rattle.span.specs.Combination.{combination}
use Rattle.span.proofs.Masks.{above-mask}
use Rattle.tables.specs.Table.{rows_of}
use Rattle.tables.proofs.Fit.{code-length}
use Rattle.link.specs.Fit.{table_of, Ready}
use Rattle.link.specs.Memory.{turn_of, pending_of}
use Rattle.link.specs.Batch.{decode_batch, Fills, Reached}
use Rattle.link.specs.Refusals.{decoder_fault}
use Rattle.link.proofs.Going.{going_all, turn_declined, turn_taken, turn_ready, turn_next}
use Rattle.link.proofs.CodeWords.{first_words, image-by}
use Rattle.link.proofs.StepWords.{step_words}
use Rattle.link.proofs.decode_batch.fill_by.Given.{Over}
use Rattle.link.proofs.decode_batch.fill_by.Goals as goal
use Rattle.link.proofs.decode_batch.fill_by.Goals.{After-terms-x, At-loop-i, Else-declines, In-loop-i}

-- the turn's block is there, and so is its room
inside : (g : Over) (c : goal.In-loop-i g)
    → (c.loop-i.i < length c.args.blocks.now) × (c.loop-i.i < length c.args.out.now)
inside g c = let e = c.min-end.ensures in (omega arith, omega arith)

tested : (g : Over) (c : goal.At-loop-i g)
    → let block = get_or c.args.blocks.now c.loop-i.i 0 in
    ltb c.mask-most.result block ≡ leb (2 ^ c.args.t.now.symbols) block
tested g c =
    above-mask c.args.t.now.symbols c.mask-most.result (get_or c.args.blocks.now c.loop-i.i 0) (omega arith)
    c.mask-most.ensures

-- where the loop has come to
come : (g : Over) (c : goal.At-loop-i g)
    → let a = c.args in
    Reached (decode_batch (table_of a.t.now)) a.state.now a.blocks.now a.out.now c.loop-i.i c.loop-i.state
    c.loop-i.out
    × (length c.loop-i.state ≡ length a.state.now)
unfolding decode_batch
come g c = (c.loop-i.invariant.reached, c.loop-i.invariant.size)

pub returns-then-declines-clause-came : goal.returns-then-declines-clause-came
returns-then-declines-clause-came g c = come g (goal.at.returns-then-declines-clause-came g c).At-loop-i

pub returns-then-declines-clause-ended : goal.returns-then-declines-clause-ended
returns-then-declines-clause-ended g c =
    let at = goal.at.returns-then-declines-clause-ended g c in
    let a = c.args in
    inl (turn_declined (table_of a.t.now) a.state.now a.blocks.now a.out.now c.loop-i.i c.loop-i.state c.loop-i.out
    c.loop-i.invariant a.t.now.is_fit c.requires.size (inside g at.In-loop-i).0 c.mask-most.result
    (tested g at.At-loop-i) (sym c.declines.ensures ∙ c.if-declines.true))

-- no refusal applies
none : (g : Over) (c : goal.Else-declines g) → c.loop-i.i < length c.args.blocks.now
    → let block = get_or c.args.blocks.now c.loop-i.i 0 in
    ltb c.mask-most.result block ≡ leb (2 ^ c.args.t.now.symbols) block
    → (decoder_fault (table_of c.args.t.now) c.loop-i.state block ≡ 0) × Ready (table_of c.args.t.now) c.loop-i.state
none g c left by-mask =
    let a = c.args in
    let t = table_of a.t.now in
    let e = sym c.declines.ensures ∙ c.if-declines.false in (
      turn_taken t a.state.now a.blocks.now a.out.now c.loop-i.i c.loop-i.state c.loop-i.out c.loop-i.invariant
          a.t.now.is_fit c.requires.size left c.mask-most.result by-mask e,
      turn_ready t a.state.now a.blocks.now a.out.now c.loop-i.i c.loop-i.state c.loop-i.out c.loop-i.invariant
          a.t.now.is_fit c.requires.size left c.mask-most.result by-mask e,
    )

pub terms-x-requires : goal.terms-x-requires
terms-x-requires g c =
    let at = goal.at.terms-x-requires g c in
    ((none g at.Else-declines (inside g at.In-loop-i).0 (tested g at.At-loop-i)).1, c.top-top.ensures)

pub returns-in_default-clause-came : goal.returns-in_default-clause-came
returns-in_default-clause-came g c = come g (goal.at.returns-in_default-clause-came g c).At-loop-i

pub take_block-requires : goal.take_block-requires
take_block-requires g c =
    let at = goal.at.take_block-requires g c in
    (none g at.Else-declines (inside g at.In-loop-i).0 (tested g at.At-loop-i)).1

-- w, by the tables of the rows
joined : (g : Over) (c : goal.After-terms-x g) →
    let t = table_of c.args.t.now in
    let s = c.loop-i.state in
    c.terms-x.result.w
    ≡ pending_of t s (turn_of s) ⊕ combination (rows_of t) (get_or c.args.blocks.now c.loop-i.i 0)
joined g c =
    let t = table_of c.args.t.now in
    let s = c.loop-i.state in
    let n = t.symbols in
    let words = c.error_words-words in
    let tables = c.lookup_of-tables in
    let size : length (rows_of t) ≡ n = code-length n t.rows (omega arith) (omega arith) in
    c.terms-x.ensures.w
    ∙ ap (λ (x : ℕ). pending_of t s (turn_of s) ⊕ x) (c.look_up.ensures
    ∙ image-by (rows_of t) words.result n (first_words (rows_of t) words.result n 0 size words.ensures)
    (omega arith) tables.result tables.ensures (get_or c.args.blocks.now c.loop-i.i 0))

pub loop-i-preserved : goal.loop-i-preserved
loop-i-preserved g c =
    let at = goal.at.loop-i-preserved g c in
    let a = c.args in
    let t = table_of a.t.now in
    let i = inside g at.In-loop-i in
    let b = c.take_block in
    let x = c.terms-x in
    let step = step_words t c.loop-i.state (get_or a.blocks.now c.loop-i.i 0) x.result.w (omega arith)
    (joined g at.After-terms-x) x.result.register c.top-top.result x.ensures.register c.top-top.ensures
    c.in-Some.v (c.requires.judges x.result.register c.in-Some.v c.in-Some.ensures) b.result b.new.state
    b.ensures.entry b.ensures.memory in
    turn_next t a.state.now a.blocks.now a.out.now c.loop-i.i c.loop-i.state c.loop-i.out c.loop-i.invariant
    a.t.now.is_fit c.requires.size i.0 i.1 (none g at.Else-declines i.0 (tested g at.At-loop-i)).0 b.new.state step.0
    b.result step.1

-- the count is the loop's
all : (g : Over) (c : goal.At-loop-i g) → c.min-end.result ≤ c.loop-i.i → c.loop-i.i ≡ c.min-end.result
all g c h = omega arith

pub returns-clause-came : goal.returns-clause-came
returns-clause-came g c =
    let at = goal.at.returns-clause-came g c in
    let a = c.args in
    subst (λ (k : ℕ). Reached (decode_batch (table_of a.t.now)) a.state.now a.blocks.now a.out.now k c.loop-i.state
    c.loop-i.out × (length c.loop-i.state ≡ length a.state.now)) (all g at.At-loop-i c.loop-i-test.false)
    (come g at.At-loop-i)

pub returns-clause-ended : goal.returns-clause-ended
returns-clause-ended g c =
    let at = goal.at.returns-clause-ended g c in
    let a = c.args in
    let t = table_of a.t.now in
    inl (subst (λ (k : ℕ). Fills (decode_batch t (length a.out.now) a.state.now a.blocks.now) a.out.now k
    c.loop-i.state c.loop-i.out) (all g at.At-loop-i c.loop-i-test.false)
    (going_all t a.state.now a.blocks.now a.out.now c.loop-i.i c.loop-i.state c.loop-i.out
    c.loop-i.invariant (let e = c.min-end.ensures in omega arith)))
