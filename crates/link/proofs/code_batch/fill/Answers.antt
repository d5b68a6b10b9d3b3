use mathlib.Core.Path.{◌≡◌, refl, sym, ap, subst, ◌∙◌}
use mathlib.Core.Bool.{Bool, true, false, cond}
use mathlib.Core.List.{List, [], ◌∷◌}
use Prim.Native.Nat.{ℕ, ◌+◌, ◌-◌, ◌^◌, ◌≤◌, ◌<◌}
use native.Mathlib.Omega.{arith}
use borrow.Author.Tests.{lt-ltb, le-ltb}
use lib.Dec.{leb, ltb}
use lib.ListN.{length, get_or, set}
use lib.Pow.{pow_mono}
use Rattle.span.specs.Combination.{combination}
use lib.Seq.{length-take-le}
use Rattle.span.proofs.Masks.{above-mask}
use Rattle.tables.specs.declared.table.Table.{Table}
use Rattle.link.specs.Fit.{table_of}
use Rattle.tables.specs.Table.{info_rows, fit}
use Rattle.tables.proofs.Fit.{fit-facts}
use Rattle.link.specs.Memory.{coder_words}
use Rattle.link.specs.Refusals.{coder_malformed, coder_fault}
use Rattle.link.specs.Coder.{coded_block, coder_next, code_answer, code_memory}
use Rattle.link.proofs.Coder.{coder-taken, coder-length, codes, coded-fits, block_in_numbers}
use Rattle.link.proofs.Coder.{memory_in_numbers}
use Rattle.link.specs.Batch.{code_entries, code_batch, Fills, Reached}
use Rattle.link.proofs.Refusals.{step_settled}
use Rattle.link.proofs.CodeWords.{image-by}
use Rattle.link.proofs.Entries.{coded_none, coded_one}
use Rattle.link.proofs.Reached.{reached_start, reached_next, reached_refused, reached_all}
use Rattle.link.proofs.code_batch.fill.Invariants.{made}
use Rattle.link.proofs.code_batch.fill.Goals as goal
use Rattle.link.proofs.code_batch.fill.Goals.{At-loop-i, Else-most-info, In-loop-i, Start}

pub loop-i-init : goal.loop-i-init
loop-i-init c =
    let a = c.args in
    let u = table_of a.t.now in (
      reached_start (λ s b. code_entries (code_answer u s b)) (code_memory u) a.state.now a.infos.now
          a.out.now,
      refl,
    )

pub overflow_cast-info : goal.overflow_cast-info
overflow_cast-info c =
    record { fits = omega (arith, c.shared_slice_known-in-loop-i-1.given c.loop-i.i) }

pub malformed-requires : goal.malformed-requires
malformed-requires c =
    let u = table_of c.args.t.now in
    c.loop-i.invariant.1 ∙ c.requires

-- the fault of a block, by its two tests
settled : (u : Table) (s : List ℕ) (b : ℕ) → fit u ≡ true → length s ≡ coder_words u → (p q : Bool)
    → coder_malformed u s ≡ p → leb (2 ^ (u.symbols - 1)) b ≡ q → coder_fault u s b ≡ cond p 14 (cond q 15 0)
unfolding coder_fault
settled u s b = step_settled u (coder_words u) (coder_malformed u s) (2 ^ (u.symbols - 1)) s b

refused : (c : goal.At-loop-i) →
    let u = table_of c.args.t.now in
    let block = get_or c.args.infos.now c.loop-i.i 0 in
    c.loop-i.i < length c.args.infos.now → (k : ℕ)
    → coder_fault u c.loop-i.state block ≡ k → 0 < k
    → let a = c.args in
    Fills (code_batch u (length a.out.now) a.state.now a.infos.now) a.out.now
    c.loop-i.i c.loop-i.state c.loop-i.out
unfolding code_batch
refused c left k e some =
    let u = table_of c.args.t.now in
    let block = get_or c.args.infos.now c.loop-i.i 0 in
    let a = c.args in
    reached_refused (λ s b. code_entries (code_answer u s b)) (code_memory u) a.state.now a.infos.now a.out.now
    c.loop-i.i c.loop-i.state c.loop-i.out c.loop-i.invariant.0 left
    (coded_none u c.loop-i.state block k e some)

-- the turn's block is there, and so is its room
inside : (c : goal.In-loop-i)
    → (c.loop-i.i < length c.args.infos.now) × (c.loop-i.i < length c.args.out.now)
inside c = let e = c.min-end.ensures in (omega arith, omega arith)

tested : (c : goal.At-loop-i) →
    let block = get_or c.args.infos.now c.loop-i.i 0 in
    ltb c.mask-most.result block ≡ leb (2 ^ (c.args.t.now.symbols - 1)) block
tested c =
    let u = table_of c.args.t.now in
    let block = get_or c.args.infos.now c.loop-i.i 0 in
    let n = (fit-facts u c.args.t.now.is_fit).n_to in
    above-mask (c.args.t.now.symbols - 1) c.mask-most.result block (omega arith)
    c.mask-most.ensures

pub returns-then-malformed : goal.returns-then-malformed
returns-then-malformed c =
    let at = goal.at.returns-then-malformed c in
    let u = table_of c.args.t.now in
    let block = get_or c.args.infos.now c.loop-i.i 0 in
    refused at.At-loop-i (inside at.In-loop-i).0 14 (settled u c.loop-i.state block c.args.t.now.is_fit
    (c.loop-i.invariant.1 ∙ c.requires) true _
    (sym c.malformed.ensures ∙ c.if-malformed.true) refl)
    (omega arith)

pub returns-then-most-info : goal.returns-then-most-info
returns-then-most-info c =
    let at = goal.at.returns-then-most-info c in
    let u = table_of c.args.t.now in
    let block = get_or c.args.infos.now c.loop-i.i 0 in
    refused at.At-loop-i (inside at.In-loop-i).0 15
    (settled u c.loop-i.state block c.args.t.now.is_fit
    (c.loop-i.invariant.1 ∙ c.requires) false true (sym c.malformed.ensures ∙ c.if-malformed.false)
    (sym (tested at.At-loop-i) ∙ lt-ltb _ _ c.if-most-info.true)) (omega arith)

-- no refusal applies
none : (c : goal.Else-most-info) →
    let u = table_of c.args.t.now in
    let block = get_or c.args.infos.now c.loop-i.i 0 in
    ltb c.mask-most.result block
    ≡ leb (2 ^ (c.args.t.now.symbols - 1)) block
    → coder_fault u c.loop-i.state block ≡ 0
none c by-mask =
    let u = table_of c.args.t.now in
    let block = get_or c.args.infos.now c.loop-i.i 0 in
    settled u c.loop-i.state block c.args.t.now.is_fit
    (c.loop-i.invariant.1 ∙ c.requires) false false
    (sym c.malformed.ensures ∙ c.if-malformed.false) (sym by-mask ∙ le-ltb _ _ c.if-most-info.false)

pub taken-requires : goal.taken-requires
taken-requires c =
    let at = goal.at.taken-requires c in
    let u = table_of c.args.t.now in
    let block = get_or c.args.infos.now c.loop-i.i 0 in
    let k = coder-taken u c.loop-i.state block
    (none at.Else-most-info (tested at.At-loop-i)) in
    let n = k.sizes.n_to in
    let e = c.weight-weight.ensures in
    let a = c.args in
    let h : a.t.now.symbols - 1 ≤ 15 = omega arith in (
      k.size,
      k.turn,
      subst
          (λ (w : ℕ). block < w) (sym e)
          k.info,
      rw e (pow_mono h),
    )

-- the rows of the information's ones, looked up
image-is : (c : goal.After-slice_known-in-loop-i-1) →
    let u = table_of c.args.t.now in
    let block = get_or c.args.infos.now c.loop-i.i 0 in
    c.look_up-image.result ≡ combination (info_rows u)
    block
image-is c =
    let u = table_of c.args.t.now in
    let block = get_or c.args.infos.now c.loop-i.i 0 in
    let a = c.args in
    let w = a.t.now.symbols - 1 in
    let n = (fit-facts u c.args.t.now.is_fit).n_to in
    let long = length-take-le w a.t.now.rows.now (omega arith) in
    let tables = c.lookup_of-tables in
    c.look_up-image.ensures
    ∙ image-by (info_rows u) a.t.now.rows.now w refl (omega arith) tables.result tables.ensures
    block

block-is : (c : goal.After-slice_known-in-loop-i-1) →
    let u = table_of c.args.t.now in
    let block = get_or c.args.infos.now c.loop-i.i 0 in
    c.taken.result ≡ coded_block u c.loop-i.state block
block-is c =
    let u = table_of c.args.t.now in
    let block = get_or c.args.infos.now c.loop-i.i 0 in
    c.taken.ensures.block
    ∙ block_in_numbers u c.loop-i.state block c.look_up-image.result
    (image-is c)
    c.weight-weight.result
    (let n = (fit-facts u c.args.t.now.is_fit).n_to in c.weight-weight.ensures)

memory_is : (c : goal.After-slice_known-in-loop-i-1) →
    let u = table_of c.args.t.now in
    let block = get_or c.args.infos.now c.loop-i.i 0 in
    c.taken.new.state ≡ coder_next u c.loop-i.state block
memory_is c =
    let u = table_of c.args.t.now in
    let block = get_or c.args.infos.now c.loop-i.i 0 in
    c.taken.ensures.memory
    ∙ memory_in_numbers u c.loop-i.state block
    c.look_up-image.result (image-is c)

pub overflow_cast-out : goal.overflow_cast-out
overflow_cast-out c =
    let at = goal.at.overflow_cast-out c in
    let u = table_of c.args.t.now in
    let block = get_or c.args.infos.now c.loop-i.i 0 in
    let f = coded-fits u c.loop-i.state block (none at.Else-most-info (tested at.At-loop-i)) in
    let e = block-is c in
    record { fits = omega arith }

pub loop-i-preserved : goal.loop-i-preserved
loop-i-preserved c =
    let at = goal.at.loop-i-preserved c in
    let u = table_of c.args.t.now in
    let block = get_or c.args.infos.now c.loop-i.i 0 in
    let a = c.args in
    let s = c.loop-i.state in
    let e = memory_is c in (
      subst (λ (m : List ℕ).
          Reached (made u) a.state.now a.infos.now a.out.now (c.loop-i.i + 1) m
          (set c.loop-i.out c.loop-i.i c.taken.result))
          (sym (e ∙ (codes u s block (none at.Else-most-info (tested at.At-loop-i))).1))
          (reached_next (λ s b. code_entries (code_answer u s b)) (code_memory u) a.state.now a.infos.now
          a.out.now c.loop-i.i s c.loop-i.out c.loop-i.invariant.0
          (inside at.In-loop-i).0
          (inside at.In-loop-i).1
          c.taken.result
          (coded_one u s block (none at.Else-most-info (tested at.At-loop-i))
          ∙ ap (λ (x : ℕ). x ∷ []) (sym (block-is c)))),
      ap length e ∙ coder-length u s block ∙ c.loop-i.invariant.1,
    )

pub returns : goal.returns
unfolding code_batch
returns c =
    let u = table_of c.args.t.now in
    let a = c.args in
    let all : c.loop-i.i ≡ c.min-end.result = omega arith in
    subst (λ (k : ℕ). Fills (code_batch u (length a.out.now) a.state.now a.infos.now) a.out.now k c.loop-i.state
    c.loop-i.out) all
    (reached_all (λ s b. code_entries (code_answer u s b)) (code_memory u) a.state.now a.infos.now a.out.now
    c.loop-i.i c.loop-i.state c.loop-i.out c.loop-i.invariant.0
    (let e = c.min-end.ensures in omega arith))
