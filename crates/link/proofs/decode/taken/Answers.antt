-- `link::decode::taken`: the four lines in the words of the turn's stream (`StepWords`). Assumes nothing.
use mathlib.Core.Path.{◌≡◌, sym, ap, ap₂, subst, ◌∙◌}
use Prim.Native.Nat.{ℕ, ◌-◌, ◌/◌, ◌^◌, ◌≤◌, ◌<◌}
use native.Mathlib.Omega.{arith}
use borrow.Author.Tests.{lt-ltb, le-ltb}
use lib.Bits.{bit_xor}
use lib.Dec.{ltb}
use lib.ListN.{length}
use Rattle.std.specs.Prelude.{Option, Some, None, Ok}
use Rattle.span.specs.Word.{◌⊕◌}
use Rattle.span.specs.Combination.{combination}
use Rattle.span.proofs.Word.{xor-code}
use Rattle.tables.specs.Table.{rows_of}
use Rattle.link.specs.Fit.{table_of}
use Rattle.tables.proofs.Fit.{code-length}
use Rattle.link.specs.declared.decode.Mark.{Mark}
use Rattle.link.specs.Memory.{turn_of, fill_of, delay_of, pending_of}
use Rattle.link.specs.Step.{information, error_of, mark_of}
use Rattle.link.specs.Decoder.{advanced, decoder_register, decoder_next, delivered, delivery}
use Rattle.link.proofs.Refusals.{picked, passed}
use Rattle.link.proofs.Decoder.{DecoderTaken, decoder-taken, decoder-ready}
use Rattle.link.proofs.Entry.{delivered-fits}
use Rattle.link.proofs.Error.{error_lt}
use Rattle.link.proofs.StepWords.{register_is, memory_is, info_is, mark_is}
use Rattle.link.proofs.decode.taken.Goals as goal
use Rattle.link.proofs.decode.taken.Goals.{After-keep-oldest, Start}

-- what the tests of the step said
tests : (c : goal.Start) → DecoderTaken (table_of c.args.t.now) c.args.state.now c.args.received
tests c =
    let u = table_of c.args.t.now in
    decoder-taken u c.args.state.now c.args.received c.requires

width : (c : goal.Start) → c.args.t.now.symbols - 1 ≤ length c.args.t.now.rows.now
width c = omega arith

pub bounds-state-1 : goal.bounds-state-1
bounds-state-1 c = let k = (tests (goal.at.bounds-state-1 c).Start).size in omega arith

pub image-requires : goal.image-requires
image-requires c = (tests (goal.at.image-requires c).Start).block

pub terms-x-requires : goal.terms-x-requires
terms-x-requires c =
    let a = c.args in
    ((decoder-ready (table_of a.t.now) a.state.now a.received c.requires).1, c.top.ensures)

pub judged-v-requires : goal.judged-v-requires
judged-v-requires c =
    let at = goal.at.judged-v-requires c in
    let u = table_of c.args.t.now in
    let a = c.args in
    let k = tests at.Start in
    let size : length (rows_of u) ≡ a.t.now.symbols =
    code-length a.t.now.symbols a.t.now.rows.now (let n = k.sizes.n_from in omega arith) (width at.Start) in
    subst (λ (f : Option ℕ). error_of f < 2 ^ 16) (sym c.explain.ensures)
    (error_lt (rows_of u) _ (let n = k.sizes.n_to in omega arith))

pub keep-oldest-requires : goal.keep-oldest-requires
keep-oldest-requires c =
    let a = c.args in
    (decoder-ready (table_of a.t.now) a.state.now a.received c.requires).1

joined : (c : goal.After-keep-oldest) →
    let u = table_of c.args.t.now in
    let a = c.args in
    c.terms-x.result.w
    ≡ pending_of u a.state.now (turn_of a.state.now) ⊕ combination (rows_of u)
    a.received
joined c =
    let u = table_of c.args.t.now in
    let a = c.args in
    c.terms-x.ensures.w
    ∙ ap (λ (x : ℕ). pending_of u a.state.now (turn_of a.state.now) ⊕ x)
    c.image.ensures

registered : (c : goal.After-keep-oldest)
    → let a = c.args in
    a.t.now.symbols - 1 ≤ length a.t.now.rows.now
    → c.terms-x.result.register ≡ decoder_register (table_of a.t.now) a.state.now a.received
registered c w =
    let u = table_of c.args.t.now in
    let a = c.args in
    register_is u a.state.now a.received _ w (joined c) c.terms-x.result.register
    c.top.result
    c.terms-x.ensures.register
    c.top.ensures

kept : (c : goal.After-keep-oldest)
    → let a = c.args in
    a.t.now.symbols - 1 ≤ length a.t.now.rows.now
    → c.keep-oldest.new.state ≡ decoder_next (table_of a.t.now) a.state.now a.received
kept c w =
    let u = table_of c.args.t.now in
    let a = c.args in
    let e = c.explain in
    c.keep-oldest.ensures.memory
    ∙ ap₂ (λ (k i : ℕ). advanced a.t.now.span a.t.now.depth a.state.now
    (c.terms-x.result.w / 2) k i)
    c.judged-v.ensures.kept c.information.ensures
    ∙ memory_is u a.state.now a.received _ w (joined c) c.terms-x.result.register (registered c w)
    e.result e.ensures

pub returns-then-fill-delay : goal.returns-then-fill-delay
unfolding delivery
returns-then-fill-delay c =
    let at = goal.at.returns-then-fill-delay c in
    let u = table_of c.args.t.now in
    let a = c.args in
    let s = a.state.now in record {
      answer = picked (ltb (fill_of s) (delay_of u)) (Ok None) (Ok (Some (delivered u s a.received)))
          (lt-ltb (fill_of s) (delay_of u) (let z : fill_of s < delay_of u = omega arith in z));
      memory = kept at.After-keep-oldest (width at.Start);
    }

corrected : (c : goal.After-information-2)
    → let a = c.args in
    bit_xor c.keep-oldest.result c.information-2.result
    ≡ (delivered (table_of c.args.t.now) a.state.now a.received).info
corrected c =
    let at = goal.at.overflow_cast-result c in
    let u = table_of c.args.t.now in
    let a = c.args in
    let s = a.state.now in
    let e = c.explain in
    xor-code c.keep-oldest.result c.information-2.result
    ∙ ap₂ ◌⊕◌ c.keep-oldest.ensures.oldest
    (c.information-2.ensures ∙ ap (information a.t.now.symbols)
    c.judged-v.ensures.error)
    ∙ info_is u s a.received _ (width at.Start) (joined at.After-keep-oldest) c.terms-x.result.register
    (registered at.After-keep-oldest (width at.Start))
    e.result e.ensures

pub overflow_cast-result : goal.overflow_cast-result
overflow_cast-result c =
    let u = table_of c.args.t.now in
    let a = c.args in
    let l = delivered-fits u a.state.now a.received c.requires in
    let e = corrected c in
    record { fits = omega arith }

pub returns : goal.returns
unfolding delivery
returns c =
    let at = goal.at.returns c in
    let u = table_of c.args.t.now in
    let a = c.args in
    let s = a.state.now in
    let e = c.explain in
    let mark = c.judged-v.ensures.mark
    ∙ ap (λ (k : ℕ). mark_of k e.result c.terms-x.result.register)
    c.weight.ensures
    ∙ mark_is u s a.received _ (width at.Start) (joined at.After-keep-oldest) c.terms-x.result.register
    (registered at.After-keep-oldest (width at.Start)) e.result
    e.ensures in record {
      answer = ap₂ (λ (i : ℕ) (m : Mark). Ok (Some (record { info = i; mark = m }))) (corrected c) mark
          ∙ passed (ltb (fill_of s) (delay_of u)) (Ok None) (Ok (Some (delivered u s a.received)))
          (le-ltb (fill_of s) (delay_of u) (let z : delay_of u ≤ fill_of s = omega arith in z));
      memory = kept at.After-keep-oldest (width at.Start);
    }
