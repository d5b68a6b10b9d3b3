-- `link::decode_batch::take_block`: the memory that is kept, and the entry once the fill is complete. Assumes nothing.
use mathlib.Core.Path.{◌≡◌, sym, ap, ap₂, subst, ◌∙◌}
use Prim.Native.Nat.{ℕ, ◌-◌, ◌/◌, ◌^◌, ◌≤◌, ◌<◌}
use native.Mathlib.Nat.{mod-lt}
use native.Mathlib.Omega.{arith}
use borrow.Author.Tests.{lt-ltb, le-ltb}
use lib.Bits.{bit_xor}
use lib.Dec.{ltb}
use lib.Pow.{pow_pos, pow_mono}
use Rattle.span.specs.Word.{◌⊕◌}
use Rattle.span.proofs.Word.{xor-code, xor_lt}
use Rattle.link.specs.Fit.{table_of}
use Rattle.link.specs.Memory.{turn_of, fill_of, delay_of, delayed_of}
use Rattle.link.specs.Step.{information}
use Rattle.link.specs.Decoder.{advanced, mark_number}
use Rattle.link.specs.Batch.{decode_entry}
use Rattle.link.proofs.Malformed.{fine-decoder}
use Rattle.link.proofs.Refusals.{picked, passed}
use Rattle.link.proofs.decode_batch.take_block.Goals as goal
use Rattle.link.proofs.decode_batch.take_block.Goals.{After-information-2, After-keep-oldest}

kept : (c : goal.After-keep-oldest)
    → let a = c.args in
    c.keep-oldest.new.state
    ≡ advanced a.t.now.span a.t.now.depth a.state.now (a.w / 2) a.v.kept (information a.t.now.symbols a.received)
kept c =
    let a = c.args in
    c.keep-oldest.ensures.memory
    ∙ ap (advanced a.t.now.span a.t.now.depth a.state.now (a.w / 2) a.v.kept) c.information.ensures

pub returns-then-fill-delay : goal.returns-then-fill-delay
returns-then-fill-delay c =
    let s = c.args.state.now in
    let delay = delay_of (table_of c.args.t.now) in
    let waits : fill_of s < delay = omega arith in record {
      entry = picked (ltb (fill_of s) delay) 0 _ (lt-ltb (fill_of s) delay waits);
      memory = kept (goal.at.returns-then-fill-delay c).After-keep-oldest;
    }

-- the information that is delivered
corrected : (c : goal.After-information-2)
    → let a = c.args in
    bit_xor c.keep-oldest.result c.information-2.result
    ≡ delayed_of (table_of a.t.now) a.state.now (turn_of a.state.now) 0 ⊕ information a.t.now.symbols a.v.error
corrected c =
    xor-code c.keep-oldest.result c.information-2.result ∙ ap₂ ◌⊕◌ c.keep-oldest.ensures.oldest
    c.information-2.ensures

pub entry-requires : goal.entry-requires
entry-requires c =
    let a = c.args in
    let n = a.t.now.symbols in
    let low : information n a.v.error < 2 ^ (n - 1) = mod-lt a.v.error (pow_pos (n - 1)) in
    let fine = fine-decoder (table_of a.t.now) a.state.now c.requires.formed in
    let l = xor_lt (n - 1) (delayed_of (table_of a.t.now) a.state.now (turn_of a.state.now) 0)
    (information n a.v.error) (fine.delayed 0 (omega arith)) low in
    let h : n - 1 ≤ 16 = omega arith in
    let most = pow_mono h in
    subst (λ (x : ℕ). x < 2 ^ 16) (sym (corrected c)) (omega arith)

pub returns : goal.returns
returns c =
    let a = c.args in
    let s = a.state.now in
    let delay = delay_of (table_of a.t.now) in
    let full : delay ≤ fill_of s = omega arith in record {
      entry = c.entry.ensures
          ∙ ap (decode_entry (mark_number a.v.mark)) (corrected (goal.at.returns c).After-information-2)
          ∙ passed (ltb (fill_of s) delay) 0 _ (le-ltb (fill_of s) delay full);
      memory = kept (goal.at.returns c).After-keep-oldest;
    }
