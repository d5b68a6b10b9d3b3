-- `link::decode_batch::fill_decoded`: a table or a memory that 12 or 13 refuses takes no block. Assumes nothing.
use mathlib.Core.Path.{◌≡◌, sym, subst, ap, ◌∙◌}
use mathlib.Core.List.{List, []}
use Prim.Native.Nat.{ℕ}
use lib.ListN.{length}
use Rattle.tables.specs.declared.table.Table.{Table}
use Rattle.tables.specs.Table.{fit}
use Rattle.tables.specs.Lent.{lent}
use Rattle.link.specs.Memory.{decoder_words}
use Rattle.link.specs.Decoder.{decode_answer, decode_memory}
use Rattle.link.specs.Batch.{decode_entries, decode_batch, Fills}
use Rattle.link.proofs.Reached.{fills_idle}
use Rattle.link.proofs.Entries.{decode_unfit, decode_other}
use Rattle.link.proofs.decode_batch.fill_decoded.Goals as goal

-- no block is taken
idle : (u : Table) (s bs out : List ℕ) → ((b : ℕ) → decode_entries (decode_answer u s b) ≡ [])
    → Fills (decode_batch u (length out) s bs) out 0 s out
unfolding decode_batch
idle u = fills_idle (λ s b. decode_entries (decode_answer u s b)) (decode_memory u)

pub returns-in_default : goal.returns-in_default
returns-in_default c =
    let a = c.args in
    let u = lent a.t a.rows.now in
    idle u a.state.now a.blocks.now a.out.now (decode_unfit u a.state.now c.in_default.ensures.1)

pub returns-then-state-decoder_words : goal.returns-then-state-decoder_words
returns-then-state-decoder_words c =
    let a = c.args in
    let u = lent a.t a.rows.now in
    idle u a.state.now a.blocks.now a.out.now
    (decode_other u a.state.now (sym (ap fit c.in-Ok.ensures) ∙ c.in-Ok.fit.is_fit)
    (λ (z : length a.state.now ≡ decoder_words u). c.if-state-decoder_words.true
    (z ∙ ap decoder_words (sym c.in-Ok.ensures) ∙ sym c.decoder_words.ensures)))

pub returns : goal.returns
returns c =
    let a = c.args in
    let f = c.fill in
    subst (λ (u : Table). Fills (decode_batch u (length a.out.now) a.state.now a.blocks.now) a.out.now
    f.result f.new.state f.new.out) c.in-Ok.ensures f.ensures
