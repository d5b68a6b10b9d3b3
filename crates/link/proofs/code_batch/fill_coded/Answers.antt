-- `link::code_batch::fill_coded`: a table or a memory that 12 or 13 refuses takes no block. Assumes nothing.
use mathlib.Core.Path.{◌≡◌, sym, subst, ap, ◌∙◌}
use mathlib.Core.List.{List, []}
use Prim.Native.Nat.{ℕ}
use lib.ListN.{length}
use Rattle.tables.specs.declared.table.Table.{Table}
use Rattle.tables.specs.Table.{fit}
use Rattle.tables.specs.Lent.{lent}
use Rattle.link.specs.Memory.{coder_words}
use Rattle.link.specs.Coder.{code_answer, code_memory}
use Rattle.link.specs.Batch.{code_entries, code_batch, Fills}
use Rattle.link.proofs.Reached.{fills_idle}
use Rattle.link.proofs.Entries.{code_unfit, code_other}
use Rattle.link.proofs.code_batch.fill_coded.Goals as goal

-- no block is taken
idle : (u : Table) (s bs out : List ℕ) → ((b : ℕ) → code_entries (code_answer u s b) ≡ [])
    → Fills (code_batch u (length out) s bs) out 0 s out
unfolding code_batch
idle u = fills_idle (λ s b. code_entries (code_answer u s b)) (code_memory u)

pub returns-in_default : goal.returns-in_default
returns-in_default c =
    let a = c.args in
    let u = lent a.t a.rows.now in
    idle u a.state.now a.infos.now a.out.now (code_unfit u a.state.now c.in_default.ensures.1)

pub returns-then-state-coder_words : goal.returns-then-state-coder_words
returns-then-state-coder_words c =
    let a = c.args in
    let u = lent a.t a.rows.now in
    idle u a.state.now a.infos.now a.out.now
    (code_other u a.state.now (sym (ap fit c.in-Ok.ensures) ∙ c.in-Ok.fit.is_fit)
    (λ (z : length a.state.now ≡ coder_words u). c.if-state-coder_words.true
    (z ∙ ap coder_words (sym c.in-Ok.ensures) ∙ sym c.coder_words.ensures)))

pub returns : goal.returns
returns c =
    let a = c.args in
    let f = c.fill in
    subst (λ (u : Table). Fills (code_batch u (length a.out.now) a.state.now a.infos.now) a.out.now
    f.result f.new.state f.new.out) c.in-Ok.ensures f.ensures
