-- `link::decode_batch::fill_judged`: the basis is that of the code's rows, and it says something of every register.
-- Assumes nothing.
use mathlib.Core.Path.{◌≡◌, ap, ◌∙◌}
use mathlib.Core.List.{List}
use mathlib.Core.Logic.{inl, inr}
use Prim.Native.Nat.{ℕ}
use native.Mathlib.Omega.{arith}
use borrow.Author.Rules.{rules}
use lib.ListN.{length}
use Rattle.span.specs.Elimination.{basis_of}
use Rattle.span.specs.Dual.{dual}
use Rattle.tables.specs.Table.{rows_of}
use Rattle.tables.proofs.Fit.{code-length}
use Rattle.link.specs.Fit.{table_of}
use Rattle.link.proofs.CodeWords.{counted_words}
use Rattle.link.proofs.decode_batch.fill_judged.Goals as goal

pub fill_by-requires-clause-callable : goal.fill_by-requires-clause-callable
fill_by-requires-clause-callable c =
    let t = table_of c.args.t.now in
    let n = t.symbols in
    let w = c.error_words-words in
    let b = c.dual_basis-basis in
    let size : length (rows_of t) ≡ n = code-length n t.rows (omega arith) (omega arith) in
    let e : b.result ≡ dual (basis_of (rows_of t)) =
    b.ensures ∙ ap (λ (ws : List ℕ). dual (basis_of ws)) (counted_words (rows_of t) w.result n 0 size w.ensures (omega arith)) in
    let o = c.ones-ones.ensures in
    search rules

pub returns : goal.returns
returns c = elim c.fill_by.ensures.ended [ inl f ↦ f | inr h ↦ let p = h.1 in search rules ]
