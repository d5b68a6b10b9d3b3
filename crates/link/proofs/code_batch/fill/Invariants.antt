-- `link::code_batch::fill`: block by block (`Reached`). Assumes nothing.
use mathlib.Core.Path.{◌≡◌}
use mathlib.Core.List.{List}
use Prim.Native.Nat.{ℕ}
use lib.ListN.{length}
use Rattle.tables.specs.declared.table.Table.{Table}
use Rattle.link.specs.Fit.{table_of}
use Rattle.link.specs.Coder.{code_answer, code_memory}
use Rattle.link.specs.Batch.{Batch, batch, code_entries, Reached}
use Rattle.link.proofs.code_batch.fill.Given as goal

abbrev pub made : Table → ℕ → List ℕ → List ℕ → Batch
made u = batch (λ s b. code_entries (code_answer u s b)) (code_memory u)

abbrev pub invariant-loop-i : goal.invariant-loop-i
invariant-loop-i l =
    Reached (made (table_of l.t)) l.initial.state l.infos l.initial.out l.i l.state l.out
    × (length l.state ≡ length l.initial.state)
