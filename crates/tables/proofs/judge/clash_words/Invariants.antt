-- `tables::judge::clash_words`: after i turns the first i rows stand shifted from the front, and as they are from n on.
-- Assumes nothing.
use mathlib.Core.Path.{◌≡◌}
use mathlib.Core.List.{List}
use Prim.Native.Nat.{ℕ, ◌+◌, ◌<◌}
use lib.ListN.{length, get_or}
use Rattle.span.specs.Word.{shifted}
use Rattle.tables.proofs.judge.clash_words.Given as goal

abbrev pub Filled : ℕ → ℕ → ℕ → List ℕ → ℕ → List ℕ → Type 0
Filled n N l rows i words =
    (k : ℕ) → k < i → (get_or words k 0 ≡ shifted N l (get_or rows k 0)) × (get_or words (n + k) 0 ≡ get_or rows k 0)

abbrev pub invariant-loop-i : goal.invariant-loop-i
invariant-loop-i l = (length l.words ≡ 32) × Filled (length l.rows) l.span l.l l.rows l.i l.words
