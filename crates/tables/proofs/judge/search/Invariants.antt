-- `tables::judge::search`: no shift below l has a clash, and the least relation at l is the least clash there. Assumes
-- nothing.
use Prim.Native.Nat.{ℕ, ◌<◌}
use Rattle.tables.specs.Code.{Clashes}
use Rattle.tables.proofs.judge.search.Given as goal

abbrev pub invariant-loop-l : goal.invariant-loop-l
invariant-loop-l l = (k e0 e1 : ℕ) → k < l.l → Clashes l.span l.rows k e0 e1 → ⊥
