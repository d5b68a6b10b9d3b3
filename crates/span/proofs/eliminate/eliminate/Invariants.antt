-- `span::eliminate::eliminate`: after i turns the basis is that of the first i words, and no relation from f ends below
-- word i. Assumes nothing.
use Rattle.std.proofs.Common.{◌≡◌, ℕ, ◌^◌, ◌≤◌, take}
use Rattle.span.specs.Combination.{combination}
use Rattle.span.specs.Relation.{IsLeast}
use Rattle.span.specs.Elimination.{basis_of}
use Rattle.std.specs.Prelude.{None}
use Rattle.span.proofs.eliminate.eliminate.Given as goal

abbrev pub invariant-loop-i : goal.invariant-loop-i
invariant-loop-i l = (l.b.size ≤ l.i) × (l.b ≡ basis_of (take l.i l.words))
    × IsLeast (λ (c : ℕ). combination l.words c ≡ 0) (2 ^ l.f) (2 ^ l.i) None
