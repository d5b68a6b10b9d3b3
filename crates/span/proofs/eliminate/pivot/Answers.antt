-- `span::eliminate::pivot`: the smaller of the two zero counts of a word that is not 0 is below 64. Assumes nothing.
use Rattle.std.proofs.Common.{◌≡◌, ℕ, ◌-◌, ◌^◌, ◌<◌, ◌≤◌, arith, le-leb}
use borrow.Author.Tests.{lt-leb}
use lib.Count.{count_leading_zeros, count_trailing_zeros, leading_top}
use Rattle.span.specs.Elimination.{pivot}
use Rattle.span.proofs.Word.{trailing-bit}
use Rattle.span.proofs.eliminate.pivot.Goals as goal

low-lt : (v : ℕ) → 0 < v → v < 2 ^ 64 → count_trailing_zeros 64 v < 64
low-lt v p h = (trailing-bit 64 v p h).0

high_lt : (v : ℕ) → 0 < v → v < 2 ^ 64 → count_leading_zeros 64 v < 64
high_lt v p h = let t = leading_top 64 v p h in omega (arith, t.1)

low-pivot : (v : ℕ) → count_trailing_zeros 64 v ≤ count_leading_zeros 64 v → count_trailing_zeros 64 v ≡ pivot v
unfolding pivot
low-pivot v h = rw (le-leb (count_trailing_zeros 64 v) (count_leading_zeros 64 v) h)

high-pivot : (v : ℕ) → count_leading_zeros 64 v < count_trailing_zeros 64 v → 63 - count_leading_zeros 64 v ≡ pivot v
unfolding pivot
high-pivot v h = rw (lt-leb (count_trailing_zeros 64 v) (count_leading_zeros 64 v) h)

pub returns-then-low-high : goal.returns-then-low-high
returns-then-low-high c =
    let t = low-lt c.args.v c.requires c.ranges.v.fits in
    (low-pivot c.args.v (omega arith), omega arith)

pub returns : goal.returns
returns c =
    (high-pivot c.args.v (omega arith), omega arith)
