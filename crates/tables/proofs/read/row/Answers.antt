-- `tables::read::row`: the range, the mark, the row; the mask is the greatest row that fits. Assumes nothing.
use mathlib.Core.Path.{◌≡◌, refl, ap}
use mathlib.Core.Bool.{true, false, ◌&&◌}
use Prim.Native.Nat.{ℕ, ◌-◌, ◌^◌, ◌≤◌, ◌<◌, min}
use native.Mathlib.Omega.{arith}
use borrow.Author.Tests.{le-leb, lt-leb, leb-true, ltb-true}
use lib.Dec.{leb, ltb}
use lib.ListN.{get_or}
use lib.Pow.{pow_pos}
use Rattle.tables.specs.declared.read.Progress.{Progress}
use Rattle.tables.specs.Format.{unavailable, row_word, fault_of}
use Rattle.tables.proofs.Fit.{and_left, and_right}
use Rattle.tables.proofs.read.row.Goals as goal
use Rattle.tables.proofs.read.row.Goals.{Then-j-g}

-- a number in range is unavailable where it was given, and one out of range is
marked : (g : Progress) (j : ℕ) → leb 1 j && ltb j g.table.symbols ≡ true
    → get_or g.given (j - 1) false ≡ unavailable g j
unfolding unavailable
marked g j e = rw e

outside : (g : Progress) (j : ℕ) → leb 1 j && ltb j g.table.symbols ≡ false → unavailable g j ≡ true
unfolding unavailable
outside g j e = rw e refl

-- the number in range
number : (c : goal.Then-j-g)
    → (1 ≤ c.byte-j.result)
    × (c.byte-j.result < c.args.g.now.table.symbols)
number c =
    let j = c.byte-j.result in
    let n = c.args.g.now.table.symbols in (
      leb-true 1 j (and_left (leb 1 j) (ltb j n) c.if-j-g.true),
      ltb-true j n (and_right (leb 1 j) (ltb j n) c.if-j-g.true),
    )

pub overflow_sub-j : goal.overflow_sub-j
overflow_sub-j c = (number (goal.at.overflow_sub-j c).Then-j-g).0

pub bounds-g-j : goal.bounds-g-j
bounds-g-j c = let n = number (goal.at.bounds-g-j c).Then-j-g in omega arith

pub returns-then-g-j : goal.returns-then-g-j
unfolding fault_of
returns-then-g-j c =
    let g = c.args.g.now in
    rw (← c.byte-j.ensures, ← marked g c.byte-j.result c.if-j-g.true, c.if-g-j.true) refl

pub returns-then-mask-row_word : goal.returns-then-mask-row_word
unfolding fault_of
returns-then-mask-row_word c =
    let g = c.args.g.now in
    let some = pow_pos g.table.span in
    let same : 2 ^ min g.table.span 64 ≡ 2 ^ g.table.span = ap (λ (k : ℕ). 2 ^ k) (omega arith) in
    let long : 2 ^ g.table.span ≤ row_word c.args.rest.now = rw (← c.row_word.ensures) (omega arith) in
    rw (
      ← c.byte-j.ensures,
      ← marked g c.byte-j.result c.if-j-g.true,
      c.if-g-j.false,
      le-leb (2 ^ g.table.span) (row_word c.args.rest.now) long,
    ) refl

pub returns-then-j-g : goal.returns-then-j-g
returns-then-j-g c =
    let g = c.args.g.now in
    let some = pow_pos g.table.span in
    let same : 2 ^ min g.table.span 64 ≡ 2 ^ g.table.span = ap (λ (k : ℕ). 2 ^ k) (omega arith) in
    let short : row_word c.args.rest.now < 2 ^ g.table.span = rw (← c.row_word.ensures) (omega arith) in
    rw (
      ← c.byte-j.ensures,
      ← marked g c.byte-j.result c.if-j-g.true,
      c.if-g-j.false,
      lt-leb (2 ^ g.table.span) (row_word c.args.rest.now) short,
    ) refl

pub returns : goal.returns
unfolding fault_of
returns c = rw (← c.byte-j.ensures, outside c.args.g.now c.byte-j.result c.if-j-g.false) refl
