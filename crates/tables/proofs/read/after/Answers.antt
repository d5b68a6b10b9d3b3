-- `tables::read::after`: a sound record that is not the end is of sizes, or of a row in range; what it says is stored.
-- Assumes nothing.
use mathlib.Core.Path.{◌≡◌, refl, sym, ap, ◌∙◌}
use native.Mathlib.Omega.{arith}
use borrow.Author.Tests.{eq-eqb, ne_eqb}
use mathlib.Core.List.{List}
use mathlib.Core.Logic.{◌≢◌}
use Prim.Native.Nat.{ℕ, ◌-◌, ◌≤◌, ◌<◌}
use lib.ListN.{get_or}
use Rattle.tables.specs.declared.read.Kind.{Kind}
use Rattle.tables.specs.declared.read.Kind.TheVariants.{End, Sizes, Row}
use Rattle.tables.specs.Format.{kind, kind_number, sized, rowed, after}
use Rattle.tables.specs.declared.read.Progress.{Progress}
use Rattle.tables.proofs.Format.{Sound, sizes, row, end, fault-sound, available}
use Rattle.tables.proofs.read.after.Goals as goal
use Rattle.tables.proofs.read.after.Goals.{In_default}

-- a sound record of neither of the other kinds is a row in range
numbered : (g : Progress) (s : List ℕ) → g.table.symbols ≤ 16 → Sound g s → kind s ≢ 0 → kind s ≢ 1
    → (1 ≤ get_or s 1 0) × (get_or s 1 0 - 1 < 15)
numbered g s b (sizes k h n f) a o = absurd (o k)
numbered g s b (row k h f w) a o = let p = available g (get_or s 1 0) f in (omega arith, omega arith)
numbered g s b (end k h n f) a o = absurd (a k)

after-sizes : (g : Progress) (s : List ℕ) → kind s ≡ 1 → sized g s ≡ after g s
unfolding after
after-sizes g s e = simp (eq-eqb (kind s) 1 e)

after-row : (g : Progress) (s : List ℕ) → kind s ≢ 1 → rowed g s ≡ after g s
unfolding after
after-row g s e = simp (ne_eqb (kind s) 1 e)

other : (k : Kind) → (k ≡ Sizes → ⊥) → kind_number k ≢ 1
other End n e = absurd (omega arith)
other Sizes n e = n refl
other Row n e = absurd (omega arith)

unsized : (c : goal.In_default) → kind c.args.rest.now ≢ 1
unsized c e = other c.args.said c.in_default.not-Sizes (sym c.requires.3 ∙ e)

-- the number of a row that is stored
number : (c : goal.In_default) → (1 ≤ c.byte-j.result) × (c.byte-j.result - 1 < 15)
number c =
    let a = c.args in
    let p = c.requires in
    rw c.byte-j.ensures (numbered a.g.now a.rest.now p.0 (fault-sound a.g.now a.rest.now p.1) p.2 (unsized c))

pub overflow_sub-i : goal.overflow_sub-i
overflow_sub-i c = (number (goal.at.overflow_sub-i c).In_default).0

pub bounds-g-i : goal.bounds-g-i
bounds-g-i c = (number (goal.at.bounds-g-i c).In_default).1

pub bounds-g-i-in_default : goal.bounds-g-i-in_default
bounds-g-i-in_default c = (number (goal.at.bounds-g-i-in_default c).In_default).1

pub returns-in-Sizes : goal.returns-in-Sizes
unfolding sized
returns-in-Sizes c =
    let a = c.args in
    rw (c.byte-j.ensures, c.byte-g.ensures, c.byte-g-in-Sizes.ensures)
    (after-sizes a.g.now a.rest.now (c.requires.3 ∙ ap kind_number c.in-Sizes.is))

pub returns-in_default : goal.returns-in_default
unfolding rowed
returns-in_default c =
    let a = c.args in
    rw (c.byte-j.ensures, c.row_word.ensures)
    (after-row a.g.now a.rest.now (unsized (goal.at.returns-in_default c).In_default))
