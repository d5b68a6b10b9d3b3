-- A table whose rows are lent beside it: fifteen rows, or the zero table, which 12 refuses. Assumes nothing.
use mathlib.Core.Path.{◌≡◌, refl, sym, ap, ◌∙◌}
use mathlib.Core.Bool.{Bool, true, false, cond, ◌&&◌}
use mathlib.Core.Logic.{◌≢◌}
use mathlib.Core.List.{List}
use Prim.Native.Nat.{ℕ}
use native.Mathlib.Omega.{arith}
use borrow.Author.Tests.{eq-eqb, ne_eqb, eqb-true}
use lib.Dec.{eqb}
use lib.ListN.{length}
use Rattle.tables.specs.declared.table.Table.{Table}
use Rattle.tables.specs.Table.{zero_table, info_rows, fit}
use Rattle.tables.proofs.Fit.{Fits, fit-facts, zero-unfit}
use Rattle.tables.specs.Lent.{with_rows, lent, LentLaw}

lent-fifteen : (t : Table) (rows : List ℕ) → length rows ≡ 15 → lent t rows ≡ with_rows t rows
unfolding lent
lent-fifteen t rows e = rw (eq-eqb (length rows) 15 e, lent)

lent_none : (t : Table) (rows : List ℕ) → length rows ≢ 15 → lent t rows ≡ zero_table
unfolding lent
lent_none t rows e = rw (ne_eqb (length rows) 15 e, lent)

pub lent_rows : LentLaw
lent_rows t rows = (lent-fifteen t rows, lent_none t rows, refl)

-- 12 refuses any other count
pub lent-fit : (t : Table) (rows : List ℕ) → fit (lent t rows) ≡ (eqb (length rows) 15 && fit (with_rows t rows))
unfolding lent
lent-fit t rows = go (eqb (length rows) 15)
  where
    go : (b : Bool) → fit (cond b (with_rows t rows) zero_table) ≡ (b && fit (with_rows t rows))
    go true = refl
    go false = zero-unfit

-- what the zero table has not, a table has only with fifteen rows
pub lent-held : (t : Table) (rows : List ℕ) (P : Table → Type 0) → (P zero_table → ⊥) → P (lent t rows)
    → (lent t rows ≡ with_rows t rows) × (length rows ≡ 15)
unfolding lent
lent-held t rows P none held = go (eqb (length rows) 15) refl held
  where
    go : (b : Bool) → eqb (length rows) 15 ≡ b → P (cond b (with_rows t rows) zero_table)
        → (cond b (with_rows t rows) zero_table ≡ with_rows t rows) × (length rows ≡ 15)
    go true e p = (refl, eqb-true (length rows) 15 e)
    go false e p = absurd (none p)

never-fit : fit zero_table ≡ true → ⊥
never-fit e = let no = zero-unfit in let z : ◌≡◌ {A = ℕ} 0 1 = cc in omega arith

pub fit-lent : (t : Table) (rows : List ℕ) → fit (lent t rows) ≡ true
    → (lent t rows ≡ with_rows t rows) × (fit (with_rows t rows) ≡ true)
fit-lent t rows f =
    let k = lent-held t rows (λ (u : Table). fit u ≡ true) never-fit f in
    (k.0, sym (ap fit k.0) ∙ f)

pub fit-fifteen : (t : Table) (rows : List ℕ) → fit (lent t rows) ≡ true → length rows ≡ 15
fit-fifteen t rows f = (lent-held t rows (λ (u : Table). fit u ≡ true) never-fit f).1

-- the bounds of a table with lent rows
abbrev pub LentFits : Table → List ℕ → Type 0
LentFits t rows = Fits t.symbols t.span t.depth (info_rows (with_rows t rows))

pub lent-facts : (t : Table) (rows : List ℕ) → fit (lent t rows) ≡ true → LentFits t rows
lent-facts t rows f = fit-facts (with_rows t rows) (fit-lent t rows f).1
