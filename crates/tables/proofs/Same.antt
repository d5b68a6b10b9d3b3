-- Tables that are the same: n, N, m and rows 1 to n − 1. Assumes nothing.
--
--   trimmed t    t with its rows past n − 1 set to 0, as reading returns it: it is the same as t, and whole
--   same_row     their rows
--   whole_same   whole ones are equal
--   sizes-are    one with the sizes of the other
use mathlib.Core.Path.{◌≡◌, refl, sym, ap, ◌∙◌}
use mathlib.Core.Bool.{Bool, true, false}
use mathlib.Core.List.{List, ◌++◌}
use Prim.Native.Nat.{ℕ, suc, ◌-◌, ◌<◌}
use native.Mathlib.Omega.{arith}
use borrow.Author.Tests.{ltb-true, ltb-false}
use lib.Dec.{ltb}
use lib.ListN.{length, get_or, replicate, length-append, length-replicate}
use lib.Seq.{length-take-le, take_at, get_or-take, ext_get_or}
use Rattle.tables.specs.declared.table.Table.{Table}
use Rattle.tables.specs.Table.{table, info_rows, fit, Whole, SameTable}
use Rattle.tables.proofs.Fit.{fit-facts, fit_same, padded-zero}
use Rattle.tables.proofs.Written.{same-table}

abbrev pub trimmed : Table → Table
trimmed t = table t.symbols t.span t.depth (info_rows t ++ replicate (16 - t.symbols) 0)

module _ (t : Table) (f : fit t ≡ true) (room : length t.rows ≡ 15) where
  info-length : length (info_rows t) ≡ t.symbols - 1
  info-length = let z = fit-facts t f in length-take-le (t.symbols - 1) t.rows (omega arith)

  pub trimmed_same : SameTable (trimmed t) t
  trimmed_same = record {
    symbols = refl;
    span = refl;
    depth = refl;
    rows = take_at (info_rows t) (replicate (16 - t.symbols) 0) (t.symbols - 1) info-length;
  }

  pub trimmed_whole : Whole (trimmed t)
  trimmed_whole =
      let z = fit-facts t f in
      let a = info-length in
      let b = length-replicate {A = ℕ} (16 - t.symbols) 0 in
      record {
        fits = fit_same t.symbols t.span t.depth (trimmed t).rows t.rows trimmed_same.rows ∙ f;
        room = length-append (info_rows t) (replicate (16 - t.symbols) 0) ∙ omega arith;
        blank = λ i h. padded-zero (info_rows t) (16 - t.symbols) i (omega arith);
      }

-- row i + 1, for i + 1 below n
pub same_row : (u t : Table) → SameTable u t → (i : ℕ) → suc i < t.symbols → get_or u.rows i 0 ≡ get_or t.rows i 0
same_row u t s i h =
    sym (get_or-take (t.symbols - 1) u.rows i 0 (omega arith))
    ∙ ap (λ (l : List ℕ). get_or l i 0) s.rows
    ∙ get_or-take (t.symbols - 1) t.rows i 0 (omega arith)

pub whole_same : (u t : Table) → Whole u → Whole t → SameTable u t → u ≡ t
whole_same u t v w s =
    same-table u t s.symbols s.span s.depth
    (ext_get_or 0 u.rows t.rows (v.room ∙ sym w.room) (λ i h. go i (ltb (suc i) t.symbols) refl))
  where
    go : (i : ℕ) (b : Bool) → ltb (suc i) t.symbols ≡ b → get_or u.rows i 0 ≡ get_or t.rows i 0
    go i true e = same_row u t s i (ltb-true (suc i) t.symbols e)
    go i false e =
        let h = ltb-false (suc i) t.symbols e in
        let n = s.symbols in
        v.blank i (omega arith) ∙ sym (w.blank i h)

pub sizes-are : (u t : Table) → SameTable u t → table t.symbols t.span t.depth u.rows ≡ u
sizes-are u t s = rw (sym s.symbols, sym s.span, sym s.depth)
