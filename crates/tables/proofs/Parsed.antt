-- Bounds of a table that was parsed: there is room for all rows. Assumes nothing.
--
--   parse-room   a parsed table holds 15 rows
use mathlib.Core.Path.{◌≡◌, refl, sym, ap, ◌∙◌}
use mathlib.Core.Bool.{Bool, true, false, cond}
use mathlib.Core.List.{List}
use Prim.Native.Nat.{ℕ, zero, suc, ◌+◌, ◌-◌}
use lib.Dec.{eqb}
use lib.ListN.{length, drop, get_or, length-set}
use Rattle.tables.specs.declared.table.Table.{Table}
use Rattle.tables.specs.declared.read.Progress.{Progress}
use Rattle.tables.specs.Format.{Parse, refused, parsed, parse, parse_from, after, sized, rowed, kind, size, place}
use Rattle.tables.specs.Format.{fault, begun, row_word}
use Rattle.tables.proofs.Progress.{never-refused}

room-pick : (a b : Bool) (u : Table) (next : Parse) (k p : ℕ) (t : Table) → length u.rows ≡ 15
    → (next ≡ parsed t → length t.rows ≡ 15)
    → cond a (cond b (parsed u) next) (refused k p) ≡ parsed t → length t.rows ≡ 15
room-pick true true u next k p t h f e = let same : u ≡ t = cc in ap (λ (v : Table). length v.rows) (sym same) ∙ h
room-pick true false u next k p t h f e = f e
room-pick false b u next k p t h f e = never-refused e

room_after : (g : Progress) (s : List ℕ) → length g.table.rows ≡ 15 → length (after g s).table.rows ≡ 15
unfolding after sized rowed
room_after g s h = go (eqb (kind s) 1)
  where
    go : (b : Bool) → length (cond b (sized g s) (rowed g s)).table.rows ≡ 15
    go true = h
    go false = length-set g.table.rows (get_or s 1 0 - 1) (row_word s) ∙ h

room-from : (left p : ℕ) (g : Progress) (s : List ℕ) (t : Table) → length g.table.rows ≡ 15
    → parse_from left p g s ≡ parsed t → length t.rows ≡ 15
unfolding parse_from
room-from zero p g s t h e = never-refused e
room-from (suc left) p g s t h e =
    room-pick (eqb (fault g s) 0) (eqb (kind s) 0) g.table
    (parse_from left (p + size (kind s)) (after g s) (drop (size (kind s)) s)) (fault g s)
    (place (fault g s) p) t h
    (room-from left (p + size (kind s)) (after g s) (drop (size (kind s)) s) t (room_after g s h)) e

pub parse-room : (bytes : List ℕ) (t : Table) → parse bytes ≡ parsed t → length t.rows ≡ 15
unfolding parse
parse-room bytes t e = room-from (length bytes) 0 begun bytes t refl e
