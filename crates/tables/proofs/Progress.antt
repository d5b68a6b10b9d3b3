-- What holds of the progress of a reading, and so of a table that was parsed: it is fit. Assumes nothing.
--
--   Good g       the sizes are in range or not read; rows are below 2^N, and 0 where not given; what was given is a row
--   good-after   a sound record keeps it
--   parse-ends   a parse that ends well: its first record ends it, or is followed by one that does
--   parse-fit    a parsed table is fit
use mathlib.Core.Path.{◌≡◌, refl, sym, ◌∙◌}
use mathlib.Core.Bool.{Bool, true, false}
use mathlib.Core.Logic.{◌≢◌, ◌⊎◌, inl, inr, ⊎_elim}
use mathlib.Core.List.{List}
use Prim.Native.Nat.{ℕ, zero, suc, ◌+◌, ◌-◌, ◌^◌, ◌≤◌, ◌<◌}
use native.Mathlib.Omega.{arith}
use lib.ListN.{length, get_or, take, drop, set, replicate, length-set, length-take}
use lib.Pow.{pow_pos}
use lib.Seq.{get_or-set_same, get_or-set_other, get_or-take}
use borrow.Author.Tests.{eqb-true, eqb-false}
use lib.Dec.{eqb}
use Rattle.tables.proofs.Fit.{sizes-of, zeros-at, rows-fit-of}
use Rattle.tables.specs.Format.{kind, size, row_word, unavailable, fault, sized, rowed, begun, after, refused}
use Rattle.tables.specs.Format.{parsed, parse_from, parse}
use Rattle.tables.specs.declared.read.Progress.{Progress}
use Rattle.tables.specs.Table.{sizes_fit, rows_fit, fit}
use Rattle.tables.specs.declared.table.Table.{Table}
use Rattle.tables.proofs.Format.{Sound, sizes, row, end, fault-sound, available, parse-refused, parse-done}
use Rattle.tables.proofs.Format.{parse-next}

-- ---- what holds of a progress

pub record Good (g : Progress) : Type 0 where
  pub ranges : ((g.table.symbols ≡ 0) × (g.table.span ≡ 0))
      ⊎ (sizes_fit g.table.symbols g.table.span g.table.depth ≡ true)
  pub below : (i : ℕ) → get_or g.table.rows i 0 < 2 ^ g.table.span
  pub blank : (i : ℕ) → get_or g.given i false ≡ false → get_or g.table.rows i 0 ≡ 0
  pub numbered : (i : ℕ) → get_or g.given i false ≡ true → suc i < g.table.symbols
  pub room : (length g.table.rows ≡ 15) × (length g.given ≡ 15)

pub good-bounds : (g : Progress) → Good g → (g.table.symbols ≤ 16) × (g.table.span ≤ 64)
good-bounds g o =
    ⊎_elim (λ z. omega arith)
    (λ f. let b = sizes-of g.table.symbols g.table.span g.table.depth f in omega arith) o.ranges

pub none-given : (c i : ℕ) → get_or (replicate c false) i false ≡ false
none-given zero i = refl
none-given (suc c) zero = refl
none-given (suc c) (suc i) = none-given c i

pub never : {A : Type 0} → false ≡ true → A
never e = let z : ◌≡◌ {A = ℕ} 0 1 = cc in absurd (omega arith)

pub good-begun : Good begun
good-begun = record {
  ranges = inl (refl, refl);
  below = λ i. rw (zeros-at 15 i) (omega arith);
  blank = λ i e. zeros-at 15 i;
  numbered = λ i e. never (sym (none-given 15 i) ∙ e);
  room = (refl, refl);
}

-- without symbols there are no rows yet
empty : (g : Progress) → Good g → g.table.symbols ≡ 0 → g.table.span ≡ 0
empty g o e =
    ⊎_elim (λ z. z.1)
    (λ f. let b = sizes-of g.table.symbols g.table.span g.table.depth f in absurd (omega arith)) o.ranges

pub good-sized : (g : Progress) (s : List ℕ) → Good g → g.table.symbols ≡ 0
    → sizes_fit (get_or s 1 0) (get_or s 2 0) (get_or s 3 0) ≡ true → Good (sized g s)
unfolding sized
good-sized g s o e f = record {
  ranges = inr f;
  below = λ i. let b = rw (empty g o e) at (o.below i) in let p = pow_pos (get_or s 2 0) in omega arith;
  blank = o.blank;
  numbered = λ i t. absurd (omega (arith, o.numbered i t));
  room = o.room;
}

pub same-or-other : (i j : ℕ) → (i ≡ j) ⊎ (i ≢ j)
same-or-other i j = go (eqb i j) refl
  where
    go : (b : Bool) → eqb i j ≡ b → (i ≡ j) ⊎ (i ≢ j)
    go true e = inl (eqb-true i j e)
    go false e = inr (eqb-false i j e)

module _ (g : Progress) (s : List ℕ) (o : Good g) (e : unavailable g (get_or s 1 0) ≡ false) where
  -- the row's place in the arrays
  rowPlace : ℕ
  rowPlace = get_or s 1 0 - 1

  place-row : (rowPlace < 15) × (suc rowPlace < g.table.symbols)
  unfolding rowPlace
  place-row = let p = available g (get_or s 1 0) e in let b = good-bounds g o in omega arith

  rowed-below : row_word s < 2 ^ g.table.span → (i : ℕ)
      → get_or (set g.table.rows rowPlace (row_word s)) i 0 < 2 ^ g.table.span
  rowed-below w i =
      ⊎_elim
      (λ q.
      let v : get_or (set g.table.rows rowPlace (row_word s)) i 0 ≡ row_word s =
      rw q (get_or-set_same g.table.rows rowPlace (row_word s) 0 (rw o.room.0 place-row.0)) in
      omega arith)
      (λ q. let v = get_or-set_other g.table.rows rowPlace i (row_word s) 0 q in omega (arith, o.below i))
      (same-or-other i rowPlace)

  rowed-blank : (i : ℕ) → get_or (set g.given rowPlace true) i false ≡ false
      → get_or (set g.table.rows rowPlace (row_word s)) i 0 ≡ 0
  rowed-blank i t =
      ⊎_elim
      (λ q. never (sym (rw q at t) ∙ get_or-set_same g.given rowPlace true false (rw o.room.1 place-row.0)))
      (λ q. get_or-set_other g.table.rows rowPlace i (row_word s) 0 q
      ∙ o.blank i (sym (get_or-set_other g.given rowPlace i true false q) ∙ t)) (same-or-other i rowPlace)

  rowed-numbered : (i : ℕ) → get_or (set g.given rowPlace true) i false ≡ true → suc i < g.table.symbols
  rowed-numbered i t =
      ⊎_elim (λ q. rw q place-row.1)
      (λ q. o.numbered i (sym (get_or-set_other g.given rowPlace i true false q) ∙ t)) (same-or-other i rowPlace)

  pub good_rowed : row_word s < 2 ^ g.table.span → Good (rowed g s)
  unfolding rowed rowPlace
  good_rowed w = record {
    ranges = o.ranges;
    below = rowed-below w;
    blank = rowed-blank;
    numbered = rowed-numbered;
    room = (simp length-set o.room.0, simp length-set o.room.1);
  }

pub good-after : (g : Progress) (s : List ℕ) → Good g → Sound g s → kind s ≢ 0 → Good (after g s)
unfolding after
good-after g s o (sizes k h n f) d = rw k (good-sized g s o n f)
good-after g s o (row k h f w) d = rw k (good_rowed g s o f w)
good-after g s o (end k h n a) d = absurd (d k)

-- ---- a parsed table is fit

rows_fit_lem : (N c : ℕ) (rows : List ℕ) → ((i : ℕ) → get_or rows i 0 < 2 ^ N) → rows_fit N (take c rows) ≡ true
rows_fit_lem N c rows b =
    rows-fit-of N (take c rows) (λ i h. let size = length-take c rows in rw (get_or-take c rows i 0 (omega arith)) (b i))

good-fit : (g : Progress) → Good g → g.table.symbols ≢ 0 → fit g.table ≡ true
unfolding fit
good-fit g o n = go o.ranges
  where
    go : ((g.table.symbols ≡ 0) × (g.table.span ≡ 0))
        ⊎ (sizes_fit g.table.symbols g.table.span g.table.depth ≡ true)
        → fit g.table ≡ true
    go (inl z) = absurd (n z.0)
    go (inr f) = rw (rows_fit_lem g.table.span (g.table.symbols - 1) g.table.rows o.below, f)

pub never-refused : {A : Type 0} {k p : ℕ} {t : Table} → refused k p ≡ parsed t → A
never-refused e = let z : ◌≡◌ {A = ℕ} 0 1 = cc in absurd (omega arith)

-- an end record stands after the sizes
sound-end-sized : (g : Progress) (s : List ℕ) → Sound g s → kind s ≡ 0 → g.table.symbols ≢ 0
sound-end-sized g s (sizes k h n f) e = absurd (omega arith)
sound-end-sized g s (row k h f w) e = absurd (omega arith)
sound-end-sized g s (end k h n a) e = n

-- the three cases of a parse that ends well
pub data Step (left p : ℕ) (g : Progress) (s : List ℕ) (t : Table) : Type 0 where
  done : fault g s ≡ 0 → kind s ≡ 0 → g.table ≡ t → Step left p g s t
  on : fault g s ≡ 0 → kind s ≢ 0 → parse_from left (p + size (kind s)) (after g s) (drop (size (kind s)) s) ≡ parsed t
      → Step left p g s t

pub parse-ends : (left p : ℕ) (g : Progress) (s : List ℕ) (t : Table) → parse_from (suc left) p g s ≡ parsed t
    → Step left p g s t
parse-ends left p g s t e = go (eqb (fault g s) 0) refl (eqb (kind s) 0) refl
  where
    go : (a : Bool) → eqb (fault g s) 0 ≡ a → (b : Bool) → eqb (kind s) 0 ≡ b → Step left p g s t
    go false z b k =
        never-refused (sym (parse-refused (suc left) p g s (λ e. absurd (omega arith)) (eqb-false (fault g s) 0 z)) ∙ e)
    go true z true k =
        let f = eqb-true (fault g s) 0 z in
        let d = eqb-true (kind s) 0 k in
        let q : parsed g.table ≡ parsed t = sym (parse-done left p g s f d) ∙ e in
        done f d (cc)
    go true z false k =
        let f = eqb-true (fault g s) 0 z in
        let d = eqb-false (kind s) 0 k in
        on f d (sym (parse-next left p g s f d) ∙ e)

parsed-fit : (left p : ℕ) (g : Progress) (s : List ℕ) (t : Table) → Good g
    → parse_from left p g s ≡ parsed t → fit t ≡ true
unfolding parse_from
parsed-fit zero p g s t o e = never-refused e
parsed-fit (suc left) p g s t o e =
    go (parse-ends left p g s t e) (parsed-fit left (p + size (kind s)) (after g s) (drop (size (kind s)) s) t)
  where
    go : Step left p g s t
        → (Good (after g s)
        → parse_from left (p + size (kind s)) (after g s) (drop (size (kind s)) s) ≡ parsed t → fit t ≡ true)
        → fit t ≡ true
    go (done z k q) f = rw (← q) (good-fit g o (sound-end-sized g s (fault-sound g s z) k))
    go (on z k q) f = f (good-after g s o (fault-sound g s z) k) q

pub parse-fit : (bytes : List ℕ) (t : Table) → parse bytes ≡ parsed t → fit t ≡ true
unfolding parse
parse-fit bytes t e = parsed-fit (length bytes) 0 begun bytes t good-begun e
