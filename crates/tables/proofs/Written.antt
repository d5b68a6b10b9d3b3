-- Bytes parse to a table exactly if they are its sizes record, its row records in some order, and the end. Assumes
-- nothing.
use mathlib.Core.Path.{◌≡◌, refl, sym, ap, ◌∙◌}
use mathlib.Core.Bool.{Bool, true, false, cond, not, ◌&&◌, ◌||◌}
use mathlib.Core.Logic.{◌≢◌, ⊎_elim}
use mathlib.Core.List.{List, [], ◌∷◌, ◌++◌, append_assoc}
use Prim.Native.Nat.{ℕ, zero, suc, ◌+◌, ◌-◌, ◌*◌, ◌/◌, ◌%◌, ◌^◌, ◌≤◌, ◌<◌}
use native.Mathlib.Nat.{add-zero}
use native.Mathlib.Omega.{arith}
use borrow.Author.Tests.{ltb-true, ltb-false, eq-eqb, ne_eqb, lt-ltb, le-ltb, le-leb, lt-leb}
use lib.Dec.{leb, ltb, eqb}
use lib.ListN.{length, get_or, take, drop, length-take}
use lib.Pow.{pow_mono}
use lib.Seq.{get_or-take, drop-cons, get_or-drop, get_or-set_same, get_or-set_other, ext_get_or}
use Rattle.tables.specs.declared.table.Table.{Table}
use Rattle.tables.specs.declared.read.Progress.{Progress}
use Rattle.tables.specs.Table.{table, sizes_fit, rows_fit, fit, Whole}
use Rattle.tables.specs.Format.{kind, size, word, row_word, all_given, unavailable, fault, sized, rowed, begun}
use Rattle.tables.specs.Format.{after, parsed, parse_from, parse}
use Rattle.tables.specs.Written.{bytes_of, sizes_record, row_records, times, Says, ParsesExactly}
use Rattle.tables.proofs.Fit.{and_left, sizes-of, fit-facts}
use Rattle.tables.proofs.Format.{Sound, sizes, row, end, fault-sound, available, given-none, parse-next}
use Rattle.tables.proofs.Format.{parse-done, fault-row, fault-end, fault-sizes, size-sizes, size-row}
use Rattle.tables.proofs.Progress.{Good, Step, done, on, never, never-refused, same-or-other, good-bounds}
use Rattle.tables.proofs.Progress.{none-given, good-begun, good-after, good-sized, good_rowed, parse-ends}
use Rattle.tables.proofs.Progress.{parse-fit}

-- ---- the bytes of a number

-- the bytes from place k on are those of their number
word_bytes : (c : ℕ) (s : List ℕ) → ((i : ℕ) → get_or s i 0 < 256) → (k : ℕ) → k + c ≤ length s
    → drop k s ≡ bytes_of c (word s k c) ++ drop (k + c) s
unfolding word bytes_of
word_bytes zero s b k h = rw (add-zero k)
word_bytes (suc c) s b k h =
    let w = word s (suc k) c in
    let small = b k in
    let low : (get_or s k 0 + 256 * w) % 256 ≡ get_or s k 0 = omega arith in
    let high : (get_or s k 0 + 256 * w) / 256 ≡ w = omega arith in
    let next : k + suc c ≡ suc k + c = omega arith in
    rw (
      low,
      high,
      next,
    ) (drop-cons s k 0 (omega arith) ∙ ap (λ (l : List ℕ). get_or s k 0 ∷ l) (word_bytes c s b (suc k) (omega arith)))

-- the number of the bytes of a word
bytes_word : (j w : ℕ) (rest : List ℕ) → w < 2 ^ 64 → row_word (2 ∷ j ∷ bytes_of 8 w ++ rest) ≡ w
unfolding word bytes_of
bytes_word j w rest h = omega arith

-- ---- the numbers still to come

-- a row that was not given stands once, any other number not at all
abbrev Open : Progress → List ℕ → Type 0
Open g js = (k : ℕ) → times k js ≡ cond (unavailable g k) 0 1

unavailable-zero : (g : Progress) → unavailable g 0 ≡ true
unfolding unavailable
unavailable-zero g = refl

or-true : (s : Bool) → (s || true) ≡ true
or-true true = refl
or-true false = refl

-- a row that is in range and not unavailable was not given, and one that is unavailable was
unavailable-given : (g : Progress) (k : ℕ) → unavailable g k ≡ true → 1 ≤ k → k < g.table.symbols
    → get_or g.given (k - 1) false ≡ true
unfolding unavailable
unavailable-given g k e l u = rw (le-leb 1 k l, lt-ltb k g.table.symbols u) at e

given-unavailable : (g : Progress) (k : ℕ) → get_or g.given (k - 1) false ≡ true → unavailable g k ≡ true
unfolding unavailable
given-unavailable g k e = rw e (or-true (not (leb 1 k && ltb k g.table.symbols)))

out-unavailable : (g : Progress) (k : ℕ) → g.table.symbols ≤ k → unavailable g k ≡ true
unfolding unavailable
out-unavailable g k h = go (leb 1 k) (ltb k g.table.symbols) (le-ltb k g.table.symbols h)
  where
    go : (a b : Bool) → b ≡ false → (not (a && b) || get_or g.given (k - 1) false) ≡ true
    go true b e = rw e
    go false b e = refl

-- every row was given exactly if no number is open
given-all : (given : List Bool) (c i : ℕ) → all_given given c ≡ true → i < c → get_or given i false ≡ true
given-all given c i e h = go (get_or given i false) refl
  where
    go : (b : Bool) → get_or given i false ≡ b → get_or given i false ≡ true
    go true q = q
    go false q = never (sym (given-none given i c h q) ∙ e)

all-given : (given : List Bool) (c : ℕ) → ((i : ℕ) → i < c → get_or given i false ≡ true) → all_given given c ≡ true
unfolding all_given
all-given given zero f = refl
all-given given (suc c) f = rw (all-given given c (λ i h. f i (omega arith)), f c (omega arith))

all_taken_lem : (g : Progress) → all_given g.given (g.table.symbols - 1) ≡ true → (k : ℕ) → unavailable g k ≡ true
all_taken_lem g e zero = unavailable-zero g
all_taken_lem g e (suc k) = go (ltb (suc k) g.table.symbols) refl
  where
    go : (b : Bool) → ltb (suc k) g.table.symbols ≡ b → unavailable g (suc k) ≡ true
    go true q =
        let l = ltb-true (suc k) g.table.symbols q in
        let i : suc k - 1 ≡ k = omega arith in
        given-unavailable g (suc k) (rw i (given-all g.given (g.table.symbols - 1) k e (omega arith)))
    go false q = out-unavailable g (suc k) (ltb-false (suc k) g.table.symbols q)

-- ---- one row

module _ (g : Progress) (s : List ℕ) (o : Good g) (e : unavailable g (get_or s 1 0) ≡ false) where
  row_number : ℕ
  row_number = get_or s 1 0

  in-range : (1 ≤ row_number) × (row_number < g.table.symbols) × (get_or g.given (row_number - 1) false ≡ false)
  unfolding row_number
  in-range = available g (get_or s 1 0) e

  not_taken : unavailable g row_number ≡ false
  unfolding row_number
  not_taken = e

  row-unavailable : unavailable (rowed g s) row_number ≡ true
  unfolding rowed row_number
  row-unavailable =
      given-unavailable (rowed g s) row_number (get_or-set_same g.given (row_number - 1) true false
      (let r = in-range in let b = good-bounds g o in let n = o.room.1 in omega arith))

  other-taken : (k : ℕ) → 1 ≤ k → k ≢ row_number → unavailable (rowed g s) k ≡ unavailable g k
  unfolding rowed unavailable row_number
  other-taken k l n =
      let r = in-range in
      rw (get_or-set_other g.given (row_number - 1) (k - 1) true false (λ q. n (omega arith)))

  open_step : (k : ℕ) → cond (eqb k row_number) 1 0 + cond (unavailable (rowed g s) k) 0 1 ≡ cond (unavailable g k) 0 1
  open_step zero =
      let r = in-range in
      rw (ne_eqb 0 row_number (λ q. omega arith), unavailable-zero g, unavailable-zero (rowed g s))
  open_step (suc k) = ⊎_elim same other (same-or-other (suc k) row_number)
    where
      same : suc k ≡ row_number → cond (eqb (suc k) row_number) 1 0 + cond (unavailable (rowed g s) (suc k)) 0 1
          ≡ cond (unavailable g (suc k)) 0 1
      same q = rw (q, eq-eqb row_number row_number refl, row-unavailable, not_taken)

      other : suc k ≢ row_number → cond (eqb (suc k) row_number) 1 0 + cond (unavailable (rowed g s) (suc k)) 0 1
          ≡ cond (unavailable g (suc k)) 0 1
      other n = rw (ne_eqb (suc k) row_number n, other-taken (suc k) (omega arith) n) (omega arith)

  open_more : (js : List ℕ) → Open (rowed g s) js → Open g (row_number ∷ js)
  unfolding times
  open_more js f k = rw (f k) (open_step k)

  open-less : (js : List ℕ) → Open g (row_number ∷ js) → Open (rowed g s) js
  unfolding times
  open-less js f k = let a = f k in let b = open_step k in omega arith

  -- what was given stays, and the new row is the record's
  kept : (i : ℕ) → get_or g.given i false ≡ true
      → (get_or (rowed g s).given i false ≡ true) × (get_or (rowed g s).table.rows i 0 ≡ get_or g.table.rows i 0)
  unfolding rowed row_number
  kept i h =
      let n : i ≢ row_number - 1 = λ q. never (sym (rw (← q) at in-range.2) ∙ h) in (
        get_or-set_other g.given (row_number - 1) i true false n ∙ h,
        get_or-set_other g.table.rows (row_number - 1) i (row_word s) 0 n,
      )

  added : (get_or (rowed g s).given (row_number - 1) false ≡ true)
      × (get_or (rowed g s).table.rows (row_number - 1) 0 ≡ row_word s)
  unfolding rowed row_number
  added =
      let r = in-range in
      let b = good-bounds g o in
      let m = o.room in (
        get_or-set_same g.given (row_number - 1) true false (omega arith),
        get_or-set_same g.table.rows (row_number - 1) (row_word s) 0 (omega arith),
      )

  elsewhere : (i : ℕ) → i ≢ row_number - 1
      → (get_or (rowed g s).given i false ≡ get_or g.given i false)
      × (get_or (rowed g s).table.rows i 0 ≡ get_or g.table.rows i 0)
  unfolding rowed row_number
  elsewhere i n = (
    get_or-set_other g.given (row_number - 1) i true false n,
    get_or-set_other g.table.rows (row_number - 1) i (row_word s) 0 n,
  )

-- ---- from the parse to the records

record Rows (g : Progress) (s : List ℕ) (t : Table) : Type 0 where
  order : List ℕ
  opens : Open g order
  same : s ≡ row_records t order ++ (0 ∷ [])
  keeps : (g.table.symbols ≡ t.symbols) × (g.table.span ≡ t.span) × (g.table.depth ≡ t.depth)
  agrees : (i : ℕ) → get_or g.given i false ≡ true → get_or t.rows i 0 ≡ get_or g.table.rows i 0
  room : length t.rows ≡ 15
  blank : (i : ℕ) → t.symbols ≤ suc i → get_or t.rows i 0 ≡ 0

end_list : (s : List ℕ) → kind s ≡ 0 → length s ≡ 1 → s ≡ 0 ∷ []
end_list [] k h = absurd (omega arith)
end_list (a ∷ []) k h = rw k
end_list (a ∷ b ∷ s) k h = absurd (omega arith)

-- a number past the last row was not given
past : (g : Progress) → Good g → (i : ℕ) → g.table.symbols ≤ suc i → get_or g.table.rows i 0 ≡ 0
past g o i h = o.blank i (go (get_or g.given i false) refl)
  where
    go : (b : Bool) → get_or g.given i false ≡ b → get_or g.given i false ≡ false
    go true q = absurd (omega (arith, o.numbered i q))
    go false q = q

rows-done : (g : Progress) (s : List ℕ) (t : Table) → Good g → kind s ≡ 0 → length s ≡ 1
    → all_given g.given (g.table.symbols - 1) ≡ true
    → g.table ≡ t → Rows g s t
unfolding times row_records
rows-done g s t o k h a q =
    rw (← q)
    (record {
      order = [];
      opens = λ i. rw (all_taken_lem g a i);
      same = end_list s k h;
      keeps = (refl, refl, refl);
      agrees = λ i e. refl;
      room = o.room.0;
      blank = past g o;
    })

row_list : (s : List ℕ) → ((i : ℕ) → get_or s i 0 < 256) → kind s ≡ 2 → 10 ≤ length s
    → s ≡ 2 ∷ get_or s 1 0 ∷ (bytes_of 8 (row_word s) ++ drop 10 s)
row_list s b k h =
    drop-cons s 0 0 (omega arith)
    ∙ (ap (λ (l : List ℕ). get_or s 0 0 ∷ l) (drop-cons s 1 0 (omega arith))
    ∙ rw (k, word_bytes 8 s b 2 h))

keeps-row : (g : Progress) (s : List ℕ) (t : Table)
    → ((rowed g s).table.symbols ≡ t.symbols) × ((rowed g s).table.span ≡ t.span)
    × ((rowed g s).table.depth ≡ t.depth)
    → (g.table.symbols ≡ t.symbols) × (g.table.span ≡ t.span) × (g.table.depth ≡ t.depth)
unfolding rowed
keeps-row g s t e = e

rows_row : (g : Progress) (s : List ℕ) (t : Table) → Good g → ((i : ℕ) → get_or s i 0 < 256) → kind s ≡ 2 → 10 ≤ length s
    → unavailable g (get_or s 1 0) ≡ false
    → Rows (rowed g s) (drop 10 s) t → Rows g s t
unfolding row_records row_number
rows_row g s t o b k h e r =
    let new : get_or t.rows (get_or s 1 0 - 1) 0 ≡ row_word s =
    r.agrees (get_or s 1 0 - 1) (added g s o e).0 ∙ (added g s o e).1 in
    record {
      order = get_or s 1 0 ∷ r.order;
      opens = open_more g s o e r.order r.opens;
      same = row_list s b k h ∙ rw (
        new,
        append_assoc (bytes_of 8 (row_word s)) (row_records t r.order) (0 ∷ []),
        ← r.same,
      );
      keeps = keeps-row g s t r.keeps;
      agrees = λ i q. let a = kept g s o e i q in r.agrees i a.0 ∙ a.1;
      room = r.room;
      blank = r.blank;
    }

after-row : (g : Progress) (s : List ℕ) → kind s ≡ 2 → after g s ≡ rowed g s
unfolding after
after-row g s k = rw k

after-sizes : (g : Progress) (s : List ℕ) → kind s ≡ 1 → after g s ≡ sized g s
unfolding after
after-sizes g s k = rw k

rowed-symbols : (g : Progress) (s : List ℕ) → (rowed g s).table.symbols ≡ g.table.symbols
unfolding rowed
rowed-symbols g s = refl

sized-symbols : (g : Progress) (s : List ℕ) → (sized g s).table.symbols ≡ get_or s 1 0
unfolding sized
sized-symbols g s = refl

rows_of : (left p : ℕ) (g : Progress) (s : List ℕ) (t : Table) → Good g → g.table.symbols ≢ 0
    → ((i : ℕ) → get_or s i 0 < 256)
    → parse_from left p g s ≡ parsed t → Rows g s t
unfolding parse_from
rows_of zero p g s t o n b e = never-refused e
rows_of (suc left) p g s t o n b e =
    go (parse-ends left p g s t e) (rows_of left (p + size (kind s)) (after g s) (drop (size (kind s)) s) t)
  where
    go : Step left p g s t
        → (Good (after g s) → (after g s).table.symbols ≢ 0 → ((i : ℕ) → get_or (drop (size (kind s)) s) i 0 < 256)
        → parse_from left (p + size (kind s)) (after g s) (drop (size (kind s)) s) ≡ parsed t
        → Rows (after g s) (drop (size (kind s)) s) t)
        → Rows g s t
    go (done z k q) f = at-end (fault-sound g s z)
      where
        at-end : Sound g s → Rows g s t
        at-end (sizes k' h m a) = absurd (n m)
        at-end (row k' h a w) = absurd (omega arith)
        at-end (end k' h m a) = rows-done g s t o k h a q
    go (on z k q) f = at_row (fault-sound g s z)
      where
        rest : (i : ℕ) → get_or (drop (size (kind s)) s) i 0 < 256
        rest i = rw (get_or-drop (size (kind s)) s i 0) (b (size (kind s) + i))

        at_row : Sound g s → Rows g s t
        at_row (sizes k' h m a) = absurd (n m)
        at_row (row k' h a w) =
            let r = f (good-after g s o (fault-sound g s z) k) (rw (after-row g s k', rowed-symbols g s) n) rest q in
            rows_row g s t o b k' h a (rw (after-row g s k', size-row (kind s) k') at r)
        at_row (end k' h m a) = absurd (k k')

-- ---- the sizes record

sizes-list : (s : List ℕ) → kind s ≡ 1 → 4 ≤ length s → s ≡ 1 ∷ get_or s 1 0 ∷ get_or s 2 0 ∷ get_or s 3 0 ∷ drop 4 s
sizes-list s k h =
    drop-cons s 0 0 (omega arith)
    ∙ (ap (λ (l : List ℕ). get_or s 0 0 ∷ l) (drop-cons s 1 0 (omega arith))
    ∙ (ap (λ (l : List ℕ). get_or s 0 0 ∷ get_or s 1 0 ∷ l) (drop-cons s 2 0 (omega arith))
    ∙ (ap (λ (l : List ℕ). get_or s 0 0 ∷ get_or s 1 0 ∷ get_or s 2 0 ∷ l) (drop-cons s 3 0 (omega arith))
    ∙ rw k)))

-- no row was given before the sizes
open-sized : (s : List ℕ) (k : ℕ)
    → cond {A = ℕ} (unavailable (sized begun s) k) 0 1 ≡ cond (leb 1 k && ltb k (get_or s 1 0)) 1 0
unfolding sized unavailable
open-sized s k = rw (none-given 15 (k - 1)) (go (leb 1 k && ltb k (get_or s 1 0)))
  where
    go : (a : Bool) → cond {A = ℕ} (not a || false) 0 1 ≡ cond a 1 0
    go true = refl
    go false = refl

keeps-sized : (s : List ℕ) (t : Table)
    → ((sized begun s).table.symbols ≡ t.symbols) × ((sized begun s).table.span ≡ t.span)
    × ((sized begun s).table.depth ≡ t.depth)
    → (get_or s 1 0 ≡ t.symbols) × (get_or s 2 0 ≡ t.span) × (get_or s 3 0 ≡ t.depth)
unfolding sized
keeps-sized s t e = e

written_of : (s : List ℕ) (t : Table) → fit t ≡ true → kind s ≡ 1 → 4 ≤ length s
    → Rows (sized begun s) (drop 4 s) t → Says s t
written_of s t f k h r =
    let e = keeps-sized s t r.keeps in
    record {
      whole = record { fits = f; room = r.room; blank = r.blank };
      order = r.order;
      each_once = λ i. rw (← e.0) (r.opens i ∙ open-sized s i);
      same = sizes-list s k h ∙ rw (e.0, e.1, e.2, r.same);
    }

start_of : (left : ℕ) (s : List ℕ) (t : Table) → ((i : ℕ) → get_or s i 0 < 256) → fit t ≡ true
    → parse_from left 0 begun s ≡ parsed t → Says s t
unfolding parse_from
start_of zero s t b f e = never-refused e
start_of (suc left) s t b f e = go (parse-ends left 0 begun s t e)
  where
    first : fault begun s ≡ 0 → Sound begun s
        → (kind s ≡ 1) × (4 ≤ length s) × (sizes_fit (get_or s 1 0) (get_or s 2 0) (get_or s 3 0) ≡ true)
    first z (sizes k h m a) = (k, h, a)
    first z (row k h a w) = let r = available begun (get_or s 1 0) a in absurd (omega arith)
    first z (end k h m a) = absurd (m refl)

    go : Step left 0 begun s t → Says s t
    go (done z k q) = let r = first z (fault-sound begun s z) in absurd (omega arith)
    go (on z k q) =
        let r = first z (fault-sound begun s z) in
        let z4 = size-sizes (kind s) r.0 in
        let m = sizes-of (get_or s 1 0) (get_or s 2 0) (get_or s 3 0) r.2 in
        let next : parse_from left (0 + 4) (sized begun s) (drop 4 s) ≡ parsed t =
        rw (after-sizes begun s r.0, z4) at q in
        written_of s t f r.0 r.1
        (rows_of left (0 + 4) (sized begun s) (drop 4 s) t (good-sized begun s good-begun refl r.2)
        (rw (sized-symbols begun s) (λ q. omega arith))
        (λ i. rw (get_or-drop 4 s i 0) (b (4 + i))) next)

-- ---- from the records to the parse

fit_row : (t : Table) → fit t ≡ true → (i : ℕ) → i < t.symbols - 1 → i < length t.rows
    → get_or t.rows i 0 < 2 ^ t.span
fit_row t f i h room =
    let size = length-take (t.symbols - 1) t.rows in
    rw (← get_or-take (t.symbols - 1) t.rows i 0 h) ((fit-facts t f).below i (omega arith))

record Agrees (g : Progress) (t : Table) : Type 0 where
  keeps : (g.table.symbols ≡ t.symbols) × (g.table.span ≡ t.span) × (g.table.depth ≡ t.depth)
  rows : (i : ℕ) → get_or g.given i false ≡ true → get_or t.rows i 0 ≡ get_or g.table.rows i 0

pub same-table : (a b : Table) → a.symbols ≡ b.symbols → a.span ≡ b.span → a.depth ≡ b.depth
    → a.rows ≡ b.rows → a ≡ b
same-table a b p q r s =
    let e : table a.symbols a.span a.depth a.rows ≡ table b.symbols b.span b.depth b.rows =
    cc in
    e

-- with every row given, the progress has the table
all-rows : (g : Progress) (t : Table) → Good g → Agrees g t → Whole t
    → ((k : ℕ) → unavailable g k ≡ true) → g.table ≡ t
all-rows g t o a w f =
    same-table g.table t a.keeps.0 a.keeps.1 a.keeps.2
    (ext_get_or 0 g.table.rows t.rows (o.room.0 ∙ sym w.room)
    (λ i h. go i (get_or g.given i false) refl (ltb (suc i) g.table.symbols) refl))
  where
    go : (i : ℕ) (b : Bool) → get_or g.given i false ≡ b → (c : Bool) → ltb (suc i) g.table.symbols ≡ c
        → get_or g.table.rows i 0 ≡ get_or t.rows i 0
    go i true q c l = sym (a.rows i q)
    go i false q true l =
        let m : suc i - 1 ≡ i = omega arith in
        never (sym q
        ∙ (rw m at (unavailable-given g (suc i) (f (suc i)) (omega arith) (ltb-true (suc i) g.table.symbols l))))
    go i false q false l =
        let m = ltb-false (suc i) g.table.symbols l in
        let n = a.keeps.0 in
        o.blank i q ∙ sym (w.blank i (omega arith))

-- no number is open: each was taken
none_open : (g : Progress) → Open g [] → (k : ℕ) → unavailable g k ≡ true
unfolding times
none_open g f k = go (unavailable g k) refl
  where
    go : (b : Bool) → unavailable g k ≡ b → unavailable g k ≡ true
    go true q = q
    go false q = let z = rw q at (f k) in absurd (omega arith)

sized-some : (t : Table) → Whole t → (g : Progress) → Agrees g t → g.table.symbols ≢ 0
sized-some t w g a e = let s = fit-facts t w.fits in let n = a.keeps.0 in omega arith

end-parsed : (left p : ℕ) (g : Progress) (t : Table) → Good g → Agrees g t → Whole t → Open g []
    → parse_from (suc left) p g (0 ∷ []) ≡ parsed t
end-parsed left p g t o a w f =
    let taken-all = none_open g f in
    let given : all_given g.given (g.table.symbols - 1) ≡ true =
    all-given g.given (g.table.symbols - 1) (λ i h. let m : suc i - 1
    ≡ i = omega arith in rw m at (unavailable-given g (suc i) (taken-all (suc i)) (omega arith) (omega arith))) in
    let z : fault g (0 ∷ []) ≡ 0 =
    fault-end g (0 ∷ []) refl (omega arith) ∙ rw (ne_eqb g.table.symbols 0 (sized-some t w g a), given) in
    parse-done left p g (0 ∷ []) z refl ∙ ap parsed (all-rows g t o a w taken-all)

-- a row record of the table, and what comes after it
module _ (g : Progress) (t : Table) (o : Good g) (a : Agrees g t) (w : Whole t) (i : ℕ) (rest : List ℕ)
    (e : unavailable g i ≡ false) where
  rowBytes : List ℕ
  rowBytes = 2 ∷ i ∷ (bytes_of 8 (get_or t.rows (i - 1) 0) ++ rest)

  i-range : (1 ≤ i) × (i < t.symbols)
  i-range = let r = available g i e in let n = a.keeps.0 in omega arith

  row_small : get_or t.rows (i - 1) 0 < 2 ^ t.span
  row_small =
      let r = i-range in
      let size = w.room in
      let z = fit-facts t w.fits in
      fit_row t w.fits (i - 1) (omega arith) (omega arith)

  row_is : row_word rowBytes ≡ get_or t.rows (i - 1) 0
  unfolding rowBytes
  row_is =
      let z = fit-facts t w.fits in
      let p : 2 ^ t.span ≤ 2 ^ 64 = pow_mono z.N_to in
      let small = row_small in
      bytes_word i (get_or t.rows (i - 1) 0) rest (omega arith)

  row-bound : row_word rowBytes < 2 ^ g.table.span
  row-bound = rw (row_is, a.keeps.1) row_small

  row-sound : fault g rowBytes ≡ 0
  unfolding rowBytes bytes_of
  row-sound =
      fault-row g rowBytes refl (omega arith)
      ∙ rw (
        ne_eqb g.table.symbols 0 (sized-some t w g a),
        e,
        lt-leb (2 ^ g.table.span) (row_word rowBytes) row-bound,
      )

  row_next : (left p : ℕ) → parse_from (suc left) p g rowBytes ≡ parse_from left (p + 10) (rowed g rowBytes) rest
  unfolding rowBytes bytes_of
  row_next left p =
      parse-next left p g rowBytes row-sound (λ q. omega arith) ∙ rw (after-row g rowBytes refl, size-row 2 refl)

  row-good : Good (rowed g rowBytes)
  unfolding rowBytes
  row-good = good_rowed g rowBytes o e row-bound

  row-agrees : Agrees (rowed g rowBytes) t
  unfolding rowed rowBytes row_number
  row-agrees = record { keeps = a.keeps; rows = λ k q. ⊎_elim (same k) (other k q) (same-or-other k (i - 1)) }
    where
      same : (k : ℕ) → k ≡ i - 1 → get_or t.rows k 0 ≡ get_or (rowed g rowBytes).table.rows k 0
      same k c = rw c (sym ((added g rowBytes o e).1 ∙ row_is))

      other : (k : ℕ) → get_or (rowed g rowBytes).given k false ≡ true → k ≢ i - 1
          → get_or t.rows k 0 ≡ get_or (rowed g rowBytes).table.rows k 0
      other k q n = let m = elsewhere g rowBytes o e k n in a.rows k (sym m.0 ∙ q) ∙ sym m.1

  row_open : (js : List ℕ) → Open g (i ∷ js) → Open (rowed g rowBytes) js
  unfolding rowBytes row_number
  row_open js f = open-less g rowBytes o e js f

-- a number that stands in the list is open
first-open : (g : Progress) (i : ℕ) (js : List ℕ) → Open g (i ∷ js) → unavailable g i ≡ false
unfolding times
first-open g i js f = go (unavailable g i) refl
  where
    go : (b : Bool) → unavailable g i ≡ b → unavailable g i ≡ false
    go true q = let z = rw (q, eq-eqb i i refl) at (f i) in absurd (omega arith)
    go false q = q

rest-length : (t : Table) (i left : ℕ) (js : List ℕ) → length (row_records t (i ∷ js) ++ (0 ∷ [])) ≤ suc left
    → length (row_records t js ++ (0 ∷ [])) ≤ left
unfolding row_records bytes_of
rest-length t i left js h = omega arith

rows-parsed : (js : List ℕ) (left p : ℕ) (g : Progress) (t : Table) → Good g → Agrees g t → Whole t → Open g js
    → length (row_records t js ++ (0 ∷ [])) ≤ left → parse_from left p g (row_records t js ++ (0 ∷ [])) ≡ parsed t
unfolding row_records rowBytes
rows-parsed [] zero p g t o a w f h = absurd (omega arith)
rows-parsed [] (suc left) p g t o a w f h = end-parsed left p g t o a w f
rows-parsed (i ∷ js) zero p g t o a w f h = absurd (omega arith)
rows-parsed (i ∷ js) (suc left) p g t o a w f h =
    let rest = row_records t js ++ (0 ∷ []) in
    let e = first-open g i js f in
    rw (append_assoc (bytes_of 8 (get_or t.rows (i - 1) 0)) (row_records t js) (0 ∷ []))
    (row_next g t o a w i rest e left p
    ∙ rows-parsed js left (p + 10) (rowed g (rowBytes g t o a w i rest e)) t (row-good g t o a w i rest e)
    (row-agrees g t o a w i rest e) w
    (row_open g t o a w i rest e js f) (rest-length t i left js h))

-- after the sizes record no row is given
module _ (t : Table) (w : Whole t) (rest : List ℕ) where
  whole-sizes : sizes_fit t.symbols t.span t.depth ≡ true
  unfolding fit
  whole-sizes =
      and_left (sizes_fit t.symbols t.span t.depth)
      (rows_fit t.span (take (t.symbols - 1) t.rows)) w.fits

  begun-sound : fault begun (sizes_record t ++ rest) ≡ 0
  begun-sound = fault-sizes begun (sizes_record t ++ rest) refl (omega arith) ∙ rw whole-sizes

  begun-next : (left : ℕ) → parse_from (suc left) 0 begun (sizes_record t ++ rest)
      ≡ parse_from left 4 (sized begun (sizes_record t ++ rest)) rest
  begun-next left =
      parse-next left 0 begun (sizes_record t ++ rest) begun-sound (λ q. omega arith)
      ∙ rw (after-sizes begun (sizes_record t ++ rest) refl, size-sizes 1 refl)

  begun-agrees : Agrees (sized begun (sizes_record t ++ rest)) t
  unfolding sized
  begun-agrees = record { keeps = (refl, refl, refl); rows = λ i q. never (sym (none-given 15 i) ∙ q) }

pub written-parsed : (bytes : List ℕ) (t : Table) → Says bytes t → parse bytes ≡ parsed t
unfolding parse
written-parsed bytes t w =
    let rest = row_records t w.order ++ (0 ∷ []) in
    let s = sizes_record t ++ rest in
    rw w.same
    (begun-next t w.whole rest (suc (suc (suc (length rest))))
    ∙ rows-parsed w.order (suc (suc (suc (length rest)))) 4 (sized begun s) t
    (good-sized begun s good-begun refl (whole-sizes t w.whole rest))
    (begun-agrees t w.whole rest) w.whole (λ k. w.each_once k ∙ sym (open-sized s k)) (omega arith))

pub parses-exactly : ParsesExactly
unfolding parse
parses-exactly bytes t b = (λ e. start_of (length bytes) bytes t b (parse-fit bytes t e) e, written-parsed bytes t)
