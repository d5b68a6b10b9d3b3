-- What is written reads back, tells tables apart, and is the file that was read with its rows sorted. Assumes nothing.
use mathlib.Core.Path.{◌≡◌, refl, sym, ap, subst, ◌∙◌}
use mathlib.Core.Bool.{Bool, true, false, cond}
use mathlib.Core.List.{List, [], ◌∷◌, ◌++◌, map, flat_map}
use Prim.Native.Nat.{ℕ, zero, suc, ◌+◌, ◌-◌, ◌*◌, ◌≤◌, ◌<◌}
use native.Mathlib.Omega.{arith}
use borrow.Author.Tests.{le-ltb}
use lib.Dec.{ltb}
use lib.ListN.{length, get_or, take, drop, length-append}
use lib.Seq.{take_at, drop-append-add, drop-append_seam}
use Rattle.tables.specs.declared.table.Table.{Table}
use Rattle.std.specs.Prelude.{Result, Ok, Err}
use Rattle.tables.specs.declared.judge.Unsound.{Unsound}
use Rattle.tables.specs.declared.judge.Unsound.TheVariants.{NotFit, Clashing}
use Rattle.tables.specs.declared.write.WriteError.{WriteError}
use Rattle.tables.specs.declared.write.WriteError.TheVariants.{NoRoom}
use Rattle.tables.specs.Code.{Suitable}
use Rattle.tables.specs.Table.{table, info_rows, code_rows, rows_of, fit, SameTable}
use Rattle.tables.specs.Judging.{judging}
use Rattle.tables.specs.Format.{parsed, parse}
use Rattle.tables.specs.Reading.{reading}
use Rattle.tables.specs.Written.{bytes_of, sizes_record, row_record, row_records, EachOnce}
use Rattle.tables.specs.Writing.{ascending, written, written_length, write_numbers, write_by, write_answer}
use Rattle.tables.specs.Writing.{write_result, write_buffer, Writes, row_number, sorted, records_in, sorted_file}
use Rattle.tables.specs.Writing.{SoundWritten, ReadsBack, SameBytes, AcceptedBytes, FileSorted, WritesSame}
use Rattle.tables.proofs.Fit.{fit-facts, fit_same, code-rows-same}
use Rattle.tables.proofs.Judging.{judged}
use Rattle.tables.proofs.Reading.{accepted-suitable, suitable-accepted}
use Rattle.tables.proofs.Parsed.{parse-room}
use Rattle.tables.proofs.Written.{written-parsed, parses-exactly}
use Rattle.tables.proofs.Stores.{records-length, ascending-length, written-length}
use Rattle.tables.proofs.Same.{trimmed, trimmed_same, trimmed_whole, same_row, whole_same, sizes-are}
use Rattle.tables.proofs.Sorted.{sorted_numbers, sorted-map, sorted-length, each_once, sorted-once}

-- ---- by the judgement

-- the answer that is given, its numbers, and the buffer
pub writes-by : (t : Table) (before : List ℕ) (j : Result (Unit {0}) Unsound) (a : Result ℕ WriteError) (after : List ℕ) → j ≡ judging t
    → a ≡ write_by t (length before) j → after ≡ write_buffer a t before → Writes t before a after
unfolding write_answer
writes-by t before j a after right e b =
    let answer : a ≡ write_answer t (length before) = e ∙ ap (write_by t (length before)) right in
    record {
      answer = answer;
      numbers = ap write_numbers answer ∙ numbers-due (judging t);
      buffer = b ∙ ap (λ (x : Result ℕ WriteError). write_buffer x t before) answer;
    }
  where
    room-due : (b : Bool)
        → write_numbers (cond b (Err NoRoom) (Ok (written_length t)))
        ≡ cond b (16 ∷ []) (0 ∷ written_length t ∷ [])
    room-due true = refl
    room-due false = refl

    numbers-due : (j : Result (Unit {0}) Unsound) → write_numbers (write_by t (length before) j) ≡ write_result t (length before) j
    numbers-due (Err NotFit) = refl
    numbers-due (Err (Clashing c)) = refl
    numbers-due (Ok sound) = room-due (ltb (length before) (written_length t))

-- ---- with room

pub sound-written : SoundWritten
unfolding write_answer
sound-written t before a after f suits room w =
    let count : write_answer t (length before) ≡ Ok (written_length t) =
    rw ((judged t (Ok tt)).1 (f, suits), le-ltb (length before) (written_length t) room) in
    (w.answer ∙ count, w.buffer ∙ rw count)

-- ---- tables that are the same have the same bytes

records-same : (u t : Table) (j c : ℕ) → 1 ≤ j
    → ((i : ℕ) → suc i < j + c → get_or u.rows i 0 ≡ get_or t.rows i 0)
    → row_records u (ascending j c) ≡ row_records t (ascending j c)
unfolding ascending row_records
records-same u t j zero from f = refl
records-same u t j (suc c) from f =
    rw (f (j - 1) (omega arith), records-same u t (suc j) c (omega arith) (λ i h. f i (omega arith)))

written_same : (u t : Table) → SameTable u t → written u ≡ written t
unfolding written
written_same u t s =
    let rows : row_records u (ascending 1 (u.symbols - 1)) ≡ row_records t (ascending 1 (t.symbols - 1)) =
    ap (λ (k : ℕ). row_records u (ascending 1 (k - 1))) s.symbols
    ∙ records-same u t 1 (t.symbols - 1) (omega arith) (λ i h. same_row u t s i (omega arith)) in
    rw (rows, s.symbols, s.span, s.depth)

-- ---- reading them

written-parses : (t : Table) → fit t ≡ true → length t.rows ≡ 15 → parse (written t) ≡ parsed (trimmed t)
unfolding written
written-parses t f room =
    let z = fit-facts t f in
    written-parsed (written t) (trimmed t) (record {
      whole = trimmed_whole t f room;
      order = ascending 1 (t.symbols - 1);
      each_once = each_once t.symbols (omega arith);
      same = sym (written_same (trimmed t) t (trimmed_same t f room));
    })

-- a count of bytes is the answer of a fit and suitable table only
record Stored (t : Table) (before : List ℕ) (c : ℕ) (after : List ℕ) : Type 0 where
  fits : fit t ≡ true
  suits : Suitable t.span (rows_of t)
  count : c ≡ written_length t
  bytes : take c after ≡ written t

stored : (t : Table) (before after : List ℕ) (c : ℕ) → Writes t before (Ok c) after → Stored t before c after
unfolding write_answer
stored t before after c w = go (judging t) refl w.answer
  where
    counted : (b : Bool) → Ok c ≡ cond b (Err NoRoom) (Ok (written_length t)) → c ≡ written_length t
    counted true e = let z : ◌≡◌ {A = ℕ} 0 1 = cc in absurd (omega arith)
    counted false e = cc

    go : (j : Result (Unit {0}) Unsound) → judging t ≡ j → Ok c ≡ write_by t (length before) j → Stored t before c after
    go (Err u) q e = let z : ◌≡◌ {A = ℕ} 0 1 = cc in absurd (omega arith)
    go (Ok sound) q e =
        let n : c ≡ written_length t = counted (ltb (length before) (written_length t)) e in
        let r = (judged t (Ok tt)).0 q in
        let z = fit-facts t r.0 in
        record {
          fits = r.0;
          suits = r.1;
          count = n;
          bytes = ap (take c) (w.buffer ∙ ap (λ (x : Result ℕ WriteError). write_buffer x t before) (sym w.answer))
              ∙ take_at (written t) (drop c before) c ((written-length t).0 (omega arith) ∙ sym n);
        }

pub reads-back : ReadsBack
reads-back t before after c room w =
    let s = stored t before after c w in
    let whole = trimmed_whole t s.fits room in
    let same = trimmed_same t s.fits room in
    let rows : rows_of (trimmed t) ≡ rows_of t = code-rows-same t.symbols (trimmed t).rows t.rows same.rows in
    let back : reading (take c after) ≡ Ok (trimmed t) =
    suitable-accepted (take c after) (trimmed t) (ap parse s.bytes ∙ written-parses t s.fits room)
    (subst (λ (l : List ℕ). Suitable t.span l) (sym rows) s.suits) in
    (trimmed t, back, whole, same, λ v. whole_same (trimmed t) t whole v same)

-- ---- tables by their bytes

parsed-same : (t u : Table) → parsed t ≡ parsed u → t ≡ u
parsed-same t u e = cc

pub same_bytes : SameBytes
same_bytes t u f g a b = (
  written_same t u,
  λ e. back (parsed-same (trimmed t) (trimmed u) (sym (written-parses t f a) ∙ ap parse e ∙ written-parses u g b)),
)
  where
    back : trimmed t ≡ trimmed u → SameTable t u
    back e =
        let n : t.symbols ≡ u.symbols = ap (λ (v : Table). v.symbols) e in
        record {
          symbols = n;
          span = ap (λ (v : Table). v.span) e;
          depth = ap (λ (v : Table). v.depth) e;
          rows =
              ap (λ (k : ℕ). take (k - 1) t.rows) (sym n)
              ∙ sym (trimmed_same t f a).rows
              ∙ ap info_rows e
              ∙ (trimmed_same u g b).rows;
        }

pub accepted-bytes : AcceptedBytes
accepted-bytes bytes others t u a b =
    let x = accepted-suitable bytes t a in
    let y = accepted-suitable others u b in
    same_bytes t u x.1 y.1 (parse-room bytes t x.0) (parse-room others u y.0)

-- ---- an accepted file

records-split : (t : Table) (js rest : List ℕ)
    → records_in (length js) (row_records t js ++ rest) ≡ map (row_record t) js
unfolding row_records records_in bytes_of
records-split t [] rest = refl
records-split t (j ∷ js) rest = ap (λ (l : List (List ℕ)). row_record t j ∷ l) (records-split t js rest)

records-joined : (t : Table) (js : List ℕ) → flat_map (λ r. r) (map (row_record t) js) ≡ row_records t js
unfolding flat_map row_records
records-joined t [] = refl
records-joined t (j ∷ js) = ap (λ (l : List ℕ). row_record t j ++ l) (records-joined t js)

abbrev file : Table → List ℕ → List ℕ
file t js = sizes_record t ++ (row_records t js ++ (0 ∷ []))

module _ (t : Table) (js : List ℕ) (h : 1 ≤ t.symbols) (each : EachOnce t.symbols js) where
  order-length : length js ≡ t.symbols - 1
  order-length =
      sym (sorted-length (λ k. k) js) ∙ ap length (sorted-once t.symbols js h each)
      ∙ ascending-length 1 (t.symbols - 1)

  rows-sorted : flat_map (λ r. r) (sorted row_number (records_in (t.symbols - 1) (row_records t js ++ (0 ∷ []))))
      ≡ row_records t (ascending 1 (t.symbols - 1))
  rows-sorted =
      let split : records_in (t.symbols - 1) (row_records t js ++ (0 ∷ [])) ≡ map (row_record t) js =
      ap (λ (c : ℕ). records_in c (row_records t js ++ (0 ∷ []))) (sym order-length) ∙ records-split t js (0 ∷ []) in
      ap (λ (rs : List (List ℕ)). flat_map (λ r. r) (sorted row_number rs)) split
      ∙ ap (flat_map (λ r. r)) (sorted-map row_number (row_record t) js)
      ∙ records-joined t (sorted_numbers js)
      ∙ ap (row_records t) (sorted-once t.symbols js h each)

  file-length : length (file t js) ≡ written_length t
  file-length =
      let n = records-length t js in
      let m = order-length in
      let e = length-append (row_records t js) (0 ∷ []) in
      omega arith

  after-rows : drop (4 + 10 * (t.symbols - 1)) (file t js) ≡ 0 ∷ []
  after-rows =
      let n = records-length t js in
      let m = order-length in
      let e : 4 + 10 * (t.symbols - 1) ≡ 4 + length (row_records t js) = omega arith in
      ap (λ (k : ℕ). drop k (file t js)) e
      ∙ drop-append-add (sizes_record t) (row_records t js ++ (0 ∷ [])) (length (row_records t js))
      ∙ drop-append_seam (row_records t js) (0 ∷ [])

  file-written : sorted_file (file t js) ≡ written t
  unfolding written
  file-written = rw (rows-sorted, after-rows)

pub file-sorted : FileSorted
file-sorted bytes before after t a b accepted room w =
    let x = accepted-suitable bytes t accepted in
    let v = (parses-exactly bytes t b).0 x.0 in
    let z = fit-facts t x.1 in
    let many : 1 ≤ t.symbols = omega arith in
    let sort : sorted_file bytes ≡ written t =
    ap sorted_file v.same ∙ file-written t v.order many v.each_once in
    let size : length bytes ≡ written_length t = ap length v.same ∙ file-length t v.order many v.each_once in
    let done = sound-written t before a after x.1 x.2 (omega arith) w in (
      done.0 ∙ ap Ok (sym size),
      done.1 ∙ rw (sort, size),
    )

-- ---- rows past n − 1

module _ (n N m : ℕ) (us ts : List ℕ) (e : take (n - 1) us ≡ take (n - 1) ts) where
  fits : fit (table n N m us) ≡ fit (table n N m ts)
  fits = fit_same n N m us ts e

  rows : code_rows n us ≡ code_rows n ts
  rows = code-rows-same n us ts e

  judging-same : judging (table n N m us) ≡ judging (table n N m ts)
  unfolding judging
  judging-same = rw (fits, rows)

  answer-same : (room : ℕ) → write_answer (table n N m us) room ≡ write_answer (table n N m ts) room
  unfolding write_answer
  answer-same room = ap (write_by (table n N m us) room) judging-same ∙ by-same (judging (table n N m ts))
    where
      by-same : (j : Result (Unit {0}) Unsound) → write_by (table n N m us) room j ≡ write_by (table n N m ts) room j
      by-same (Err u) = refl
      by-same (Ok sound) = refl

  buffer-same : (a : Result ℕ WriteError) (before : List ℕ)
      → write_buffer a (table n N m us) before ≡ write_buffer a (table n N m ts) before
  buffer-same (Ok c) before =
      ap (λ (l : List ℕ). l ++ drop c before)
      (written_same (table n N m us) (table n N m ts)
      (record { symbols = refl; span = refl; depth = refl; rows = e }))
  buffer-same (Err e) before = refl

  writes_as : (before : List ℕ) (a : Result ℕ WriteError) (after : List ℕ) → Writes (table n N m us) before a after
      → Writes (table n N m ts) before a after
  unfolding write_answer
  writes_as before a after w =
      writes-by (table n N m ts) before (judging (table n N m ts)) a after refl
      (w.answer ∙ answer-same (length before))
      (w.buffer ∙ ap (λ (x : Result ℕ WriteError). write_buffer x (table n N m us) before) (sym w.answer)
      ∙ buffer-same a before)

pub writes-same : WritesSame
writes-same u t before a after s w =
    writes_as t.symbols t.span t.depth u.rows t.rows s.rows before a after
    (subst (λ (v : Table). Writes v before a after) (sym (sizes-are u t s)) w)
