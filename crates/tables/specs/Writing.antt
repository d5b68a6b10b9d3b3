-- 02, CR 2, "Tables written back": the bytes of a table with its rows ascending, what writing answers, and what it
-- leaves of the lent buffer.
--
--   ascending j c         the c numbers from j on
--   written t             the bytes of t: sizes, rows ascending, end
--   written_length t      how many they are, 10n − 5
--   unsound_error u       the refusal of a table that is not sound
--   write_number e        the number of a refusal
--   write_numbers a       the number of an answer and its values: 0 and the count of bytes written; 12 or 16; 10 and its
--                         triple
--   write_by t room j     the answer, by the judgement of t and the length of the buffer
--   write_answer t room   what writing answers
--   write_result t room j   the numbers that are due
--   write_buffer a t before   what the answer a leaves of the buffer
--   Writes t before a after   what `write` promises
--   row_number r          the row number of a row record
--   inserted key r qs     r put into a list that is sorted by the key
--   sorted key rs         rs by the key, ascending: insertion sort
--   records_in c s        the first c row records of s
--   sorted_file bytes     a file with its rows sorted
--   WrittenLength         the bytes of a table are 10n − 5, and of a fit one at most 155
--   SoundWritten          with room for them, a fit and suitable table is written
--   ReadsBack             what was written is accepted, and says the table
--   SameBytes             fit tables are the same exactly if their bytes are
--   AcceptedBytes         so are accepted ones
--   FileSorted            writing an accepted file gives that file with its rows sorted
--   WritesSame            rows of a handed table past n − 1 do not matter
use Rattle.std.specs.Prelude.{◌≡◌, ◌↔◌, true, cond, ℕ, zero, suc, ◌+◌, ◌-◌, ◌*◌, ◌≤◌, ◌<◌, leb, ltb, length, get_or}
use Rattle.std.specs.Prelude.{take, drop, Result, Ok, Err}
use mathlib.Core.List.{List, [], ◌∷◌, ◌++◌, flat_map}
use Rattle.tables.specs.declared.table.Table.{Table}
use Rattle.tables.specs.declared.judge.Unsound.{Unsound}
use Rattle.tables.specs.declared.judge.Unsound.TheVariants.{NotFit, Clashing}
use Rattle.tables.specs.declared.write.WriteError.{WriteError}
use Rattle.tables.specs.declared.write.WriteError.TheVariants.{Unfit, Unsuitable, NoRoom}
use Rattle.tables.specs.Code.{Suitable}
use Rattle.tables.specs.Table.{rows_of, fit, Whole, SameTable}
use Rattle.tables.specs.Judging.{judging}
use Rattle.tables.specs.Reading.{reading}
use Rattle.tables.specs.Written.{sizes_record, row_records}

unfoldable pub ascending : ℕ → ℕ → List ℕ
ascending j zero = []
ascending j (suc c) = j ∷ ascending (suc j) c

-- "A writer puts it into a lent buffer: sizes, rows ascending, end, which is 10n − 5 bytes."
unfoldable pub written : Table → List ℕ
written t = sizes_record t ++ (row_records t (ascending 1 (t.symbols - 1)) ++ (0 ∷ []))

abbrev pub written_length : Table → ℕ
written_length t = 10 * t.symbols - 5

abbrev pub unsound_error : Unsound → WriteError
unsound_error NotFit = Unfit
unsound_error (Clashing c) = Unsuitable c

abbrev pub write_number : WriteError → ℕ
write_number Unfit = 12
write_number (Unsuitable c) = 10
write_number NoRoom = 16

abbrev pub write_numbers : Result ℕ WriteError → List ℕ
write_numbers (Ok c) = 0 ∷ c ∷ []
write_numbers (Err Unfit) = 12 ∷ []
write_numbers (Err (Unsuitable c)) = 10 ∷ c.l ∷ c.e0 ∷ c.e1 ∷ []
write_numbers (Err NoRoom) = 16 ∷ []

-- "Answers: first 12 as for a step, then 10, then 16, the buffer is shorter than 10n − 5." The judgement is 12, 10 with
-- its triple, or neither.
abbrev pub write_by : Table → ℕ → Result (Unit {0}) Unsound → Result ℕ WriteError
write_by t room (Err u) = Err (unsound_error u)
write_by t room (Ok sound) = cond (ltb room (written_length t)) (Err NoRoom) (Ok (written_length t))

unfoldable pub write_answer : Table → ℕ → Result ℕ WriteError
write_answer t room = write_by t room (judging t)

-- the same in numbers
abbrev pub write_result : Table → ℕ → Result (Unit {0}) Unsound → List ℕ
write_result t room (Err NotFit) = 12 ∷ []
write_result t room (Err (Clashing c)) = 10 ∷ c.l ∷ c.e0 ∷ c.e1 ∷ []
write_result t room (Ok sound) = cond (ltb room (written_length t)) (16 ∷ []) (0 ∷ written_length t ∷ [])

-- "Bytes past the written ones stay." A refusal writes nothing.
abbrev pub write_buffer : Result ℕ WriteError → Table → List ℕ → List ℕ
write_buffer (Ok c) t before = written t ++ drop c before
write_buffer (Err e) t before = before

pub record Writes (t : Table) (before : List ℕ) (a : Result ℕ WriteError) (after : List ℕ) : Type 0 where
  pub answer : a ≡ write_answer t (length before)
  pub numbers : write_numbers a ≡ write_result t (length before) (judging t)
  pub buffer : after ≡ write_buffer (write_answer t (length before)) t before

-- of every table of at least one symbol; 155 bytes have room for any that is fit
abbrev pub WrittenLength : Type 0
WrittenLength =
    (t : Table)
    → (1 ≤ t.symbols → length (written t) ≡ written_length t) × (fit t ≡ true → written_length t ≤ 155)

-- made tables among them
abbrev pub SoundWritten : Type 0
SoundWritten =
    (t : Table) (before : List ℕ) (a : Result ℕ WriteError) (after : List ℕ) → fit t ≡ true → Suitable t.span (rows_of t)
    → written_length t ≤ length before → Writes t before a after
    → (a ≡ Ok (written_length t)) × (after ≡ written t ++ drop (written_length t) before)

-- "Reading what was written returns the table." Rows past n − 1 are not written, and are 0 in what reading returns: a
-- table that has them 0, as one that was read or made, comes back as it was. A table by value has fifteen rows.
abbrev pub ReadsBack : Type 0
ReadsBack =
    (t : Table) (before after : List ℕ) (c : ℕ) → length t.rows ≡ 15 → Writes t before (Ok c) after
    → (u : Table) × (reading (take c after) ≡ Ok u) × Whole u × SameTable u t × (Whole t → u ≡ t)

-- of any tables by value that are fit
abbrev pub SameBytes : Type 0
SameBytes =
    (t u : Table) → fit t ≡ true → fit u ≡ true → length t.rows ≡ 15 → length u.rows ≡ 15
    → SameTable t u ↔ (written t ≡ written u)

-- "Two accepted tables, compared by n, N, m and rows 1 to n − 1, are equal exactly if their written bytes are."
abbrev pub AcceptedBytes : Type 0
AcceptedBytes =
    (bytes others : List ℕ) (t u : Table) → reading bytes ≡ Ok t → reading others ≡ Ok u
    → SameTable t u ↔ (written t ≡ written u)

-- the byte after the kind
abbrev pub row_number : List ℕ → ℕ
row_number r = get_or r 1 0

unfoldable pub inserted : {A : Type 0} → (A → ℕ) → A → List A → List A
inserted key r [] = r ∷ []
inserted key r (q ∷ qs) = cond (leb (key r) (key q)) (r ∷ q ∷ qs) (q ∷ inserted key r qs)

unfoldable pub sorted : {A : Type 0} → (A → ℕ) → List A → List A
sorted key [] = []
sorted key (r ∷ rs) = inserted key r (sorted key rs)

-- a row record has ten bytes
unfoldable pub records_in : ℕ → List ℕ → List (List ℕ)
records_in zero s = []
records_in (suc c) s = take 10 s ∷ records_in c (drop 10 s)

-- the sizes record of four bytes, whose second is n; the n − 1 row records, sorted; and what follows them
abbrev pub sorted_file : List ℕ → List ℕ
sorted_file bytes =
    let count = get_or bytes 1 0 - 1 in
    let rows = sorted row_number (records_in count (drop 4 bytes)) in
    take 4 bytes ++ (flat_map (λ r. r) rows ++ drop (4 + 10 * count) bytes)

-- "Writing an accepted file returns that file with its rows sorted." The numbers of a file are bytes, below 256; with
-- less room than it is long, 16 applies.
abbrev pub FileSorted : Type 0
FileSorted =
    (bytes before after : List ℕ) (t : Table) (a : Result ℕ WriteError) → ((i : ℕ) → get_or bytes i 0 < 256)
    → reading bytes ≡ Ok t → length bytes ≤ length before → Writes t before a after
    → (a ≡ Ok (length bytes)) × (after ≡ sorted_file bytes ++ drop (length bytes) before)

abbrev pub WritesSame : Type 0
WritesSame =
    (u t : Table) (before : List ℕ) (a : Result ℕ WriteError) (after : List ℕ) → SameTable u t → Writes u before a after
    → Writes t before a after
