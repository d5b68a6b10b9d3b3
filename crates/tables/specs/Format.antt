-- 01, "Table bytes" and refusals 1 to 9: what bytes say, record by record. A record is told by the list of bytes that
-- it begins; the bytes after it are the rest of that list.
--
--   kind s, size k           the kind of the record that begins s; the length of a record of kind k, its kind byte
--                            included
--   word s k c               the number of c bytes of s from place k on, low byte first
--   row_word s               the row of a row record
--   progress, begun          the table so far and the rows given; before the first record
--   all_given, unavailable   whether all rows were given, and whether a row number is none or was given
--   ended, unknown, cut, misplaced, sizes_out, misnumbered, too_long, missing, followed   the tests of 1 to 9
--   fault g s                the first of 1 to 9 that applies, or 0
--   faults, fault_of k       the nine, in order; the one of this number
--   fault_number f           01's number of a fault, 1 to 9
--   header k l n             the first of 1 to 4, of a record of kind k that has l bytes to the end, with n symbols so far
--   kind_number k, kind_of k a kind's number; the kind of this number
--   checked k x              x, or where k is not 0 the fault k
--   place k p                the place of refusal k at a record that begins at p
--   sized, rowed, after      the progress after a sizes record, after a row record, and after either
--   Parse                    refused, with number and place, or a table
--   parse_from, parse_at     what the bytes from a place on say
--   parse bytes              what bytes say
--   ParseStep                the same, record by record
use Rattle.std.specs.Prelude.{◌≡◌, Bool, true, false, cond, not, ◌&&◌, ◌||◌, List, [], ◌∷◌, ℕ, zero, suc, ◌+◌, ◌-◌, ◌*◌}
use Rattle.std.specs.Prelude.{◌^◌, leb, ltb, eqb, length, get_or, drop, set, replicate, Result, Ok, Err}
use Rattle.tables.specs.declared.table.Table.{Table}
use Rattle.tables.specs.declared.read.Progress.{Progress}
use Rattle.tables.specs.declared.read.Kind.{Kind}
use Rattle.tables.specs.declared.read.Kind.TheVariants.{End, Sizes, Row}
use Rattle.tables.specs.declared.read.Fault.{Fault}
use Rattle.tables.specs.declared.read.Fault.TheVariants.{Ended, Unknown, Cut, Misplaced, SizesOut, Misnumbered, TooLong}
use Rattle.tables.specs.declared.read.Fault.TheVariants.{Missing, Followed}
use Rattle.tables.specs.Table.{table, zero_table, sizes_fit}
use Rattle.tables.specs.Refusal.{first_of}

-- "One byte of kind, then a body whose length the kind fixes. Kind 1, sizes: three bytes n, N, m. Kind 2, row: one byte
-- j, then eight bytes of the row, low byte first. Kind 0, end: no body."
abbrev pub kind : List ℕ → ℕ
kind s = get_or s 0 0

unfoldable pub size : ℕ → ℕ
size k = cond (eqb k 0) 1 (cond (eqb k 1) 4 10)

unfoldable pub word : List ℕ → ℕ → ℕ → ℕ
word s k zero = 0
word s k (suc c) = get_or s k 0 + 256 * word s (suc k) c

abbrev pub row_word : List ℕ → ℕ
row_word s = word s 2 8

-- the table so far, which has no symbols before the sizes were read, and which rows were given, row j at j − 1
abbrev pub progress : Table → List Bool → Progress
progress t given = record { table = t; given = given }

abbrev pub begun : Progress
begun = progress zero_table (replicate 15 false)

-- rows 1 to c were given
unfoldable pub all_given : List Bool → ℕ → Bool
all_given given zero = true
all_given given (suc c) = all_given given c && get_or given c false

-- 1. "The bytes end where a kind byte is due."
abbrev pub ended : List ℕ → Bool
ended s = eqb (length s) 0

-- 2. "The kind is not 0, 1 or 2."
abbrev pub unknown : List ℕ → Bool
unknown s = ltb 2 (kind s)

-- 3. "The body is cut short."
abbrev pub cut : List ℕ → Bool
cut s = ltb (length s) (size (kind s))

-- 4. "Sizes are not the first record, or come again."
abbrev pub misplaced : Progress → List ℕ → Bool
misplaced g s = cond (eqb (kind s) 1) (not (eqb g.table.symbols 0)) (eqb g.table.symbols 0)

-- 5. "n, N or m is out of range."
abbrev pub sizes_out : List ℕ → Bool
sizes_out s = eqb (kind s) 1 && not (sizes_fit (get_or s 1 0) (get_or s 2 0) (get_or s 3 0))

-- 6. "The row number is not 1 to n − 1, or was given."
unfoldable pub unavailable : Progress → ℕ → Bool
unavailable g j = not (leb 1 j && ltb j g.table.symbols) || get_or g.given (j - 1) false

abbrev pub misnumbered : Progress → List ℕ → Bool
misnumbered g s = eqb (kind s) 2 && unavailable g (get_or s 1 0)

-- 7. "The row has a one at bit N or above."
abbrev pub too_long : Progress → List ℕ → Bool
too_long g s = eqb (kind s) 2 && leb (2 ^ g.table.span) (row_word s)

-- 8. "The end comes before every row was given."
abbrev pub missing : Progress → List ℕ → Bool
missing g s = eqb (kind s) 0 && not (all_given g.given (g.table.symbols - 1))

-- 9. "Bytes follow the end (place: the first of them)."
abbrev pub followed : List ℕ → Bool
followed s = eqb (kind s) 0 && ltb 1 (length s)

-- "the first that applies"
unfoldable pub fault : Progress → List ℕ → ℕ
fault g s =
    first_of 1 (ended s ∷ unknown s ∷ cut s ∷ misplaced g s ∷ sizes_out s ∷ misnumbered g s ∷ too_long g s ∷ missing g s
    ∷ followed s ∷ [])

abbrev pub faults : List Fault
faults =
    Ended ∷ Unknown ∷ Cut ∷ Misplaced ∷ SizesOut ∷ Misnumbered ∷ TooLong ∷ Missing ∷ Followed ∷ []

unfoldable pub fault_of : ℕ → Fault
fault_of k = get_or faults (k - 1) Followed

abbrev pub fault_number : Fault → ℕ
fault_number Ended = 1
fault_number Unknown = 2
fault_number Cut = 3
fault_number Misplaced = 4
fault_number SizesOut = 5
fault_number Misnumbered = 6
fault_number TooLong = 7
fault_number Missing = 8
fault_number Followed = 9

abbrev pub header : ℕ → ℕ → ℕ → ℕ
header k l n =
    cond (eqb l 0) 1 (cond (ltb 2 k) 2 (cond (ltb l (size k)) 3 (cond (cond (eqb k 1) (not (eqb n 0)) (eqb n 0)) 4 0)))

abbrev pub kind_number : Kind → ℕ
kind_number End = 0
kind_number Sizes = 1
kind_number Row = 2

unfoldable pub kind_of : ℕ → Kind
kind_of k = cond (eqb k 0) End (cond (eqb k 1) Sizes Row)

abbrev pub checked : {A : Type 0} → ℕ → A → Result A Fault
checked k x = cond (eqb k 0) (Ok x) (Err (fault_of k))

-- "place is the record's first byte"; of 9 it is the first byte after the end, a record of one byte
unfoldable pub place : ℕ → ℕ → ℕ
place k p = cond (eqb k 9) (p + 1) p

unfoldable pub sized : Progress → List ℕ → Progress
sized g s = progress (table (get_or s 1 0) (get_or s 2 0) (get_or s 3 0) g.table.rows) g.given

unfoldable pub rowed : Progress → List ℕ → Progress
rowed g s =
    let t = g.table in
    let i = get_or s 1 0 - 1 in
    progress (table t.symbols t.span t.depth (set t.rows i (row_word s))) (set g.given i true)

unfoldable pub after : Progress → List ℕ → Progress
after g s = cond (eqb (kind s) 1) (sized g s) (rowed g s)

pub data Parse : Type 0 where
  refused : ℕ → ℕ → Parse
  parsed : Table → Parse

-- "Reading a table, records left to right": p is the place of the next record, s the bytes from there on. A record has
-- at least one byte, so `left`, which is at least their number, bounds the records to come.
unfoldable pub parse_from : ℕ → ℕ → Progress → List ℕ → Parse
parse_from zero p g s = refused 1 p
parse_from (suc left) p g s =
    let k = fault g s in
    let n = size (kind s) in
    let next = parse_from left (p + n) (after g s) (drop n s) in
    cond (eqb k 0) (cond (eqb (kind s) 0) (parsed g.table) next) (refused k (place k p))

abbrev pub parse_at : ℕ → Progress → List ℕ → Parse
parse_at p g s = parse_from (length s) p g s

unfoldable pub parse : List ℕ → Parse
parse bytes = parse_at 0 begun bytes

-- The bound makes no difference: a record that 1 to 9 refuse ends the reading, an end record ends it with the table,
-- and after any other the bytes that follow it are read.
abbrev pub ParseStep : Type 0
ParseStep =
    (p : ℕ) (g : Progress) (s : List ℕ) →
    let k = fault g s in
    let n = size (kind s) in
    parse_at p g s
    ≡ cond (eqb k 0) (cond (eqb (kind s) 0) (parsed g.table) (parse_at (p + n) (after g s) (drop n s)))
    (refused k (place k p))
