-- What the numbers tell a caller, of the promises in `Promises`.
--
--   ReadToldLaw    reading: number 0 says that the bytes say a suitable table, which is given back; any other, that no
--                  number was written, and the place, or the triple, is the refusal's; the triple is the first
--   ReadTold       what a reading tells
--   WriteToldLaw   writing: number 0 says that the table is fit and suitable, and its bytes were written; any other is
--                  the first of 12, 10 and 16 that applies, and nothing was written
--   WriteTold      what a writing tells
--   StoredBack     what was written, read, gives the same n, N, m and rows 1 to n − 1, and zeros for the other rows
--   MadeTold       making: number 0 says that n and m are in range, and our suitable table is given back; any other is
--                  11, and no number was written
--   StartTold      a start: number 0 says that every word is 0; any other is the first of 12 and 13 that applies, and no
--                  word was written
--   CodeTold, DecodeTold   a step: number 0 comes with the values of the step, any other, the first of 12 to 15 that
--                  applies, with zeros, and then no word was written
--   LoadTold       filling a load: number 0 says that the lent blocks are the load; any other is the first of 12 and 17
--                  that applies, and no block was written
--   IwadareStartTold, IwadareCodeTold, IwadareDecodeTold   starts and steps of the Iwadare-Massey stations: the
--                  same, where 13 is the first number
use Rattle.std.specs.Prelude.{◌≡◌, true, false, cond, ◌≢◌, List, [], ◌∷◌, ◌++◌, ℕ, ◌-◌, ◌*◌, ◌≤◌, ◌<◌, length, get_or}
use Rattle.std.specs.Prelude.{take, drop, Ok}
use Rattle.tables.specs.declared.table.Table.{Table}
use Rattle.tables.specs.Code.{Suitable}
use Rattle.tables.specs.Clash.{First}
use Rattle.tables.specs.Table.{rows_of, sizes_fit, fit, Whole, SameTable}
use Rattle.tables.specs.Format.{parse, refused, parsed}
use Rattle.tables.specs.Writing.{written, written_length}
use Rattle.tables.specs.Made.{columns, triangle_rows, making}
use Rattle.link.specs.Memory.{started}
use Rattle.link.specs.Refusals.{start_fault, coder_fault, decoder_fault}
use Rattle.link.specs.Start.{length_fault}
use Rattle.link.specs.Coder.{coded_block, coder_next}
use Rattle.link.specs.Decoder.{decode_values, decoder_next}
use Rattle.load.specs.Load.{load_of}
use Rattle.load.specs.Filling.{load_fault}
use Rattle.iwadare.specs.Refusals as refusals
use Rattle.iwadare.specs.Coder as coder
use Rattle.iwadare.specs.Decoder as decoder
use Rattle.export.specs.declared.reading.BurstReading.{BurstReading}
use Rattle.export.specs.declared.written.BurstWritten.{BurstWritten}
use Rattle.export.specs.declared.coded.BurstCoded.{BurstCoded}
use Rattle.export.specs.declared.decoded.BurstDecoded.{BurstDecoded}
use Rattle.export.specs.declared.iwadare_decoded.BurstIwadareDecoded.{BurstIwadareDecoded}
use Rattle.export.specs.Numbers.{table_of, numbers_of}
use Rattle.export.specs.Answers.{reading_of, written_of, coded_of, decoded_of, iwadare_decoded_of}
use Rattle.export.specs.Promises.{Reads, WritesBy, MakesTable, StartsBy, CodesBy, DecodesBy, LoadsBy}
use Rattle.export.specs.Promises.{IwadareStartsBy, IwadareCodesBy, IwadareDecodesBy}

-- what reading answers, r, and what it leaves of the numbers lent for the table; `Whole`: the table is fit, and its
-- rows past n − 1 are 0
pub record ReadTold (bytes : List ℕ) (r : BurstReading) (before after : List ℕ) : Type 0 where
  pub accepted : r.refused ≡ 0
      → (t : Table) × (parse bytes ≡ parsed t) × Suitable t.span (rows_of t) × Whole t × (after ≡ numbers_of t)
      × (r ≡ reading_of (0 ∷ []))
  pub left : r.refused ≢ 0 → after ≡ before
  pub placed : r.refused ≢ 0 → r.refused ≢ 10
      → (parse bytes ≡ refused r.refused r.place) × (r ≡ reading_of (r.refused ∷ r.place ∷ []))
  pub clashes : r.refused ≡ 10
      → (t : Table) × (parse bytes ≡ parsed t) × First t.span (rows_of t) r.l r.e0 r.e1
      × (r ≡ reading_of (10 ∷ r.l ∷ r.e0 ∷ r.e1 ∷ []))

-- of any bytes, which are numbers below 256
abbrev pub ReadToldLaw : Type 0
ReadToldLaw =
    (bytes : List ℕ) (r : BurstReading) (before after : List ℕ) → ((i : ℕ) → get_or bytes i 0 < 256)
    → Reads bytes r before after
    → ReadTold bytes r before after

-- what writing answers, r, and what it leaves of the lent bytes
pub record WriteTold (t : Table) (before : List ℕ) (r : BurstWritten) (after : List ℕ) : Type 0 where
  pub done : r.refused ≡ 0
      → (fit t ≡ true) × Suitable t.span (rows_of t) × (written_length t ≤ length before)
      × (after ≡ written t ++ drop (written_length t) before) × (r ≡ written_of (0 ∷ written_length t ∷ []))
  pub left : r.refused ≢ 0 → after ≡ before
  pub unfit : r.refused ≡ 12 → (fit t ≡ false) × (r ≡ written_of (12 ∷ []))
  pub clashes : r.refused ≡ 10
      → (fit t ≡ true) × First t.span (rows_of t) r.l r.e0 r.e1
      × (r ≡ written_of (10 ∷ r.l ∷ r.e0 ∷ r.e1 ∷ []))
  pub short : r.refused ≢ 0 → r.refused ≢ 12 → r.refused ≢ 10
      → (fit t ≡ true) × Suitable t.span (rows_of t) × (length before < written_length t) × (r ≡ written_of (16 ∷ []))

abbrev pub WriteToldLaw : Type 0
WriteToldLaw =
    (t : Table) (before : List ℕ) (r : BurstWritten) (after : List ℕ) → WritesBy t before r after
    → WriteTold t before r after

-- `burst_read` of what `burst_write` wrote: `ns` are the 18 numbers that were handed in, `new` those that come back
abbrev pub StoredBack : Type 0
StoredBack =
    (ns before after old new : List ℕ) (w : BurstWritten) (r : BurstReading) → length ns ≡ 18
    → WritesBy (table_of ns) before w after → w.refused ≡ 0 → Reads (take w.length after) r old new
    → (r.refused ≡ 0) × SameTable (table_of new) (table_of ns) × Whole (table_of new)

abbrev pub MadeTold : Type 0
MadeTold =
    (n m : ℕ) (before : List ℕ) (r : ℕ) (after : List ℕ) → MakesTable n m before r after
    → (r ≡ cond (sizes_fit n 2 m) 0 11)
    × (r ≡ 0
    → (t : Table) × (making n m ≡ Ok t) × (t.symbols ≡ n) × (t.span ≡ 2 * n) × (t.depth ≡ m) × Suitable t.span (rows_of t)
    × (rows_of t ≡ triangle_rows (take (n - 1) columns) n)
    × Whole t × (after ≡ numbers_of t))
    × (r ≢ 0 → after ≡ before)

abbrev pub StartTold : Type 0
StartTold =
    (t : Table) (words : ℕ) (before : List ℕ) (r : ℕ) (after : List ℕ) → StartsBy t words before r after
    → (r ≡ start_fault t words before) × (r ≢ 0 → after ≡ before) × (r ≡ 0 → after ≡ started words)

abbrev pub CodeTold : Type 0
CodeTold =
    (t : Table) (before : List ℕ) (info : ℕ) (r : BurstCoded) (after : List ℕ) → CodesBy t before info r after
    → (r.refused ≡ coder_fault t before info)
    × (r.refused ≢ 0 → (r ≡ coded_of (r.refused ∷ 0 ∷ [])) × (after ≡ before))
    × (r.refused ≡ 0 → (r ≡ coded_of (0 ∷ coded_block t before info ∷ [])) × (after ≡ coder_next t before info))

abbrev pub DecodeTold : Type 0
DecodeTold =
    (t : Table) (before : List ℕ) (received : ℕ) (r : BurstDecoded) (after : List ℕ)
    → DecodesBy t before received r after
    → (r.refused ≡ decoder_fault t before received)
    × (r.refused ≢ 0 → (r ≡ decoded_of (r.refused ∷ 0 ∷ 0 ∷ 0 ∷ [])) × (after ≡ before))
    × (r.refused ≡ 0 → (r ≡ decoded_of (0 ∷ decode_values t before received)) × (after ≡ decoder_next t before received))

abbrev pub LoadTold : Type 0
LoadTold =
    (t : Table) (seed : ℕ) (before : List ℕ) (r : ℕ) (after : List ℕ) → LoadsBy t seed before r after
    → (r ≡ load_fault t seed) × (r ≢ 0 → after ≡ before) × (r ≡ 0 → after ≡ load_of t seed (length before))

-- ---- the Iwadare-Massey stations: `refusals`, `coder` and `decoder` are those of `iwadare`

abbrev pub IwadareStartTold : Type 0
IwadareStartTold =
    (words : ℕ) (before : List ℕ) (r : ℕ) (after : List ℕ) → IwadareStartsBy words before r after
    → (r ≡ length_fault words before) × (r ≢ 0 → after ≡ before) × (r ≡ 0 → after ≡ started words)

abbrev pub IwadareCodeTold : Type 0
IwadareCodeTold =
    (before : List ℕ) (info : ℕ) (r : BurstCoded) (after : List ℕ) → IwadareCodesBy before info r after
    → (r.refused ≡ refusals.coder_fault before info)
    × (r.refused ≢ 0 → (r ≡ coded_of (r.refused ∷ 0 ∷ [])) × (after ≡ before))
    × (r.refused ≡ 0 → (r ≡ coded_of (0 ∷ coder.coded_block before info ∷ [])) × (after ≡ coder.coder_next before info))

abbrev pub IwadareDecodeTold : Type 0
IwadareDecodeTold =
    (before : List ℕ) (received : ℕ) (r : BurstIwadareDecoded) (after : List ℕ)
    → IwadareDecodesBy before received r after
    → (r.refused ≡ refusals.decoder_fault before received)
    × (r.refused ≢ 0 → (r ≡ iwadare_decoded_of (r.refused ∷ 0 ∷ 0 ∷ [])) × (after ≡ before))
    × (r.refused ≡ 0 → (r ≡ iwadare_decoded_of (0 ∷ decoder.decode_values before received))
    × (after ≡ decoder.decoder_next before received))
