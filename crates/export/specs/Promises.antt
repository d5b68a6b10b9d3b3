-- What the functions that C calls promise, of the table t that the 18 numbers are: the numbers of 01 and 02, one alone
-- or some in a struct, and every lent word, byte or block.
--
--   Reads bytes r before after   `burst_read`: it answers r, and leaves `after` of the numbers lent for the table
--   WritesBy t before r after   `burst_write`, on the lent bytes
--   MakesTable n m before r after   `burst_make`
--   StartsBy t words before r after   `burst_start_coder` and `burst_start_decoder`
--   CodesBy t before info r after   `burst_code`
--   DecodesBy t before received r after   `burst_decode`
--   LoadsBy t seed before r after   `burst_load`, on the lent blocks
--
-- And of the Iwadare-Massey stations, which have no table:
--
--   IwadareStartsBy words before r after   `burst_iwadare_start_coder` and `burst_iwadare_start_decoder`
--   IwadareCodesBy before info r after   `burst_iwadare_code`
--   IwadareDecodesBy before received r after   `burst_iwadare_decode`
--
-- What `burst_code_batch` and `burst_decode_batch` promise is `Fills` of `link`.
use Rattle.std.specs.Prelude.{◌≡◌, List, [], ◌∷◌, ℕ, length}
use Rattle.tables.specs.declared.table.Table.{Table}
use Rattle.tables.specs.Reading.{read_numbers, reading}
use Rattle.tables.specs.Writing.{write_numbers, write_answer, write_buffer}
use Rattle.tables.specs.Made.{making, made_numbers}
use Rattle.link.specs.Memory.{started}
use Rattle.link.specs.Refusals.{start_fault, coder_fault, decoder_fault, leaves, call_numbers}
use Rattle.link.specs.Start.{start_memory, length_fault}
use Rattle.link.specs.Coder.{coded_block, code_memory}
use Rattle.link.specs.Decoder.{decode_values, decode_memory}
use Rattle.load.specs.Filling.{load_fault, load_blocks}
use Rattle.iwadare.specs.Refusals as refusals
use Rattle.iwadare.specs.Coder as coder
use Rattle.iwadare.specs.Decoder as decoder
use Rattle.export.specs.declared.reading.BurstReading.{BurstReading}
use Rattle.export.specs.declared.written.BurstWritten.{BurstWritten}
use Rattle.export.specs.declared.coded.BurstCoded.{BurstCoded}
use Rattle.export.specs.declared.decoded.BurstDecoded.{BurstDecoded}
use Rattle.export.specs.declared.iwadare_decoded.BurstIwadareDecoded.{BurstIwadareDecoded}
use Rattle.export.specs.Numbers.{given_back}
use Rattle.export.specs.Answers.{number_of, reading_of, written_of, coded_of, decoded_of, iwadare_decoded_of}

pub record Reads (bytes : List ℕ) (r : BurstReading) (before after : List ℕ) : Type 0 where
  pub answer : r ≡ reading_of (read_numbers (reading bytes))
  pub table : after ≡ given_back (reading bytes) before

pub record WritesBy (t : Table) (before : List ℕ) (r : BurstWritten) (after : List ℕ) : Type 0 where
  pub answer : r ≡ written_of (write_numbers (write_answer t (length before)))
  pub buffer : after ≡ write_buffer (write_answer t (length before)) t before

pub record MakesTable (n m : ℕ) (before : List ℕ) (r : ℕ) (after : List ℕ) : Type 0 where
  pub number : r ≡ number_of (made_numbers (making n m))
  pub table : after ≡ given_back (making n m) before

pub record StartsBy (t : Table) (words : ℕ) (before : List ℕ) (r : ℕ) (after : List ℕ) : Type 0 where
  pub number : r ≡ number_of (call_numbers (start_fault t words before) [])
  pub memory : after ≡ start_memory t words before

pub record CodesBy (t : Table) (before : List ℕ) (info : ℕ) (r : BurstCoded) (after : List ℕ) : Type 0 where
  pub answer : r ≡ coded_of (call_numbers (coder_fault t before info) (coded_block t before info ∷ []))
  pub memory : after ≡ code_memory t before info

pub record DecodesBy (t : Table) (before : List ℕ) (received : ℕ) (r : BurstDecoded) (after : List ℕ) : Type 0 where
  pub answer : r ≡ decoded_of (call_numbers (decoder_fault t before received) (decode_values t before received))
  pub memory : after ≡ decode_memory t before received

pub record LoadsBy (t : Table) (seed : ℕ) (before : List ℕ) (r : ℕ) (after : List ℕ) : Type 0 where
  pub number : r ≡ number_of (call_numbers (load_fault t seed) [])
  pub blocks : after ≡ load_blocks t seed before

-- ---- the Iwadare-Massey stations: `refusals`, `coder` and `decoder` are those of `iwadare`

pub record IwadareStartsBy (words : ℕ) (before : List ℕ) (r : ℕ) (after : List ℕ) : Type 0 where
  pub number : r ≡ number_of (call_numbers (length_fault words before) [])
  pub memory : after ≡ leaves (length_fault words before) (started words) before

pub record IwadareCodesBy (before : List ℕ) (info : ℕ) (r : BurstCoded) (after : List ℕ) : Type 0 where
  pub answer : r ≡ coded_of (call_numbers (refusals.coder_fault before info) (coder.coded_block before info ∷ []))
  pub memory : after ≡ coder.code_memory before info

pub record IwadareDecodesBy (before : List ℕ) (received : ℕ) (r : BurstIwadareDecoded) (after : List ℕ) : Type 0 where
  pub answer : r
      ≡ iwadare_decoded_of (call_numbers (refusals.decoder_fault before received) (decoder.decode_values before received))
  pub memory : after ≡ decoder.decode_memory before received
