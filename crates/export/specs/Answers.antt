-- The struct of numbers of an answer, made of the papers' numbers, which the crates below name: `read_numbers`,
-- `write_numbers`, `made_numbers`, `load_numbers` and `call_numbers`. What does not apply is 0.
--
--   number_of ns    the refusal's number, or 0
--   coded_of ns     of a coder's step: number, block
--   decoded_of ns   of a decoder's step: number, information, the mark's number, e or 0
--   iwadare_decoded_of ns   of that of the Iwadare-Massey stations: number, 1 if a block is delivered, its information
--   reading_of ns   of reading: number; the place of refusals 1 to 9; l, e0 and e1 of 10
--   written_of ns   of writing: number; how many bytes were written; l, e0 and e1 of 10
--   MarkRange       a mark's number is at most 5
use Rattle.link.specs.Refusals.{Answer}
use Rattle.link.specs.declared.decode.Delivered.{Delivered}
use Rattle.std.specs.Prelude.{Option, List, [], ◌∷◌, ℕ, ◌≤◌, get_or}
use Rattle.link.specs.Decoder.{decode_numbers}
use Rattle.export.specs.declared.reading.BurstReading.{BurstReading}
use Rattle.export.specs.declared.written.BurstWritten.{BurstWritten}
use Rattle.export.specs.declared.coded.BurstCoded.{BurstCoded}
use Rattle.export.specs.declared.decoded.BurstDecoded.{BurstDecoded}
use Rattle.export.specs.declared.iwadare_decoded.BurstIwadareDecoded.{BurstIwadareDecoded}

abbrev pub number_of : List ℕ → ℕ
number_of ns = get_or ns 0 0

abbrev pub coded_of : List ℕ → BurstCoded
coded_of ns = record { refused = number_of ns; block = get_or ns 1 0 }

abbrev pub decoded_of : List ℕ → BurstDecoded
decoded_of ns = record { refused = number_of ns; info = get_or ns 1 0; mark = get_or ns 2 0; error = get_or ns 3 0 }

abbrev pub iwadare_decoded_of : List ℕ → BurstIwadareDecoded
iwadare_decoded_of ns = record { refused = number_of ns; delivered = get_or ns 1 0; info = get_or ns 2 0 }

-- "A refusal returns its number, with place or pair as said": a number and a place, or 10 and the triple "instead of a
-- place"
abbrev pub reading_of : List ℕ → BurstReading
reading_of [] = record { refused = 0; place = 0; l = 0; e0 = 0; e1 = 0 }
reading_of (k ∷ []) = record { refused = k; place = 0; l = 0; e0 = 0; e1 = 0 }
reading_of (k ∷ p ∷ []) = record { refused = k; place = p; l = 0; e0 = 0; e1 = 0 }
reading_of (k ∷ l ∷ e0 ∷ []) = record { refused = k; place = 0; l = l; e0 = e0; e1 = 0 }
reading_of (k ∷ l ∷ e0 ∷ e1 ∷ ns) = record { refused = k; place = 0; l = l; e0 = e0; e1 = e1 }

-- the same with a count of bytes for the place: 0 and the count, 10 and the triple, or the number of another refusal
abbrev pub written_of : List ℕ → BurstWritten
written_of ns =
    let r = reading_of ns in
    record { refused = r.refused; length = r.place; l = r.l; e0 = r.e0; e1 = r.e1 }

-- 0 to 5, as CR 1 and CR 4 of 02 number them; the numbers of refusals have `RefusedCalls`
abbrev pub MarkRange : Type 0
MarkRange = (a : Answer (Option Delivered)) → (decoded_of (decode_numbers a)).mark ≤ 5
