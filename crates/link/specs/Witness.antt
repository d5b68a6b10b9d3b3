-- Recovery is not vacuous: one run that meets every premise, of the made table for n = 2 with m = 2 (N = 4; m × (N − 1)
-- is 6). Neither memory was started, coder and decoder have different turns, steps are refused for 12, 13, 14 and 15,
-- some are handed a table with another row past row n − 1, and two bursts of two blocks come, six right blocks between
-- them.
--
--   made              the table
--   alike             the same table, with another row past row n − 1
--   shorter, longer   tables that ask for as many words, of which 14 refuses some
--   coder_memory, decoder_memory   the memories that the run begins with
--   coder_calls, decoder_calls     what is handed over, to steps that are refused too
--   WitnessLaw        every premise of recovery holds of it, which places are wrong, and which steps are refused
--   GuardEndWitness   what the last m calls of its guard answer
use Rattle.std.specs.Prelude.{◌≡◌, List, [], ◌∷◌, ◌++◌, ℕ, replicate}
use Rattle.tables.specs.declared.table.Table.{Table}
use Rattle.tables.specs.Table.{zero_table}
use Rattle.link.specs.declared.decode.Mark.TheVariants.{Parity}
use Rattle.link.specs.Refusals.{coder_fault, decoder_fault}
use Rattle.link.specs.Coder.{code_memory}
use Rattle.link.specs.Decoder.{decode_memory}
use Rattle.link.specs.Runs.{Call, sent_by, taken_by, taken_at}
use Rattle.link.specs.Recovery.{Fades}
use Rattle.link.specs.Computed.{table_with, Z, calls, answers_by, sent_blocks, taken_blocks, delivers, differing}

-- that it is made is the first of the premises
abbrev pub made : Table
made = Z 2

abbrev pub alike : Table
alike = table_with 2 4 2 (10 ∷ 7 ∷ [])

-- N = 2 asks for as many coder's words, each below 2; N = 9 and m = 1 for as many decoder's words, and a turn of 0
abbrev pub shorter : Table
shorter = table_with 2 2 2 (2 ∷ [])

abbrev pub longer : Table
longer = table_with 2 9 1 (2 ∷ [])

-- turn 1, and the pending words of two streams
abbrev pub coder_memory : List ℕ
coder_memory = 1 ∷ 5 ∷ 3 ∷ []

-- turn 0 and fill 4; pending word, syndrome word and delayed blocks of two streams
abbrev pub decoder_memory : List ℕ
decoder_memory = 0 ∷ 4 ∷ 6 ∷ 3 ∷ 1 ∷ 0 ∷ 1 ∷ 2 ∷ 7 ∷ 0 ∷ 1 ∷ 1 ∷ []

-- 30 blocks are sent
abbrev pub coder_calls : List Call
coder_calls =
    calls made (1 ∷ 0 ∷ 1 ∷ 1 ∷ []) ++ calls made (2 ∷ []) ++ calls alike (1 ∷ 1 ∷ 1 ∷ 0 ∷ [])
    ++ calls zero_table (0 ∷ [])
    ++ calls made (1 ∷ 1 ∷ 1 ∷ 0 ∷ 0 ∷ 1 ∷ 0 ∷ 1 ∷ 1 ∷ 0 ∷ 0 ∷ 1 ∷ []) ++ calls (Z 1) (1 ∷ []) ++ calls shorter (1 ∷ [])
    ++ calls made (1 ∷ 0 ∷ 1 ∷ 0 ∷ 0 ∷ 1 ∷ 1 ∷ 1 ∷ 0 ∷ 1 ∷ [])

-- 28 blocks are taken
abbrev pub decoder_calls : List Call
decoder_calls =
    calls (Z 1) (0 ∷ []) ++ calls made (3 ∷ 2 ∷ 1 ∷ 1 ∷ 3 ∷ 1 ∷ 1 ∷ 2 ∷ 1 ∷ 3 ∷ 1 ∷ 0 ∷ 3 ∷ []) ++ calls made (4 ∷ [])
    ++ calls longer (0 ∷ [])
    ++ calls alike (0 ∷ 2 ∷ 1 ∷ 3 ∷ []) ++ calls zero_table (1 ∷ [])
    ++ calls made (2 ∷ 2 ∷ 3 ∷ 3 ∷ 3 ∷ 1 ∷ 0 ∷ 2 ∷ 3 ∷ 3 ∷ 3 ∷ [])

-- every premise of recovery holds of it; places 13, 14, 21 and 22 are wrong; and its refused steps are refused for 12
-- to 15
abbrev pub WitnessLaw : Type 0
WitnessLaw =
    Fades made coder_memory decoder_memory coder_calls decoder_calls
    × (differing 1 (taken_blocks (taken_by decoder_memory decoder_calls)) (sent_blocks (sent_by coder_memory coder_calls))
    ≡ 13 ∷ 14 ∷ 21 ∷ 22 ∷ [])
    × (answers_by coder_fault code_memory coder_memory coder_calls
    ≡ replicate 4 0 ++ (15 ∷ replicate 4 0) ++ (12 ∷ replicate 12 0) ++ (13 ∷ 14 ∷ replicate 10 0))
    × (answers_by decoder_fault decode_memory decoder_memory decoder_calls
    ≡ (13 ∷ replicate 13 0) ++ (15 ∷ 14 ∷ replicate 4 0) ++ (12 ∷ replicate 11 0))

-- `GuardEnd` is not vacuous either: places 11 and 12 are the last m of the guard of the same run, one of each stream,
-- and answer the information of blocks 5 and 6, marked parity.
abbrev pub GuardEndWitness : Type 0
GuardEndWitness =
    let taken = taken_by decoder_memory decoder_calls in
    ((taken_at taken 11).answer ≡ delivers 1 (Parity 2)) × ((taken_at taken 12).answer ≡ delivers 1 (Parity 2))
