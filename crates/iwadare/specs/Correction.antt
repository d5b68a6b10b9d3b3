-- 02, CR 6: "With coder and decoder started, wrong bits that lie in 9 consecutive bits, with 56 right bits between such
-- runs, are all corrected in the information." One claim about the whole lists of steps, refused ones anywhere in them.
-- Bursts are those of 01, "After a fade" (`Bursts` of `link`), of bits in place of blocks.
--
--   WrongBit sent taken q     bit q was taken otherwise than it was sent
--   BitBursts long gap sent taken   wrong bits lie in bursts of at most `long` bits, at least `gap` right ones between
--   Corrected sent taken p     the step at place p delivers the information that was sent 18 places before
--   CorrectionWith long gap   the claim, with these numbers
--   IwadareCorrection         02's: 9 and 56
--   IwadareCorrectionTen      more than 02 and 001 say: 10 and 56
use Rattle.std.specs.Prelude.{◌≡◌, ◌≢◌, List, ℕ, ◌-◌, ◌*◌, ◌≤◌, ◌<◌, length, Some, Ok}
use Rattle.link.specs.Memory.{started}
use Rattle.link.specs.Recovery.{Bursts}
use Rattle.iwadare.specs.Memory.{coder_words, decoder_words, delay}
use Rattle.iwadare.specs.Runs.{Sent, Taken, sent_by, taken_by, sent_at, taken_at, bit_sent, bit_taken}

abbrev pub WrongBit : List Sent → List Taken → ℕ → Type 0
WrongBit sent taken q = bit_taken taken q ≢ bit_sent sent q

-- from the first bit that is taken to the last: three for a block
abbrev pub BitBursts : ℕ → ℕ → List Sent → List Taken → Type 0
BitBursts long gap sent taken = Bursts (WrongBit sent taken) long gap (3 * length taken)

-- "when the eighteenth block after it is taken": the information sent 18 blocks back
abbrev pub Corrected : List Sent → List Taken → ℕ → Type 0
Corrected sent taken p = (taken_at taken p).answer ≡ Ok (Some (sent_at sent (p - delay)).info)

-- at least as many blocks are sent as taken; each step past the eighteenth that takes a block answers with the
-- information sent 18 blocks before
abbrev pub CorrectionWith : ℕ → ℕ → Type 0
CorrectionWith long gap =
    (bs rs : List ℕ) →
    let sent = sent_by (started coder_words) bs in
    let taken = taken_by (started decoder_words) rs in
    length taken ≤ length sent → BitBursts long gap sent taken
    → (p : ℕ) → delay < p → p ≤ length taken → Corrected sent taken p

abbrev pub IwadareCorrection : Type 0
IwadareCorrection = CorrectionWith 9 56

abbrev pub IwadareCorrectionTen : Type 0
IwadareCorrectionTen = CorrectionWith 10 56
