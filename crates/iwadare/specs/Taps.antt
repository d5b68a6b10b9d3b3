-- 02, CR 6: "The generators are D^7 + D^18 for symbol 0 and D^3 + D^15 for symbol 1", over runs from started memories:
-- 001, Example 21.4. Places count from 0 here, as blocks do there.
--
--   taps x b                what the generators take of the blocks x at block b
--   info_sent, block_sent, block_taken   information and block sent at a place, and block taken
--   raw_at s rs b           the raw term of the step there
--   IwadareParity           the parity of a coded block
--   IwadareSyndrome         the raw terms, whatever was received
--   IwadareSyndromeErrors   they depend on the errors only: 001, (21.22a)
use Rattle.std.specs.Prelude.{◌≡◌, Bool, false, List, ℕ, suc, ◌≤◌, ◌<◌, length, get_or}
use Rattle.std.specs.Bool.{xor}
use Rattle.span.specs.Word.{◌⊕◌, bit}
use Rattle.link.specs.Memory.{started}
use Rattle.link.specs.Step.{information, parity}
use Rattle.link.specs.Runs.{run, placed}
use Rattle.link.specs.Massey.{ago}
use Rattle.iwadare.specs.Memory.{coder_words, decoder_words}
use Rattle.iwadare.specs.Refusals.{decoder_fault}
use Rattle.iwadare.specs.Decoder.{raw_of, decode_memory}
use Rattle.iwadare.specs.Runs.{Sent, Taken, handed, sent_by, taken_by, sent_at, taken_at}

-- symbol 0 of the blocks 7 and 18 back, and symbol 1 of those 3 and 15 back; blocks before the start are zero
unfoldable pub taps : (ℕ → ℕ) → ℕ → Bool
taps x b = xor (xor (bit 0 (ago x b 7)) (bit 0 (ago x b 18))) (xor (bit 1 (ago x b 3)) (bit 1 (ago x b 15)))

abbrev pub info_sent : List Sent → ℕ → ℕ
info_sent xs b = (sent_at xs (suc b)).info

abbrev pub block_sent : List Sent → ℕ → ℕ
block_sent xs b = (sent_at xs (suc b)).block

abbrev pub block_taken : List Taken → ℕ → ℕ
block_taken xs b = (taken_at xs (suc b)).block

abbrev pub raw_at : List ℕ → List ℕ → ℕ → Bool
raw_at s rs b = get_or (run (λ none. decode_memory) (placed (λ none. decoder_fault) (λ none. raw_of)) s (handed rs)) b false

abbrev pub IwadareParity : Type 0
IwadareParity =
    (bs : List ℕ) →
    let sent = sent_by (started coder_words) bs in
    (b : ℕ) → b < length sent
    → (parity 3 (block_sent sent b) ≡ taps (info_sent sent) b) × (information 3 (block_sent sent b) ≡ info_sent sent b)

-- "Raw terms are formed as for our own codes": the parity of the received information, exclusive or the received
-- parity
abbrev pub IwadareSyndrome : Type 0
IwadareSyndrome =
    (rs : List ℕ) →
    let memory = started decoder_words in
    let taken = taken_by memory rs in
    (b : ℕ) → b < length taken
    → raw_at memory rs b ≡ xor (taps (block_taken taken) b) (parity 3 (block_taken taken b))

abbrev pub IwadareSyndromeErrors : Type 0
IwadareSyndromeErrors =
    (bs rs : List ℕ) →
    let sent = sent_by (started coder_words) bs in
    let memory = started decoder_words in
    let taken = taken_by memory rs in
    length taken ≤ length sent → (b : ℕ) → b < length taken →
    let error : ℕ → ℕ = (λ p. block_taken taken p ⊕ block_sent sent p) in
    raw_at memory rs b ≡ xor (taps error b) (parity 3 (error b))
