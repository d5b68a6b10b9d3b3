-- The two generators over runs from started memories: what the pending words compute is the convolution (`link`'s
-- `stream_convolution`), and with rows of two ones each it is the four taps. Assumes nothing.
--
--   taps-two, taps-three   the convolution of the information, and of all three symbols
--   parities, syndromes, syndrome_errors   the theorems
use mathlib.Core.Path.{◌≡◌, refl, sym, ap, ◌∙◌}
use mathlib.Core.Bool.{Bool, false, xor}
use mathlib.Core.List.{List, [], ◌∷◌, ◌++◌}
use Prim.Native.Nat.{ℕ, zero, suc, ◌/◌, ◌^◌, ◌<◌}
use native.Mathlib.Omega.{arith}
use lib.ListN.{length}
use Rattle.span.specs.Word.{◌⊕◌, odd, bit}
use Rattle.span.specs.Combination.{combination, Below}
use Rattle.span.proofs.Word.{xor-false-l, xor-false-r, xor-swap-bool}
use Rattle.span.proofs.Combination.{combination-lt}
use Rattle.link.specs.Memory.{started, joining}
use Rattle.link.specs.Step.{parity}
use Rattle.link.specs.Massey.{sum_over, ago, convolution}
use Rattle.link.proofs.Step.{topped_bit, joined_half, joined_odd, coder_info, coder_half, coder_even}
use Rattle.link.proofs.Memory.{joining-is}
use Rattle.link.proofs.Convolution.{convolution-xor, ago-now, stream_convolution}
use Rattle.iwadare.specs.Memory.{generators, coder_words, decoder_words, coder_pending, pending_of}
use Rattle.iwadare.specs.Decoder.{decoder_joining, raw_of}
use Rattle.iwadare.specs.Runs.{Sent, Taken, sent_by, taken_by}
use Rattle.iwadare.specs.Taps.{taps, info_sent, block_sent, block_taken, raw_at, IwadareParity, IwadareSyndrome}
use Rattle.iwadare.specs.Taps.{IwadareSyndromeErrors}
use Rattle.iwadare.proofs.Words.{CoderStep}
use Rattle.iwadare.proofs.Runs.{coder_before, decoder_before, coder_first, decoder-first, coded, decoded}
use Rattle.iwadare.proofs.Runs.{told_place}

-- ---- the convolution

-- with the parity's row, which is 1
abbrev rows : List ℕ
rows = generators ++ (1 ∷ [])

taps-two : (x : ℕ → ℕ) (b : ℕ) → convolution 2 19 generators x b ≡ taps x b
unfolding convolution sum_over taps bit odd
taps-two x b = simp (xor-false-l, xor-false-r)

taps-three : (x : ℕ → ℕ) (b : ℕ) → convolution 3 19 rows x b ≡ xor (taps x b) (parity 3 (x b))
unfolding convolution sum_over taps bit odd
taps-three x b =
    summed ∙ ap (λ (c : ℕ). xor zeros (xor ones (bit 2 c))) (ago-now x b)
    ∙ ap (λ (s : Bool). xor s (xor ones (bit 2 (x b)))) (sym (xor-false-r zeros))
    ∙ xor-swap-bool zeros false ones (bit 2 (x b)) ∙ ap (xor (xor zeros ones)) (xor-false-l (bit 2 (x b)))
  where
    zeros : Bool
    zeros = xor (bit 0 (ago x b 7)) (bit 0 (ago x b 18))

    ones : Bool
    ones = xor (bit 1 (ago x b 3)) (bit 1 (ago x b 15))

    summed : convolution 3 19 rows x b ≡ xor zeros (xor ones (bit 2 (ago x b 0)))
    summed = simp (xor-false-l, xor-false-r)

pub images : (c : ℕ) → combination generators c < 2 ^ 19
images c = combination-lt 19 generators c below
  where
    below : Below 19 generators
    below zero h = omega arith
    below (suc zero) h = omega arith
    below (suc (suc i)) h = absurd (omega arith)

all-images : (c : ℕ) → combination rows c < 2 ^ 19
all-images c = combination-lt 19 rows c below
  where
    below : Below 19 rows
    below zero h = omega arith
    below (suc zero) h = omega arith
    below (suc (suc zero)) h = omega arith
    below (suc (suc (suc i))) h = absurd (omega arith)

-- ---- runs

module _ (bs : List ℕ) where
  abbrev sent : List Sent
  sent = sent_by (started coder_words) bs

  abbrev words : ℕ → ℕ
  words p = coder_pending (coder_before (started coder_words) bs p)

  sends : (p : ℕ) → p < length sent
      → CoderStep (coder_before (started coder_words) bs p) (info_sent sent p) (block_sent sent p)
      (coder_before (started coder_words) bs (suc p))
  sends = (coded (started coder_words) bs).codes

  first : words 0 ≡ 0
  first = ap coder_pending (coder_first (started coder_words) bs)

  parity-sum : (b : ℕ) → b < length sent
      → odd (joining generators (words b) (info_sent sent b)) ≡ convolution 2 19 generators (info_sent sent) b
  parity-sum b h =
      ap odd (joining-is generators (words b) (info_sent sent b))
      ∙ stream_convolution 2 19 generators (info_sent sent) words (length sent) (omega arith) images first
      (λ t l.
      (sends t (omega arith)).pending_on
      ∙ ap (λ (w : ℕ). w / 2) (joining-is generators (words t) (info_sent sent t)))
      b h

  -- with the parity's row nothing is left of what is sent
  sent-none : (b : ℕ) → b < length sent → convolution 3 19 rows (block_sent sent) b ≡ false
  sent-none b h =
      let k = sends b h in
      sym (stream_convolution 3 19 rows (block_sent sent) words (length sent) (omega arith) all-images first
      (λ t l.
      let q = sends t (omega arith) in
      q.pending_on
      ∙ sym (coder_half generators 2 refl (words t) 0 (info_sent sent t) (block_sent sent t) 0 q.info_lt q.coded))
      b h)
      ∙ coder_even generators 2 refl (words b) 0 (info_sent sent b) (block_sent sent b) 0 k.info_lt k.coded

pub parities : IwadareParity
parities bs b h =
    let k = sends bs b h in
    let info = info_sent (sent bs) b in (
      ap (bit 2) k.coded ∙ topped_bit 2 info (odd (joining generators (words bs b) info)) k.info_lt
          ∙ parity-sum bs b h ∙ taps-two (info_sent (sent bs)) b,
      coder_info generators 2 refl (words bs b) 0 info (block_sent (sent bs) b) 0 k.info_lt k.coded,
    )

raw-sum : (rs : List ℕ) (b : ℕ) → b < length (taken_by (started decoder_words) rs)
    → raw_at (started decoder_words) rs b ≡ convolution 3 19 rows (block_taken (taken_by (started decoder_words) rs)) b
unfolding raw_of decoder_joining
raw-sum rs b h =
    told_place (started decoder_words) rs raw_of false b h
    ∙ sym (joined_odd generators 2 refl (pending b) (block_taken taken b))
    ∙ stream_convolution 3 19 rows (block_taken taken) pending (length taken) (omega arith) all-images
    (ap pending_of (decoder-first (started decoder_words) rs))
    (λ t l.
    ((decoded (started decoder_words) rs).decodes t (omega arith)).pending_on
    ∙ sym (joined_half generators 2 refl (pending t) (block_taken taken t)))
    b h
  where
    taken : List Taken
    taken = taken_by (started decoder_words) rs

    pending : ℕ → ℕ
    pending p = pending_of (decoder_before (started decoder_words) rs p)

pub syndromes : IwadareSyndrome
syndromes rs b h = raw-sum rs b h ∙ taps-three (block_taken (taken_by (started decoder_words) rs)) b

pub syndrome_errors : IwadareSyndromeErrors
syndrome_errors bs rs enough b h =
    let sent = sent_by (started coder_words) bs in
    let taken = taken_by (started decoder_words) rs in
    raw-sum rs b h ∙ sym (xor-false-r (convolution 3 19 rows (block_taken taken) b))
    ∙ ap (xor (convolution 3 19 rows (block_taken taken) b)) (sym (sent-none bs b (omega arith)))
    ∙ sym (convolution-xor 3 19 rows (block_taken taken) (block_sent sent) b)
    ∙ taps-three (λ p. block_taken taken p ⊕ block_sent sent p) b
