-- Recovery is not vacuous: one run that meets every premise. Neither memory was started, and the two pending words
-- agree in no bit; steps are refused for 15 on both sides; after 30 right blocks come a burst of 10 wrong bits, 56
-- right ones, a burst of 10 bits with five wrong, and the blocks until all of these are delivered.
--
--   coder_memory, decoder_memory   the memories that the run begins with
--   infos, received                what is handed over, to steps that are refused too
--   faults_by fault memory s bs    the number that each step is refused for, or 0
--   IwadareWitness                 every premise of recovery holds of it, which blocks are wrong, and which steps are
--                                  refused
use Rattle.std.specs.Prelude.{◌≡◌, List, [], ◌∷◌, ◌++◌, map, ℕ, ◌≤◌, length, replicate}
use Rattle.link.specs.Computed.{differing}
use Rattle.iwadare.specs.Refusals.{coder_fault, decoder_fault}
use Rattle.iwadare.specs.Coder.{code_memory}
use Rattle.iwadare.specs.Decoder.{decode_memory}
use Rattle.iwadare.specs.Runs.{Sent, Taken, sent_by, taken_by}
use Rattle.iwadare.specs.Correction.{BitBursts}
use Rattle.iwadare.specs.Recovery.{guard, RightFirst}

abbrev pub coder_memory : List ℕ
coder_memory = 183861 ∷ []

-- fill, pending word and terms; 18 delayed blocks
abbrev pub decoder_memory : List ℕ
decoder_memory =
    7 ∷ 78282 ∷ 2869
    ∷ (1 ∷ 2 ∷ 1 ∷ 3 ∷ 3 ∷ 0 ∷ 0 ∷ 2 ∷ 2 ∷ 2 ∷ 3 ∷ 3 ∷ 0 ∷ 0 ∷ 2 ∷ 3 ∷ 0 ∷ 0 ∷ [])

-- 76 blocks are sent
abbrev pub infos : List ℕ
infos =
    2 ∷ 1 ∷ 3 ∷ 0 ∷ 0 ∷ 0 ∷ 2 ∷ 0 ∷ 1 ∷ 0 ∷ 0 ∷ 3 ∷ 3 ∷ 0 ∷ 1 ∷ 0 ∷ 3 ∷ 0 ∷ 0 ∷ 1 ∷ 4 ∷ 0
    ∷ 3 ∷ 0 ∷ 1 ∷ 0 ∷ 1 ∷ 2 ∷ 3 ∷ 1 ∷ 0 ∷ 2 ∷ 1 ∷ 0 ∷ 1 ∷ 2 ∷ 0 ∷ 0 ∷ 0 ∷ 1 ∷ 3 ∷ 65535 ∷ 3 ∷ 2
    ∷ 3 ∷ 3 ∷ 2 ∷ 2 ∷ 1 ∷ 1 ∷ 1 ∷ 0 ∷ 2 ∷ 3 ∷ 2 ∷ 3 ∷ 2 ∷ 0 ∷ 0 ∷ 3 ∷ 1 ∷ 2 ∷ 1 ∷ 3 ∷ 3 ∷ 0
    ∷ 0 ∷ 2 ∷ 2 ∷ 2 ∷ 3 ∷ 3 ∷ 0 ∷ 0 ∷ 2 ∷ 3 ∷ 0 ∷ 0 ∷ []

-- and 76 are taken
abbrev pub received : List ℕ
received =
    8 ∷ 6 ∷ 1 ∷ 7 ∷ 4 ∷ 4 ∷ 0 ∷ 2 ∷ 0 ∷ 5 ∷ 4 ∷ 4 ∷ 7 ∷ 3 ∷ 0 ∷ 1 ∷ 0 ∷ 3 ∷ 0 ∷ 4 ∷ 5 ∷ 4
    ∷ 3 ∷ 0 ∷ 5 ∷ 4 ∷ 1 ∷ 6 ∷ 7 ∷ 5 ∷ 0 ∷ 0 ∷ 2 ∷ 9 ∷ 7 ∷ 6 ∷ 2 ∷ 4 ∷ 4 ∷ 0 ∷ 5 ∷ 7 ∷ 7 ∷ 2
    ∷ 3 ∷ 3 ∷ 6 ∷ 2 ∷ 5 ∷ 1 ∷ 5 ∷ 4 ∷ 6 ∷ 7 ∷ 0 ∷ 0 ∷ 7 ∷ 6 ∷ 65535 ∷ 4 ∷ 7 ∷ 5 ∷ 6 ∷ 1 ∷ 7 ∷ 7
    ∷ 0 ∷ 4 ∷ 2 ∷ 2 ∷ 2 ∷ 7 ∷ 3 ∷ 4 ∷ 0 ∷ 2 ∷ 3 ∷ 4 ∷ 4 ∷ []

unfoldable pub faults_by : (fault : List ℕ → ℕ → ℕ) (memory : List ℕ → ℕ → List ℕ) → List ℕ → List ℕ → List ℕ
faults_by fault memory s [] = []
faults_by fault memory s (b ∷ bs) = fault s b ∷ faults_by fault memory (memory s b) bs

abbrev pub IwadareWitness : Type 0
IwadareWitness =
    let sent = sent_by coder_memory infos in
    let taken = taken_by decoder_memory received in
    (length taken ≤ length sent) × RightFirst guard sent taken × BitBursts 10 56 sent taken
    × (differing 1 (map (λ (x : Taken). x.block) taken) (map (λ (x : Sent). x.block) sent)
    ≡ 31 ∷ 32 ∷ 33 ∷ 34 ∷ 53 ∷ 54 ∷ 55 ∷ 56 ∷ [])
    × (faults_by coder_fault code_memory coder_memory infos
    ≡ replicate 20 0 ++ (15 ∷ replicate 20 0) ++ (15 ∷ replicate 36 0))
    × (faults_by decoder_fault decode_memory decoder_memory received
    ≡ (15 ∷ replicate 32 0) ++ (15 ∷ replicate 24 0) ++ (15 ∷ replicate 20 0))
