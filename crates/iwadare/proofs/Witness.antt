-- A run that meets every premise of recovery, computed. Assumes nothing.
use mathlib.Core.Path.{◌≡◌, refl}
use mathlib.Core.Bool.{true, xor}
use mathlib.Core.List.{List, [], ◌∷◌, ◌++◌, map}
use Prim.Native.Nat.{◌*◌}
use native.Mathlib.Omega.{arith}
use lib.ListN.{length, replicate}
use Rattle.span.specs.Word.{◌⊕◌, odd, bit}
use Rattle.span.specs.Combination.{combination}
use Rattle.tables.specs.Refusal.{first_of}
use Rattle.tables.proofs.Every.{every}
use Rattle.link.specs.Memory.{joining}
use Rattle.link.specs.Refusals.{some_above, answered, leaves}
use Rattle.link.specs.Runs.{run}
use Rattle.link.specs.Computed.{differing}
use Rattle.link.specs.Recovery.{Stretch}
use Rattle.iwadare.specs.Refusals.{step_fault, coder_fault, decoder_fault}
use Rattle.iwadare.specs.Coder.{coder_joining, coded_block, coder_next, code_answer, code_memory}
use Rattle.iwadare.specs.Decoder.{decoder_joining, raw_of, register_of, flips_symbol1, flips_symbol0, matched}
use Rattle.iwadare.specs.Decoder.{terms_next, decoder_next, delivered, delivery, decode_answer, decode_memory}
use Rattle.iwadare.specs.Runs.{Sent, Taken, sent_by, taken_by}
use Rattle.iwadare.specs.Witness.{coder_memory, decoder_memory, infos, received, faults_by, IwadareWitness}
use Rattle.iwadare.proofs.Computed.{agrees, lies, Ends, burst_so, covers, bursts_so, starts-right, right_so}

abbrev sent : List Sent
sent = sent_by coder_memory infos

abbrev taken : List Taken
taken = taken_by decoder_memory received

-- symbol 1 of block 31 to symbol 1 of block 34, and symbol 1 of block 53 to symbol 1 of block 56
abbrev first : Stretch
first = record { first = 92; last = 101 }

abbrev second : Stretch
second = record { first = 158; last = 167 }

record Shown : Type 0 where
  sends : length sent ≡ 76
  takes : length taken ≡ 76
  guarded : starts-right sent taken 30 ≡ true
  covering : covers sent taken (first ∷ second ∷ []) (3 * length taken) ≡ true
  first_ends : Ends sent taken first
  second-ends : Ends sent taken second
  wrong : differing 1 (map (λ (x : Taken). x.block) taken) (map (λ (x : Sent). x.block) sent)
      ≡ 31 ∷ 32 ∷ 33 ∷ 34 ∷ 53 ∷ 54 ∷ 55 ∷ 56 ∷ []
  coder-faults : faults_by coder_fault code_memory coder_memory infos
      ≡ replicate 20 0 ++ (15 ∷ replicate 20 0) ++ (15 ∷ replicate 36 0)
  decoder-faults : faults_by decoder_fault decode_memory decoder_memory received
      ≡ (15 ∷ replicate 32 0) ++ (15 ∷ replicate 24 0) ++ (15 ∷ replicate 20 0)

computed : Shown
unfolding run faults_by differing code_answer code_memory decode_answer decode_memory answered leaves step_fault coder_fault
    decoder_fault some_above first_of coder_joining coded_block coder_next decoder_joining raw_of register_of flips_symbol1
    flips_symbol0 matched terms_next decoder_next delivered delivery joining combination every covers starts-right agrees lies bit odd
    xor ◌⊕◌
computed = record {
  sends = refl;
  takes = refl;
  guarded = refl;
  covering = refl;
  first_ends = record { first = refl; last = refl };
  second-ends = record { first = refl; last = refl };
  wrong = refl;
  coder-faults = refl;
  decoder-faults = refl;
}

pub witness : IwadareWitness
witness =
    let a = computed.sends in
    let b = computed.takes in (
      omega arith,
      right_so sent taken 30 computed.guarded,
      bursts_so sent taken 10 56 (first ∷ second ∷ []) computed.covering (
        burst_so sent taken 10 (3 * length taken) first computed.first_ends (omega arith) (omega arith) (omega arith)
            (omega arith),
        omega arith,
        (
          burst_so sent taken 10 (3 * length taken) second computed.second-ends (omega arith) (omega arith)
              (omega arith) (omega arith),
          tt,
          tt,
        ),
      ),
      computed.wrong,
      computed.coder-faults,
      computed.decoder-faults,
    )
