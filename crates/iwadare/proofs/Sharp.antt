-- Four runs that go wrong, computed. Assumes nothing.
use mathlib.Core.Path.{◌≡◌, refl, sym, ap, ◌∙◌}
use mathlib.Core.Bool.{true, xor}
use mathlib.Core.List.{List, [], ◌∷◌, ◌++◌}
use Prim.Native.Nat.{ℕ, ◌+◌, ◌-◌, ◌*◌, ◌^◌, ◌≤◌, ◌<◌}
use native.Mathlib.Omega.{arith}
use lib.ListN.{length, replicate}
use Rattle.span.specs.Word.{◌⊕◌, odd, bit}
use Rattle.span.specs.Combination.{combination}
use Rattle.tables.specs.Refusal.{first_of}
use Rattle.tables.proofs.Every.{every}
use Rattle.link.specs.Memory.{started, joining}
use Rattle.link.specs.Refusals.{some_above, answered, leaves}
use Rattle.link.specs.Runs.{run}
use Rattle.link.specs.Recovery.{Stretch, Burst}
use Rattle.std.specs.Prelude.{Some, Ok}
use Rattle.iwadare.specs.Memory.{coder_words, decoder_words}
use Rattle.iwadare.specs.Refusals.{step_fault, coder_fault, decoder_fault}
use Rattle.iwadare.specs.Coder.{coder_joining, coded_block, coder_next, code_answer, code_memory}
use Rattle.iwadare.specs.Decoder.{decoder_joining, raw_of, register_of, flips_symbol1, flips_symbol0, matched}
use Rattle.iwadare.specs.Decoder.{terms_next, decoder_next, delivered, delivery, decode_answer, decode_memory}
use Rattle.iwadare.specs.Runs.{Sent, Taken, sent_by, taken_by, sent_at, taken_at}
use Rattle.iwadare.specs.Correction.{WrongBit, BitBursts, Corrected}
use Rattle.iwadare.specs.Sharp.{IwadareLengthSharp, IwadareGapSharp, IwadareGuardSharp}
use Rattle.iwadare.specs.Sharp.{IwadareGuardEndSharp}
use Rattle.iwadare.proofs.Computed.{agrees, lies, Ends, burst_so, covers, bursts_so, starts-right, right_so}
use Rattle.iwadare.proofs.Computed.{delivery-same}

abbrev zeros_sent : ℕ → List Sent
zeros_sent count = sent_by (started coder_words) (replicate count 0)

abbrev long_burst : List ℕ
long_burst = replicate 30 0 ++ (4 ∷ 7 ∷ 7 ∷ 7 ∷ 1 ∷ replicate 18 0)

abbrev close_bits : List ℕ
close_bits = replicate 30 0 ++ (1 ∷ (replicate 17 0 ++ (4 ∷ [])))

abbrev early_bit : List ℕ
early_bit = replicate 29 0 ++ (4 ∷ replicate 3 0)

-- the fill complete, and a one in the pending word that comes at the end of the guard's first part
abbrev unlike : List ℕ
unlike = 18 ∷ 2 ^ 17 ∷ replicate 19 0

-- the same with a one that comes 12 terms before it
abbrev two_ones : List ℕ
two_ones = 18 ∷ (2 ^ 17 + 2 ^ 5) ∷ replicate 19 0

abbrev long_taken : List Taken
long_taken = taken_by (started decoder_words) long_burst

abbrev close_taken : List Taken
close_taken = taken_by (started decoder_words) close_bits

abbrev early_taken : List Taken
early_taken = taken_by unlike early_bit

abbrev flipped_taken : List Taken
flipped_taken = taken_by two_ones (replicate 21 0)

abbrev at : ℕ → ℕ → Stretch
at first last = record { first = first; last = last }

-- what is computed of a run of `count` blocks: how many are taken and sent, that the chosen stretches cover the wrong
-- bits, and what is delivered at the last place where zero was sent 18 places before
record Shown (taken : List Taken) (count : ℕ) (chosen : List Stretch) (answer : ℕ) : Type 0 where
  takes : length taken ≡ count
  sends : length (zeros_sent count) ≡ count
  covering : covers (zeros_sent count) taken chosen (3 * length taken) ≡ true
  answers : (taken_at taken count).answer ≡ Ok (Some answer)
  info : (sent_at (zeros_sent count) (count - 18)).info ≡ 0

computed : (Shown long_taken 53 (at 93 103 ∷ []) 1 × Ends (zeros_sent 53) long_taken (at 93 103)
    × (starts-right (zeros_sent 53) long_taken 30 ≡ true))
    × (Shown close_taken 49 (at 91 91 ∷ at 147 147 ∷ []) 1 × Ends (zeros_sent 49) close_taken (at 91 91)
    × Ends (zeros_sent 49) close_taken (at 147 147) × (starts-right (zeros_sent 49) close_taken 30 ≡ true))
    × (Shown early_taken 33 (at 90 90 ∷ []) 2 × Ends (zeros_sent 33) early_taken (at 90 90)
    × (starts-right (zeros_sent 33) early_taken 29 ≡ true))
    × (Shown flipped_taken 21 [] 2 × (starts-right (zeros_sent 21) flipped_taken 21 ≡ true))
unfolding run code_answer code_memory decode_answer decode_memory answered leaves step_fault coder_fault decoder_fault
    some_above first_of coder_joining coded_block coder_next decoder_joining raw_of register_of flips_symbol1 flips_symbol0
    matched terms_next decoder_next delivered delivery joining combination every covers starts-right agrees lies bit odd xor ◌⊕◌
computed = (
  (
    record { takes = refl; sends = refl; covering = refl; answers = refl; info = refl },
    record { first = refl; last = refl },
    refl,
  ),
  (
    record { takes = refl; sends = refl; covering = refl; answers = refl; info = refl },
    record { first = refl; last = refl },
    record { first = refl; last = refl },
    refl,
  ),
  (
    record { takes = refl; sends = refl; covering = refl; answers = refl; info = refl },
    record { first = refl; last = refl },
    refl,
  ),
  (record { takes = refl; sends = refl; covering = refl; answers = refl; info = refl }, refl),
)

-- ---- what these say

module _ {taken : List Taken} {count : ℕ} {chosen : List Stretch} {answer : ℕ} (s : Shown taken count chosen answer)
  where
    enough : length taken ≤ length (zeros_sent count)
    enough = let a = s.takes in let b = s.sends in omega arith

    inside : count ≤ length taken
    inside = let a = s.takes in omega arith

    -- zero was sent, and something else is delivered
    goes-wrong : 0 < answer → Corrected (zeros_sent count) taken count → ⊥
    goes-wrong some right =
        let same = delivery-same answer 0 (sym s.answers ∙ right ∙ ap (λ d. Ok (Some d)) s.info) in
        omega arith

-- a burst of one run
abbrev burst : (taken : List Taken) (count long : ℕ) (b : Stretch) → Ends (zeros_sent count) taken b → 1 ≤ b.first
    → b.first ≤ b.last → b.last < b.first + long → b.last ≤ 3 * length taken
    → Burst (WrongBit (zeros_sent count) taken) long (3 * length taken) b
burst taken count long b = burst_so (zeros_sent count) taken long (3 * length taken) b

-- the runs as premises

long-bursts : (gap : ℕ) → BitBursts 11 gap (zeros_sent 53) long_taken
long-bursts gap =
    let n = computed.0.0.takes in
    bursts_so (zeros_sent 53) long_taken 11 gap (at 93 103 ∷ []) computed.0.0.covering
    (burst long_taken 53 11 (at 93 103) computed.0.1 (omega arith) (omega arith) (omega arith) (omega arith), tt, tt)

close-bursts : (long : ℕ) → 1 ≤ long → BitBursts long 55 (zeros_sent 49) close_taken
close-bursts long some =
    let n = computed.1.0.takes in
    bursts_so (zeros_sent 49) close_taken long 55 (at 91 91 ∷ at 147 147 ∷ []) computed.1.0.covering (
      burst close_taken 49 long (at 91 91) computed.1.1 (omega arith) (omega arith) (omega arith) (omega arith),
      omega arith,
      (
        burst close_taken 49 long (at 147 147) computed.1.2 (omega arith) (omega arith) (omega arith) (omega arith),
        tt,
        tt,
      ),
    )

early-bursts : (long gap : ℕ) → 1 ≤ long → BitBursts long gap (zeros_sent 33) early_taken
early-bursts long gap some =
    let n = computed.2.0.takes in
    bursts_so (zeros_sent 33) early_taken long gap (at 90 90 ∷ []) computed.2.0.covering (
      burst early_taken 33 long (at 90 90) computed.2.1 (omega arith) (omega arith) (omega arith) (omega arith),
      tt,
      tt,
    )

pub length-sharp : IwadareLengthSharp
length-sharp gap =
    let s = computed.0.0 in (
      λ right.
          goes-wrong s (omega arith)
          (right (replicate 53 0) long_burst (enough s) (long-bursts gap) 53 (omega arith) (inside s)),
      λ right.
          goes-wrong s (omega arith)
          (right (started coder_words) (started decoder_words) (replicate 53 0) long_burst (enough s)
          (right_so (zeros_sent 53) long_taken 30 computed.0.2) (long-bursts gap) 53 (omega arith) (inside s)),
    )

pub gap-sharp : IwadareGapSharp
gap-sharp long some =
    let s = computed.1.0 in (
      λ right.
          goes-wrong s (omega arith)
          (right (replicate 49 0) close_bits (enough s) (close-bursts long some) 49 (omega arith) (inside s)),
      λ right.
          goes-wrong s (omega arith)
          (right (started coder_words) (started decoder_words) (replicate 49 0) close_bits (enough s)
          (right_so (zeros_sent 49) close_taken 30 computed.1.3) (close-bursts long some) 49 (omega arith)
          (inside s)),
    )

pub guard-sharp : IwadareGuardSharp
guard-sharp long gap some right =
    let s = computed.2.0 in
    goes-wrong s (omega arith)
    (right (started coder_words) unlike (replicate 33 0) early_bit (enough s)
    (right_so (zeros_sent 33) early_taken 29 computed.2.2) (early-bursts long gap some) 33 (omega arith) (inside s))

pub guard-end-sharp : IwadareGuardEndSharp
guard-end-sharp right =
    let s = computed.3.0 in
    goes-wrong s (omega arith)
    (right (started coder_words) two_ones (replicate 21 0) (replicate 21 0) (enough s) 21 (omega arith) (inside s)
    (right_so (zeros_sent 21) flipped_taken 21 computed.3.1))
