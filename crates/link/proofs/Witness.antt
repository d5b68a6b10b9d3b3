-- The run that meets every premise of recovery: it is computed. Assumes nothing.
use mathlib.Core.Path.{◌≡◌, refl}
use mathlib.Core.Bool.{xor}
use mathlib.Core.Logic.{inl, inr}
use mathlib.Core.List.{List, [], ◌∷◌, ◌++◌, map}
use Prim.Native.Nat.{ℕ, ◌<◌}
use native.Mathlib.Omega.{arith}
use lib.ListN.{length, replicate}
use Rattle.span.specs.Word.{◌⊕◌, odd, bit}
use Rattle.span.specs.Combination.{combination}
use Rattle.span.specs.Relation.{least_from, least_coefficients}
use Rattle.tables.specs.Table.{sizes_fit, rows_fit, fit}
use Rattle.tables.specs.Refusal.{first_of}
use Rattle.tables.specs.Made.{columns, upper, made_row, made_rows, made_table, making}
use Rattle.link.specs.Memory.{joining, pending_at, pending_of, syndrome_of, delayed_of}
use Rattle.link.specs.Refusals.{step_fault, coder_fault, some_above, decoder_fault, answered, leaves}
use Rattle.link.specs.Coder.{coder_joining, coded_block, coder_next, code_answer, code_memory}
use Rattle.link.specs.Formed.{CoderFormed, DecoderFormed}
use Rattle.link.specs.Decoder.{decoder_joining, decoder_register, decoder_found, part_next, decoder_next, decode_answer}
use Rattle.link.specs.Decoder.{decode_memory, delivered, delivery}
use Rattle.link.specs.Runs.{Sent, Taken, run, sent_by, taken_by}
use Rattle.link.specs.Recovery.{Origin, Wrong, Stretch, Chosen, Within}
use Rattle.link.specs.Computed.{answers_by, sent_blocks, taken_blocks, differing}
use Rattle.link.specs.Witness.{made, coder_memory, decoder_memory, coder_calls, decoder_calls, WitnessLaw}
use Rattle.link.specs.Witness.{GuardEndWitness}
use Rattle.link.proofs.Computed.{each_at, key, In, Places, running_by, right_by, burst_by, bursts_by}

-- ---- what is computed

all_sent : List ℕ
all_sent =
    3 ∷ 2 ∷ 1 ∷ 1 ∷ 3 ∷ 1 ∷ 1 ∷ 2 ∷ 1 ∷ 3 ∷ 1 ∷ 0 ∷ 0 ∷ 1 ∷ 2 ∷ 1 ∷ 3 ∷ 2 ∷ 2 ∷ 3
    ∷ 1 ∷ 0 ∷ 1 ∷ 0 ∷ 2 ∷ 3 ∷ 3 ∷ 3 ∷ 0 ∷ 3 ∷ []

all_taken : List ℕ
all_taken =
    3 ∷ 2 ∷ 1 ∷ 1 ∷ 3 ∷ 1 ∷ 1 ∷ 2 ∷ 1 ∷ 3 ∷ 1 ∷ 0 ∷ 3 ∷ 0 ∷ 2 ∷ 1 ∷ 3 ∷ 2 ∷ 2 ∷ 3
    ∷ 3 ∷ 3 ∷ 1 ∷ 0 ∷ 2 ∷ 3 ∷ 3 ∷ 3 ∷ []

-- each step that is not refused uses the same table
record Tables : Type 0 where
  sent : map (λ (x : Sent). key 1 x.table) (sent_by coder_memory coder_calls) ≡ replicate 30 (key 1 made)
  taken : map (λ (x : Taken). key 1 x.table) (taken_by decoder_memory decoder_calls) ≡ replicate 28 (key 1 made)

-- what is sent and taken, which places are wrong, and which steps are refused
record Run : Type 0 where
  sent : sent_blocks (sent_by coder_memory coder_calls) ≡ all_sent
  taken : taken_blocks (taken_by decoder_memory decoder_calls) ≡ all_taken
  wrong : differing 1 (taken_blocks (taken_by decoder_memory decoder_calls)) (sent_blocks (sent_by coder_memory coder_calls))
      ≡ 13 ∷ 14 ∷ 21 ∷ 22 ∷ []
  coder-refused : answers_by coder_fault code_memory coder_memory coder_calls
      ≡ replicate 4 0 ++ (15 ∷ replicate 4 0) ++ (12 ∷ replicate 12 0) ++ (13 ∷ 14 ∷ replicate 10 0)
  decoder-refused : answers_by decoder_fault decode_memory decoder_memory decoder_calls
      ≡ (13 ∷ replicate 13 0) ++ (15 ∷ 14 ∷ replicate 4 0) ++ (12 ∷ replicate 11 0)

computed : Run × Tables × GuardEndWitness
unfolding all_sent all_taken run answers_by differing coder_fault coder_joining coded_block coder_next code_memory code_answer
    decode_answer answered leaves step_fault decoder_fault some_above decoder_joining decoder_register decoder_found part_next
    decoder_next decode_memory delivered delivery joining first_of fit sizes_fit rows_fit least_coefficients least_from
    combination bit odd xor ◌⊕◌
computed = (
  record { sent = refl; taken = refl; wrong = refl; coder-refused = refl; decoder-refused = refl },
  record { sent = refl; taken = refl },
  (refl, refl),
)

made-origin : Origin made
unfolding making made_table made_rows made_row upper columns sizes_fit bit odd
made-origin = inr (2, 2, refl)

-- ---- the premises

coder_formed : CoderFormed made coder_memory
coder_formed = record {
  size = refl;
  turn = omega arith;
  pending = each_at (λ k. pending_at coder_memory k < 8) 2 (omega arith, (omega arith, tt));
}

decoder_formed : DecoderFormed made decoder_memory
decoder_formed = record {
  size = refl;
  turn = omega arith;
  fill = omega arith;
  pending = each_at (λ k. pending_of made decoder_memory k < 8) 2 (omega arith, (omega arith, tt));
  syndrome = each_at (λ k. syndrome_of made decoder_memory k < 8) 2 (omega arith, (omega arith, tt));
  delayed = λ k i a b.
      each_at (λ k. delayed_of made decoder_memory k i < 2) 2 (
        each_at (λ i. delayed_of made decoder_memory 0 i < 2) 3 (omega arith, (omega arith, (omega arith, tt))) i b,
        (each_at (λ i. delayed_of made decoder_memory 1 i < 2) 3 (omega arith, (omega arith, (omega arith, tt))) i b, tt),
      ) k a;
}

places : Places coder_memory decoder_memory coder_calls decoder_calls all_sent all_taken (13 ∷ 14 ∷ 21 ∷ 22 ∷ [])
unfolding all_sent all_taken
places = record { sent = computed.0.sent; taken = computed.0.taken; wrong = computed.0.wrong; many = omega arith }

bursts : List Stretch
bursts = record { first = 13; last = 14 } ∷ record { first = 21; last = 22 } ∷ []

late : (p : ℕ) → In p (13 ∷ 14 ∷ 21 ∷ 22 ∷ []) → 12 < p
late p (inl e) = omega arith
late p (inr (inl e)) = omega arith
late p (inr (inr (inl e))) = omega arith
late p (inr (inr (inr (inl e)))) = omega arith
late p (inr (inr (inr (inr z)))) = absurd z

covered : (p : ℕ) → In p (13 ∷ 14 ∷ 21 ∷ 22 ∷ []) → Within p bursts
unfolding bursts
covered p (inl e) = inl (omega arith, omega arith)
covered p (inr (inl e)) = inl (omega arith, omega arith)
covered p (inr (inr (inl e))) = inr (inl (omega arith, omega arith))
covered p (inr (inr (inr (inl e)))) = inr (inl (omega arith, omega arith))
covered p (inr (inr (inr (inr z)))) = absurd z

apart : Chosen (Wrong (sent_by coder_memory coder_calls) (taken_by decoder_memory decoder_calls)) 2 6
    (length (taken_by decoder_memory decoder_calls)) bursts
unfolding bursts all_sent all_taken
apart = (
  burst_by places 2 13 14 (omega arith) (omega arith) (omega arith) (omega arith) (λ e. omega arith) (λ e. omega arith),
  omega arith,
  (
    burst_by places 2 21 22 (omega arith) (omega arith) (omega arith) (omega arith) (λ e. omega arith)
        (λ e. omega arith),
    tt,
    tt,
  ),
)

pub witness : WitnessLaw
unfolding all_sent all_taken
witness = (
  record {
    running = running_by places made made-origin computed.1.sent computed.1.taken;
    coder_formed = coder_formed;
    decoder_formed = decoder_formed;
    guard = right_by places 12 late;
    bursts = bursts_by places 2 6 bursts apart covered;
  },
  computed.0.wrong,
  computed.0.coder-refused,
  computed.0.decoder-refused,
)

pub guard-end-witness : GuardEndWitness
guard-end-witness = computed.2
