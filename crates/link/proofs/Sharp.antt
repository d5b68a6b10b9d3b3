-- The bounds are sharp: the runs are computed, and all else that is said of their places follows from that. Assumes
-- nothing.
use mathlib.Core.Path.{◌≡◌, refl, sym, ap, ◌∙◌}
use mathlib.Core.Bool.{true, xor}
use mathlib.Core.Logic.{◌⊎◌, inl, inr}
use mathlib.Core.List.{List, [], ◌∷◌, ◌++◌, map}
use Prim.Native.Nat.{ℕ, ◌+◌, ◌-◌, ◌*◌, ◌≤◌, ◌<◌}
use native.Mathlib.Omega.{arith}
use lib.ListN.{length, get_or, replicate, length-replicate, get_or-map}
use Rattle.link.specs.declared.decode.Delivered.{Delivered}
use Rattle.span.specs.Word.{◌⊕◌, odd, bit}
use Rattle.span.specs.Combination.{combination}
use Rattle.span.specs.Relation.{least_from, least_coefficients}
use Rattle.tables.specs.declared.table.Table.{Table}
use Rattle.tables.specs.Table.{sizes_fit, rows_fit, fit}
use Rattle.tables.specs.Refusal.{first_of}
use Rattle.tables.proofs.Fit.{zeros-at}
use Rattle.link.proofs.Examples.{z-accepted}
use Rattle.std.specs.Prelude.{Option, None, Ok}
use Rattle.link.specs.declared.decode.Mark.{Mark}
use Rattle.link.specs.declared.decode.Mark.TheVariants.{Clean, Corrected, Parity, Doubtful, Held}
use Rattle.link.specs.Memory.{joining, started, coder_words, delay_of, pending_of, syndrome_of, delayed_of}
use Rattle.link.specs.Refusals.{Answer, step_fault, coder_fault, some_above, decoder_fault, answered, leaves}
use Rattle.link.specs.Coder.{coder_joining, coded_block, coder_next, code_answer, code_memory}
use Rattle.link.specs.Formed.{CoderFormed, DecoderFormed}
use Rattle.link.specs.Decoder.{decoder_joining, decoder_register, decoder_found, part_next, decoder_next, delivered}
use Rattle.link.specs.Decoder.{delivery, decode_answer, decode_memory}
use Rattle.link.specs.Runs.{Call, Sent, Taken, run, sent_by, taken_by, none_sent, none_taken, sent_at, taken_at}
use Rattle.link.specs.Recovery.{Origin, Wrong, Stretch, Burst, Chosen, Within, FadesWith, Sure, short_guard}
use Rattle.link.specs.Guard.{GuardEndAfter}
use Rattle.link.specs.Computed.{Z, calls, delivers, differing, sent_blocks, taken_blocks}
use Rattle.link.specs.Examples.{bytes_of_z}
use Rattle.link.specs.Sharp.{RecoveryAfter, GuardSharp, GapSharp, LengthSharp, ShortGuardSharp}
use Rattle.link.specs.Sharp.{GuardEndSharp}
use Rattle.link.proofs.Formed.{started_formed}
use Rattle.link.proofs.Fade.{Settles}
use Rattle.link.proofs.Recovery.{same-delivery}
use Rattle.link.proofs.Computed.{each_at, key, In, Places, count, running_by, right_by, burst_by, bursts_by}

-- ---- the runs

-- a decoder memory of Z with that pending word, its fill complete and all else 0; what the coder sends; what the
-- decoder makes of these blocks; and that these blocks are taken, wrong at these places, and so answered
abbrev filled : ℕ → List ℕ
filled pending = 0 ∷ 3 ∷ pending ∷ replicate 4 0

abbrev zeros_sent : ℕ → List Sent
zeros_sent count = sent_by (started (coder_words (Z 1))) (calls (Z 1) (replicate count 0))

abbrev received : ℕ → List ℕ → List Taken
received pending blocks = taken_by (filled pending) (calls (Z 1) blocks)

abbrev answers_of : List Taken → List (Answer (Option Delivered))
answers_of xs = map (λ (x : Taken). x.answer) xs

abbrev Shows : ℕ → List ℕ → List ℕ → List (Answer (Option Delivered)) → Type 0
Shows pending blocks wrong answers =
    (sent_blocks (zeros_sent (length blocks)) ≡ replicate (length blocks) 0)
    × (taken_blocks (received pending blocks) ≡ blocks)
    × (differing 1 (taken_blocks (received pending blocks)) (sent_blocks (zeros_sent (length blocks))) ≡ wrong)
    × (answers_of (received pending blocks) ≡ answers)

abbrev late_guard : List ℕ
late_guard = replicate 5 0 ++ (2 ∷ [])

abbrev close_bursts : List ℕ
close_bursts = replicate 6 0 ++ (1 ∷ 0 ∷ 0 ∷ 2 ∷ [])

abbrev long_burst : List ℕ
long_burst = replicate 6 0 ++ (1 ∷ 2 ∷ 0 ∷ 0 ∷ [])

-- after a guard of three
abbrev early_burst : List ℕ
early_burst = replicate 3 0 ++ (1 ∷ replicate 3 0)

-- T12
abbrev no_burst : List ℕ
no_burst = replicate 7 0

-- Places 1 to 5 are right and 6 is doubtful; places 7 and 10 are wrong, two places between them, and 10 delivers 1 in
-- place of the 0 that was sent at 7; places 7 and 8 are wrong, and 10 delivers 1 again; place 4 is wrong, and 7
-- delivers 1; no place is wrong, and 5 is held.
abbrev Runs-shown : Type 0
Runs-shown =
    Shows 4 late_guard (6 ∷ [])
    (replicate 2 (delivers 0 Clean) ++ replicate 3 (delivers 0 Held) ++ (delivers 0 Doubtful ∷ []))
    × Shows 0 close_bursts (7 ∷ 10 ∷ [])
    (replicate 7 (delivers 0 Clean) ++ replicate 2 (delivers 0 Held) ++ (delivers 1 Held ∷ []))
    × Shows 0 long_burst (7 ∷ 8 ∷ []) (replicate 9 (delivers 0 Clean) ++ (delivers 1 Held ∷ []))
    × Shows 4 early_burst (4 ∷ [])
    (replicate 2 (delivers 0 Clean) ++ replicate 2 (delivers 0 Held)
    ++ (delivers 1 (Corrected 1) ∷ delivers 0 Clean ∷ delivers 1 Held ∷ []))
    × Shows 4 no_burst []
    (replicate 2 (delivers 0 Clean) ++ replicate 3 (delivers 0 Held)
    ++ (delivers 0 (Parity 2) ∷ delivers 0 Clean ∷ []))

-- ---- what is computed

-- a step of either run is handed Z, and zeros are sent
record Handed (pending : ℕ) (blocks : List ℕ) : Type 0 where
  sent : map (λ (x : Sent). key 1 x.table) (zeros_sent (length blocks))
      ≡ replicate (length (replicate {A = ℕ} (length blocks) 0)) (key 1 (Z 1))
  taken : map (λ (x : Taken). key 1 x.table) (received pending blocks) ≡ replicate (length blocks) (key 1 (Z 1))
  infos : map (λ (x : Sent). x.info) (zeros_sent (length blocks)) ≡ replicate (length blocks) 0

computed : Runs-shown
    × (Handed 4 late_guard × Handed 0 close_bursts × Handed 0 long_burst × Handed 4 early_burst × Handed 4 no_burst)
unfolding run differing code_answer code_memory decode_answer decode_memory answered leaves step_fault coder_fault
    coder_joining coded_block coder_next decoder_fault some_above decoder_joining decoder_register decoder_found part_next
    decoder_next delivered delivery joining first_of fit sizes_fit rows_fit least_coefficients least_from combination bit odd
    xor ◌⊕◌
computed = (
  (
    (refl, refl, refl, refl),
    (refl, refl, refl, refl),
    (refl, refl, refl, refl),
    (refl, refl, refl, refl),
    (refl, refl, refl, refl),
  ),
  (
    record { sent = refl; taken = refl; infos = refl },
    record { sent = refl; taken = refl; infos = refl },
    record { sent = refl; taken = refl; infos = refl },
    record { sent = refl; taken = refl; infos = refl },
    record { sent = refl; taken = refl; infos = refl },
  ),
)

sharp-runs : Runs-shown
sharp-runs = computed.0

-- ---- Z and the memories

-- T1
Z-origin : Origin (Z 1)
Z-origin = inl (bytes_of_z, z-accepted)

Z-fits : fit (Z 1) ≡ true
unfolding fit sizes_fit rows_fit
Z-fits = refl

coder_formed : CoderFormed (Z 1) (started (coder_words (Z 1)))
coder_formed = (started_formed (Z 1) Z-fits).0

filled-formed : (pending : ℕ) → pending < 8 → DecoderFormed (Z 1) (filled pending)
filled-formed pending h = record {
  size = refl;
  turn = omega arith;
  fill = omega arith;
  pending = each_at (λ k. pending_of (Z 1) (filled pending) k < 8) 1 (h, tt);
  syndrome = each_at (λ k. syndrome_of (Z 1) (filled pending) k < 8) 1 (omega arith, tt);
  delayed = λ k i a b.
      each_at (λ k. delayed_of (Z 1) (filled pending) k i < 2) 1 (
        each_at (λ i. delayed_of (Z 1) (filled pending) 0 i < 2) 3 (omega arith, (omega arith, (omega arith, tt))) i b,
        tt,
      ) k a;
}

-- ---- what recovery with other numbers would say of such a run

module _ (pending : ℕ) (blocks wrong : List ℕ) (answers : List (Answer (Option Delivered)))
    (shows : Shows pending blocks wrong answers) (h : Handed pending blocks) where
  abbrev coder : List ℕ
  coder = started (coder_words (Z 1))

  abbrev zeros : List ℕ
  zeros = replicate (length blocks) 0

  abbrev cs : List Call
  cs = calls (Z 1) zeros

  abbrev ds : List Call
  ds = calls (Z 1) blocks

  places : Places coder (filled pending) cs ds zeros blocks wrong
  places = record {
    sent = shows.0;
    taken = shows.1;
    wrong = shows.2;
    many = let c = length-replicate {A = ℕ} (length blocks) 0 in omega arith;
  }

  answer_at_lem : (p : ℕ) → (taken_at (received pending blocks) p).answer ≡ get_or answers (p - 1) (Ok None)
  answer_at_lem p =
      sym (get_or-map (λ (x : Taken). x.answer) (received pending blocks) (p - 1) none_taken)
      ∙ ap (λ (l : List (Answer (Option Delivered))). get_or l (p - 1) (Ok None)) shows.3

  info-at : (p : ℕ) → (sent_at (zeros_sent (length blocks)) p).info ≡ 0
  info-at p =
      sym (get_or-map (λ (x : Sent). x.info) (zeros_sent (length blocks)) (p - 1) none_sent)
      ∙ ap (λ (l : List ℕ). get_or l (p - 1) 0) h.infos ∙ zeros-at (length blocks) (p - 1)

  burst : (long a b : ℕ) → 1 ≤ a → a ≤ b → b < a + long → b ≤ length blocks → 0 < get_or blocks (a - 1) 0
      → 0 < get_or blocks (b - 1) 0
      → Burst (Wrong (zeros_sent (length blocks)) (received pending blocks)) long (length (received pending blocks))
      (record { first = a; last = b })
  burst long a b from order short inside u v =
      burst_by places long a b from order short inside
      (λ e. let z = zeros-at (length blocks) (a - 1) in omega arith)
      (λ e. let z = zeros-at (length blocks) (b - 1) in omega arith)

  fades : (right long gap : ℕ) → pending < 8 → (chosen : List Stretch)
      → Chosen (Wrong (zeros_sent (length blocks)) (received pending blocks)) long gap (length (received pending blocks))
      chosen
      → ((p : ℕ) → In p wrong → Within p chosen × (right < p))
      → FadesWith right long gap (Z 1) coder (filled pending) cs ds
  fades right long gap small chosen apart covered = record {
    running = running_by places (Z 1) Z-origin h.sent h.taken;
    coder_formed = coder_formed;
    decoder_formed = filled-formed pending small;
    guard = right_by places right (λ q i. (covered q i).1);
    bursts = bursts_by places long gap chosen apart (λ q i. (covered q i).0);
  }

  -- what a delivery of the information sent would say of an answer
  shown : (p : ℕ) (mark : Mark)
      → (taken_at (received pending blocks) p).answer
      ≡ delivers (sent_at (zeros_sent (length blocks)) (p - delay_of (Z 1))).info mark
      → get_or answers (p - 1) (Ok None) ≡ delivers 0 mark
  shown p mark e =
      sym (answer_at_lem p) ∙ e ∙ ap (λ (x : ℕ). delivers x mark) (info-at (p - delay_of (Z 1)))

  would-answer : (right past long gap : Table → ℕ) → RecoveryAfter right past long gap → pending < 8
      → (chosen : List Stretch)
      → Chosen (Wrong (zeros_sent (length blocks)) (received pending blocks)) (long (Z 1)) (gap (Z 1))
      (length (received pending blocks)) chosen
      → ((p : ℕ) → In p wrong → Within p chosen × (right (Z 1) < p)) → (p : ℕ) → past (Z 1) < p → p ≤ length blocks
      → Sure (get_or answers (p - 1) (Ok None)) 0
  would-answer right past long gap r small chosen apart covered p late to =
      let all = count places in
      let w = r (Z 1) coder (filled pending) cs ds
      (fades (right (Z 1)) (long (Z 1)) (gap (Z 1)) small chosen apart covered) p late (omega arith) in
      (w.0, shown p w.0 w.1, w.2)

  would-end : (past : Table → ℕ) → GuardEndAfter past → pending < 8 → ((p : ℕ) → In p wrong → ⊥) → (p : ℕ)
      → past (Z 1) < p → p ≤ 6 → p ≤ length blocks → Settles 2 (get_or answers (p - 1) (Ok None)) 0
  would-end past g small none p late early to =
      let all = count places in
      let w = g (Z 1) coder (filled pending) cs ds (fades 6 1 3 small [] tt (λ q i. absurd (none q i))) p late early
      (omega arith) in
      (w.0, shown p w.0 w.1, w.2)

-- ---- the bounds

pub guard-sharp : GuardSharp
guard-sharp r =
    let w = would-answer 4 late_guard _ _ sharp-runs.0 computed.1.0 (λ t. 2 * delay_of t - 1)
    (λ t. 2 * delay_of t - 1) (λ t. t.depth) (λ t. delay_of t) r (omega arith)
    (record { first = 6; last = 6 } ∷ []) (
      burst 4 late_guard _ _ sharp-runs.0 computed.1.0 1 6 6 (omega arith) (omega arith) (omega arith)
          (omega arith) (omega arith) (omega arith),
      tt,
      tt,
    )
    covered 6 (omega arith) (omega arith) in
    w.2 (same-delivery _ _ (sym w.1)).1
  where
    covered : (p : ℕ) → In p (6 ∷ []) → Within p (record { first = 6; last = 6 } ∷ []) × (5 < p)
    covered p (inl e) = (inl (omega arith, omega arith), omega arith)
    covered p (inr z) = absurd z

-- 1 is delivered where 0 was sent
never-one : (mark : Mark) → Sure (delivers 1 mark) 0 → ⊥
never-one mark w = let z : ◌≡◌ {A = ℕ} 1 0 = (same-delivery _ _ w.1).0 in omega arith

pub gap-sharp : GapSharp
gap-sharp r =
    let w = would-answer 0 close_bursts _ _ sharp-runs.1 computed.1.1 (λ t. 2 * delay_of t)
    (λ t. 2 * delay_of t) (λ t. t.depth) (λ t. delay_of t - 1) r (omega arith)
    (record { first = 7; last = 7 } ∷ record { first = 10; last = 10 } ∷ []) (
      burst 0 close_bursts _ _ sharp-runs.1 computed.1.1 1 7 7 (omega arith) (omega arith) (omega arith)
          (omega arith) (omega arith) (omega arith),
      omega arith,
      (
        burst 0 close_bursts _ _ sharp-runs.1 computed.1.1 1 10 10 (omega arith) (omega arith) (omega arith)
            (omega arith) (omega arith) (omega arith),
        tt,
        tt,
      ),
    )
    covered 10 (omega arith) (omega arith) in
    never-one Held w
  where
    covered : (p : ℕ) → In p (7 ∷ 10 ∷ [])
        → Within p (record { first = 7; last = 7 } ∷ record { first = 10; last = 10 } ∷ []) × (6 < p)
    covered p (inl e) = (inl (omega arith, omega arith), omega arith)
    covered p (inr (inl e)) = (inr (inl (omega arith, omega arith)), omega arith)
    covered p (inr (inr z)) = absurd z

pub length-sharp : LengthSharp
length-sharp r =
    let w = would-answer 0 long_burst _ _ sharp-runs.2 computed.1.2 (λ t. 2 * delay_of t)
    (λ t. 2 * delay_of t) (λ t. t.depth + 1) (λ t. delay_of t) r (omega arith)
    (record { first = 7; last = 8 } ∷ []) (
      burst 0 long_burst _ _ sharp-runs.2 computed.1.2 2 7 8 (omega arith) (omega arith) (omega arith)
          (omega arith) (omega arith) (omega arith),
      tt,
      tt,
    )
    covered 10 (omega arith) (omega arith) in
    never-one Held w
  where
    covered : (p : ℕ) → In p (7 ∷ 8 ∷ []) → Within p (record { first = 7; last = 8 } ∷ []) × (6 < p)
    covered p (inl e) = (inl (omega arith, omega arith), omega arith)
    covered p (inr (inl e)) = (inl (omega arith, omega arith), omega arith)
    covered p (inr (inr z)) = absurd z

pub short-guard-sharp : ShortGuardSharp
short-guard-sharp r =
    let w = would-answer 4 early_burst _ _ sharp-runs.3 computed.1.3 (λ t. short_guard t - 1)
    (λ t. 2 * delay_of t) (λ t. t.depth) (λ t. delay_of t) r (omega arith)
    (record { first = 4; last = 4 } ∷ []) (
      burst 4 early_burst _ _ sharp-runs.3 computed.1.3 1 4 4 (omega arith) (omega arith) (omega arith)
          (omega arith) (omega arith) (omega arith),
      tt,
      tt,
    )
    covered 7 (omega arith) (omega arith) in
    never-one Held w
  where
    covered : (p : ℕ) → In p (4 ∷ []) → Within p (record { first = 4; last = 4 } ∷ []) × (3 < p)
    covered p (inl e) = (inl (omega arith, omega arith), omega arith)
    covered p (inr z) = absurd z

-- a mark of the guard's end is not held
never-held : (mark : Mark) → Held ≡ mark → (mark ≡ Clean) ⊎ (mark ≡ Parity 2) → ⊥
never-held mark e (inl c) = let z : ◌≡◌ {A = ℕ} 0 1 = cc in omega arith
never-held mark e (inr c) = let z : ◌≡◌ {A = ℕ} 0 1 = cc in omega arith

pub guard-end-sharp : GuardEndSharp
guard-end-sharp g =
    let w = would-end 4 no_burst _ _ sharp-runs.4 computed.1.4 (λ t. 2 * delay_of t - t.depth - 1) g (omega arith)
    (λ p z. z) 5 (omega arith) (omega arith) (omega arith) in
    never-held w.0 (same-delivery _ _ w.1).1 w.2
