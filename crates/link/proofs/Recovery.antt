-- Demand 3: the runs of coder and decoder as sequences, and 01's premises as those of `Fade`. Assumes nothing.
--
--   separated, linked   the premises
--   recovered           the claim
--   recovery_short_guard   the theorem from which the others follow
--   recovery-any-memory, recovery, recovery-later, doubtful   those
--   same-delivery       two deliveries that are equal have equal information and marks
use mathlib.Core.Path.{◌≡◌, sym, ◌∙◌, subst}
use mathlib.Core.Logic.{◌⊎◌, inl, inr}
use mathlib.Core.List.{List}
use Prim.Native.Nat.{ℕ, zero, suc, ◌+◌, ◌-◌, ◌*◌, ◌≤◌, ◌<◌}
use native.Mathlib.Nat.{mul-le-mul_left}
use native.Mathlib.Omega.{arith}
use lib.ListN.{length}
use Rattle.link.specs.Refusals.{Answer}
use Rattle.tables.specs.declared.table.Table.{Table}
use Rattle.tables.specs.Table.{info_rows}
use Rattle.link.specs.declared.decode.Delivered.{Delivered}
use Rattle.std.specs.Prelude.{Option, Some, Ok}
use Rattle.link.specs.Memory.{delay_of}
use Rattle.link.specs.Runs.{Call, Sent, Taken, sent_by, taken_by, sent_at, taken_at, coder_after, decoder_after}
use Rattle.link.specs.Recovery.{Wrong, Sure, Recovered, RecoveryLaw, RecoveryLater, DoubtfulLaw, Running, Separated}
use Rattle.link.specs.Recovery.{RecoveryAnyMemory, RecoveryShortGuard}
use Rattle.link.specs.Massey.{info_sent, block_sent, block_taken}
use Rattle.link.proofs.Origin.{origin-coding}
use Rattle.link.proofs.Runs.{coder_before, decoder_before}
use Rattle.link.proofs.OneTable.{coded, decoded}
use Rattle.link.proofs.Formed.{formed_throughout}
use Rattle.link.proofs.Bursts.{bursts-separated}
use Rattle.link.proofs.Fade.{Linked, WrongApart, recovers}

module _ {t : Table} {coder decoder : List ℕ} {cs ds : List Call} (f : Running t coder decoder cs ds) where
  abbrev sent : List Sent
  sent = sent_by coder cs

  abbrev taken : List Taken
  taken = taken_by decoder ds

  abbrev pub answer : ℕ → Answer (Option Delivered)
  answer p = (taken_at taken (suc p)).answer

  pub separated : Separated (Wrong sent taken) t.depth (delay_of t) (length taken)
      → WrongApart (block_taken taken) (block_sent sent) t.depth (delay_of t) (length taken)
  separated apart p q l h u v = go (apart (suc p) (suc q) (omega arith) (omega arith) (omega arith) u v)
    where
      go : (suc q < suc p + t.depth) ⊎ (suc p + t.depth * (t.span - 1) < suc q)
          → (q < p + t.depth) ⊎ (p + t.depth * (t.span - 1) < q)
      go (inl z) = inl (omega arith)
      go (inr z) = inr (omega arith)

  pub linked : Linked t.symbols t.span t.depth (info_rows t) (decoder_before decoder ds) (coder_before coder cs)
      (block_taken taken)
      (info_sent sent) (block_sent sent) answer (length taken)
  linked =
      let c = origin-coding t f.origin in
      record {
        n_from = c.sizes.n_from;
        N_from = c.sizes.N_from;
        m_from = c.sizes.m_from;
        size = c.infos;
        code = c.corrects;
        decoding = decoded t decoder ds f.decoder_tables;
        coding =
            record { codes = λ p h. let many = f.enough in (coded t coder cs f.coder_tables).codes p (omega arith) };
      }

  pub recovered : (p : ℕ) → delay_of t ≤ p → ((q : ℕ) → q + delay_of t ≡ p → Sure (answer p) (info_sent sent q))
      → Recovered sent taken (delay_of t) (suc p)
  recovered p late sure =
      subst (λ (x : ℕ). Sure (answer p) (sent_at sent x).info)
      (let e : suc (p - delay_of t) ≡ suc p - delay_of t = omega arith in e)
      (sure (p - delay_of t) (omega arith))

pub recovery_short_guard : RecoveryShortGuard
recovery_short_guard t coder decoder cs ds f guard apart zero late h = absurd (omega arith)
recovery_short_guard t coder decoder cs ds f guard apart (suc p) late h =
    recovered f p (omega arith)
    (λ q e.
    recovers (linked f) (separated f apart)
    (λ i early inside. guard (suc i) (omega arith) (omega arith) (omega arith)) p q (omega arith) (omega arith) e)

-- a longer guard has the shorter one
pub recovery-any-memory : RecoveryAnyMemory
recovery-any-memory t coder decoder cs ds f guard =
    let fewer : t.span - 2 ≤ t.span - 1 = omega arith in
    recovery_short_guard t coder decoder cs ds f
    (λ p from to h. guard p from (omega (arith, mul-le-mul_left t.depth fewer)) h)

-- well-formed memories are not needed, and chosen bursts keep the wrong places apart
pub recovery : RecoveryLaw
recovery t coder decoder cs ds f =
    recovery-any-memory t coder decoder cs ds f.running f.guard
    (bursts-separated (Wrong (sent_by coder cs) (taken_by decoder ds)) t.depth (delay_of t)
    (length (taken_by decoder ds)) f.bursts)

pub recovery-later : RecoveryLater
recovery-later t coder decoder cs0 ds0 cs ds c d ct dt running right bursts =
    recovery t (coder_after coder cs0) (decoder_after decoder ds0) cs ds (record {
      running = running;
      coder_formed = (formed_throughout t coder cs0).0 c ct;
      decoder_formed = (formed_throughout t decoder ds0).1 d dt;
      guard = right;
      bursts = bursts;
    })

pub same-delivery : (a b : Delivered) → ◌≡◌ {A = Answer (Option Delivered)} (Ok (Some a)) (Ok (Some b))
    → (a.info ≡ b.info) × (a.mark ≡ b.mark)
same-delivery a b e = (cc, cc)

pub doubtful : DoubtfulLaw
doubtful t coder decoder cs ds c d running right p info late h answer bursts =
    let r = recovery t coder decoder cs ds
    (record { running = running; coder_formed = c; decoder_formed = d; guard = right; bursts = bursts }) p late h in
    r.2 (same-delivery _ _ (sym r.1 ∙ answer)).1
