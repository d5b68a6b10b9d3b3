-- Batches as runs of single calls, for coder and decoder alike: of a call only this is used, that it is refused, has no
-- entry and leaves the memory, or is not refused and has one entry. Assumes nothing.
--
--   One                   that law of a call
--   Ran, ran-none, ran-more, batch-ran   a batch is the run of the blocks that it took, and why it took no more
--   run_length            a run has at most one entry a block
--   ends_so, shorter-so   where a batch ends
--   single-so             the batch of one block
--   mixture-so            a list of batches
--   run-map               what is told of a run's entries, entry by entry
--   code_one, decode-one the law, of coder and of decoder
--   entry_of, entries-told, blocks-told, taken-entries   the entry of a block taken, and of one sent
--   entry-told            an entry, of the answer that a taken block has
--   shorter, batch_run, single, mixture, recovery_batches, guard_end_batches   the theorems
use mathlib.Core.Path.{◌≡◌, refl, sym, ap, ap₂, ◌∙◌, subst}
use mathlib.Core.Logic.{◌↔◌, ◌⊎◌, inl, inr}
use mathlib.Core.List.{List, [], ◌∷◌, ◌++◌, map, map-append}
use Prim.Native.Nat.{ℕ, zero, suc, ◌-◌, ◌/◌, ◌%◌, ◌^◌, ◌≤◌, ◌<◌}
use native.Mathlib.Omega.{arith}
use native.Mathlib.Decide.{ℕ_discrete}
use lib.Pow.{pow_mono}
use lib.ListN.{length, get_or, take, length-take, length-map, get_or-map}
use Rattle.link.specs.declared.decode.Delivered.{Delivered}
use Rattle.tables.specs.declared.table.Table.{Table}
use Rattle.std.specs.Prelude.{Option, Some, None, Ok, Err}
use Rattle.link.specs.declared.decode.Mark.{Mark}
use Rattle.link.specs.declared.decode.Mark.TheVariants.{Clean, Parity}
use Rattle.link.specs.declared.refusal.Refusal.{Refusal}
use Rattle.link.specs.Refusals.{Answer, coder_fault, decoder_fault, refusal_of}
use Rattle.link.specs.Coder.{coded_block, code_answer, code_memory}
use Rattle.link.specs.Decoder.{decode_answer, decode_memory, mark_number}
use Rattle.link.specs.Memory.{delay_of}
use Rattle.link.specs.Runs.{Call, Sent, Taken, run, ran, sent_by, sent_of, none_sent, taken_by, taken_of}
use Rattle.link.specs.Runs.{taken_at, none_taken}
use Rattle.link.specs.Batch.{Batch, ended, batch, code_entries, decode_entry, decode_entries, code_batch, decode_batch}
use Rattle.link.specs.Batches.{singly, decoded_by, Ends, Handed, filled, after, calls_of, coder_batch, decoder_batch}
use Rattle.link.specs.Batches.{Shorter, BatchRun, Single, Mixture, RecoveryBatches, GuardEndBatches}
use Rattle.link.proofs.Coder.{codes, code-refuses, coder-taken}
use Rattle.link.proofs.Decoder.{decodes, decode-refuses}
use Rattle.link.proofs.Calls.{delivery-taken}
use Rattle.link.proofs.Batch.{batch_none, batch_full, batch_refused, batch_taken, batch_size}
use Rattle.link.proofs.Runs.{run-append, sent-place, sent-told, sent_entry, coder_before}
use Rattle.link.proofs.Entries.{coded_none, coded_one, decoded_none}
use Rattle.link.proofs.Entry.{entry_read}
use Rattle.link.proofs.Recovery.{recovery}
use Rattle.link.proofs.Guard.{guard_end}

-- es are the call's entries, s and next the memory before and after it
abbrev One : List ℕ → Type 0 → List ℕ → List ℕ → Type 0
One es refused next s = ((es ≡ []) × refused × (next ≡ s)) ⊎ ((e : ℕ) × (es ≡ e ∷ []) × (refused → ⊥))

-- ---- one batch

module _ (memory kept : Table → List ℕ → ℕ → List ℕ) (refused : Table → List ℕ → ℕ → Type 0)
    (one : (t : Table) (s : List ℕ) (b : ℕ) → One (kept t s b) (refused t s b) (memory t s b) s) (t : Table) where
  abbrev made : ℕ → List ℕ → List ℕ → Batch
  made = batch (kept t) (memory t)

  abbrev keptBy : List ℕ → List ℕ → List ℕ
  keptBy s bs = run memory kept s (singly t bs)

  abbrev leftBy : List ℕ → List ℕ → List ℕ
  leftBy s bs = ran memory s (singly t bs)

  -- of a batch of these blocks with this room
  record Ran (room : ℕ) (s bs : List ℕ) (b : Batch) : Type 0 where
    entries-are : b.entries ≡ keptBy s (take (length b.entries) bs)
    memory_is : b.memory ≡ leftBy s (take (length b.entries) bs)
    why : length b.entries < length bs
        → (length b.entries ≡ room)
        ⊎ refused t (leftBy s (take (length b.entries) bs)) (get_or bs (length b.entries) 0)

  -- a batch that takes no block, and one whose first call is taken
  ran-none : (room : ℕ) (s bs : List ℕ) → (0 < length bs → (0 ≡ room) ⊎ refused t s (get_or bs 0 0))
      → Ran room s bs (ended s)
  unfolding run ran
  ran-none room s bs h =
      record { entries-are = refl; memory_is = refl; why = h }

  ran-more : (room : ℕ) (s : List ℕ) (b : ℕ) (bs : List ℕ) (e : ℕ) (rest : Batch) → kept t s b ≡ e ∷ []
      → Ran room (memory t s b) bs rest
      → Ran (suc room) s (b ∷ bs) (record { entries = e ∷ rest.entries; memory = rest.memory })
  unfolding run ran
  ran-more room s b bs e rest k r = record {
    entries-are = rw k (ap (λ (es : List ℕ). e ∷ es) r.entries-are);
    memory_is = r.memory_is;
    why = λ h. go (r.why (omega arith));
  }
    where
      n : ℕ
      n = length rest.entries

      go : (n ≡ room) ⊎ refused t (leftBy (memory t s b) (take n bs)) (get_or bs n 0)
          → (suc n ≡ suc room) ⊎ refused t (leftBy (memory t s b) (take n bs)) (get_or bs n 0)
      go (inl z) = inl (ap suc z)
      go (inr z) = inr z

  batch-ran : (room : ℕ) (s bs : List ℕ) → Ran room s bs (made room s bs)
  batch-ran room s [] =
      subst (Ran room s []) (sym (batch_none (kept t) (memory t) room s))
      (ran-none room s [] (λ h. absurd (omega arith)))
  batch-ran zero s (b ∷ bs) =
      subst (Ran 0 s (b ∷ bs)) (sym (batch_full (kept t) (memory t) s (b ∷ bs)))
      (ran-none 0 s (b ∷ bs) (λ h. inl refl))
  batch-ran (suc room) s (b ∷ bs) = go (one t s b) (batch-ran room (memory t s b) bs)
    where
      go : One (kept t s b) (refused t s b) (memory t s b) s
          → Ran room (memory t s b) bs (made room (memory t s b) bs)
          → Ran (suc room) s (b ∷ bs) (made (suc room) s (b ∷ bs))
      go (inl z) r =
          subst (Ran (suc room) s (b ∷ bs)) (sym (batch_refused (kept t) (memory t) (suc room) s b bs z.0))
          (ran-none (suc room) s (b ∷ bs) (λ h. inr z.1))
      go (inr z) r =
          subst (Ran (suc room) s (b ∷ bs)) (sym (batch_taken (kept t) (memory t) room s b bs z.0 z.1))
          (ran-more room s b bs z.0 (made room (memory t s b) bs) z.1 r)

  -- a refused call among them makes a run shorter
  run_length : (s bs : List ℕ) → length (keptBy s bs) ≤ length bs
  unfolding run
  run_length s [] = omega arith
  run_length s (b ∷ bs) = go (one t s b) (run_length (memory t s b) bs)
    where
      go : One (kept t s b) (refused t s b) (memory t s b) s → length (keptBy (memory t s b) bs) ≤ length bs
          → length (kept t s b ++ keptBy (memory t s b) bs) ≤ suc (length bs)
      go (inl z) h = rw z.0 (omega arith)
      go (inr z) h = rw z.1 (omega arith)

  abbrev Stops : ℕ → List ℕ → List ℕ → ℕ → Type 0
  Stops room s bs k = Ends (keptBy s) (λ l. refused t (leftBy s l)) room bs k

  -- no block is taken past the end of single calls, and each before it is
  ends_so : (room : ℕ) (s bs : List ℕ) (k : ℕ) → Stops room s bs k → length (made room s bs).entries ≡ k
  unfolding run ran
  ends_so room s [] k x = let h = x.left in absurd (omega arith)
  ends_so room s (b ∷ bs) zero x = go (one t s b) x.why
    where
      go : One (kept t s b) (refused t s b) (memory t s b) s → (0 ≡ room) ⊎ refused t s b
          → length (made room s (b ∷ bs)).entries ≡ 0
      go (inl z) w = rw (batch_refused (kept t) (memory t) room s b bs z.0)
      go (inr z) (inl full) =
          subst (λ (k : ℕ). length (made k s (b ∷ bs)).entries ≡ 0) full
          (rw (batch_full (kept t) (memory t) s (b ∷ bs)))
      go (inr z) (inr w) = absurd (z.2 w)
  ends_so zero s (b ∷ bs) (suc k) x = let h = x.fits in absurd (omega arith)
  ends_so (suc room) s (b ∷ bs) (suc k) x = go (one t s b) x.taken (ends_so room (memory t s b) bs k)
    where
      next : List ℕ
      next = memory t s b

      why : (suc k ≡ suc room) ⊎ refused t (leftBy next (take k bs)) (get_or bs k 0)
          → (k ≡ room) ⊎ refused t (leftBy next (take k bs)) (get_or bs k 0)
      why (inl z) = inl (omega arith)
      why (inr z) = inr z

      go : One (kept t s b) (refused t s b) (memory t s b) s
          → length (kept t s b ++ keptBy next (take k bs)) ≡ suc k
          → (Stops room next bs k → length (made room next bs).entries ≡ k)
          → length (made (suc room) s (b ∷ bs)).entries ≡ suc k
      go (inl z) h rest =
          let most = run_length next (take k bs) in
          let few = length-take k bs in
          let long : length (keptBy next (take k bs)) ≡ suc k = rw z.0 at h in
          absurd (omega arith)
      go (inr z) h rest =
          let long : suc (length (keptBy next (take k bs))) ≡ suc k = rw z.1 at h in
          let fits = x.fits in
          let left = x.left in
          let stops : Stops room next bs k =
          record { taken = omega arith; fits = omega arith; left = omega arith; why = why x.why } in
          rw (batch_taken (kept t) (memory t) room s b bs z.0 z.1) (ap suc (rest stops))

  -- a batch says itself where it ends; the other way round is `ends_so`
  shorter-so : (room : ℕ) (s bs : List ℕ) (k : ℕ)
      → ((length (made room s bs).entries ≡ k) × (k < length bs)) ↔ Stops room s bs k
  shorter-so room s bs k = (to, λ x. (ends_so room s bs k x, x.left))
    where
      b : Batch
      b = made room s bs

      r : Ran room s bs b
      r = batch-ran room s bs

      to : (length b.entries ≡ k) × (k < length bs) → Stops room s bs k
      to h =
          subst (λ (n : ℕ). n < length bs → Stops room s bs n) h.0
          (λ l. record {
            taken = ap length (sym r.entries-are);
            fits = (batch_size (kept t) (memory t) room s bs).0;
            left = l;
            why = r.why l;
          })
          h.1

  single-so : (s : List ℕ) (b : ℕ) → made 1 s (b ∷ []) ≡ record { entries = kept t s b; memory = memory t s b }
  single-so s b = go (one t s b)
    where
      go : One (kept t s b) (refused t s b) (memory t s b) s
          → made 1 s (b ∷ []) ≡ record { entries = kept t s b; memory = memory t s b }
      go (inl z) =
          batch_refused (kept t) (memory t) 1 s b [] z.0
          ∙ ap₂ (λ (es m : List ℕ). record { entries = es; memory = m }) (sym z.0) (sym z.2)
      go (inr z) =
          batch_taken (kept t) (memory t) 0 s b [] z.0 z.1
          ∙ rw (batch_none (kept t) (memory t) 0 (memory t s b), z.1)

-- ---- a list of batches

module _ (memory kept : Table → List ℕ → ℕ → List ℕ) (one : List ℕ → Handed → Batch)
    (is-run : (s : List ℕ) (h : Handed) →
    let cs = singly h.table (take (length (one s h).entries) h.blocks) in
    ((one s h).entries ≡ run memory kept s cs) × ((one s h).memory ≡ ran memory s cs)) where
  mixture-so : (s : List ℕ) (hs : List Handed)
      → (filled one s hs ≡ run memory kept s (calls_of one s hs)) × (after one s hs ≡ ran memory s (calls_of one s hs))
  unfolding run ran filled after calls_of
  mixture-so s [] = (refl, refl)
  mixture-so s (h ∷ hs) = joined (mixture-so (one s h).memory hs)
    where
      first : List Call
      first = singly h.table (take (length (one s h).entries) h.blocks)

      there : List ℕ
      there = (one s h).memory

      more : List Call
      more = calls_of one there hs

      joined : (filled one there hs ≡ run memory kept there more) × (after one there hs ≡ ran memory there more)
          → ((one s h).entries ++ filled one there hs ≡ run memory kept s (first ++ more))
          × (after one there hs ≡ ran memory s (first ++ more))
      joined rest =
          let both = run-append Table ℕ memory kept s first more in
          let here = is-run s h in (
            ap₂ (λ (xs ys : List ℕ). xs ++ ys) here.0
                (rest.0 ∙ ap (λ (m : List ℕ). run memory kept m more) here.1)
                ∙ sym both.0,
            rest.1 ∙ ap (λ (m : List ℕ). ran memory m more) here.1 ∙ sym both.1,
          )

-- two runs of the same calls, one keeping of each call what f tells of what the other keeps
run-map : {X Y : Type 0} (f : X → Y) (memory : Table → List ℕ → ℕ → List ℕ) (kept : Table → List ℕ → ℕ → List X)
    (told : Table → List ℕ → ℕ → List Y)
    → ((t : Table) (s : List ℕ) (b : ℕ) → told t s b ≡ map f (kept t s b))
    → (s : List ℕ) (cs : List Call) → run memory told s cs ≡ map f (run memory kept s cs)
unfolding run
run-map f memory kept told e s [] = refl
run-map {X} {Y} f memory kept told e s (c ∷ cs) =
    let next = memory c.table s c.block in
    ap₂ (λ (xs ys : List Y). xs ++ ys) (e c.table s c.block) (run-map f memory kept told e next cs)
    ∙ sym (map-append f (kept c.table s c.block) (run memory kept next cs))

-- ---- coder and decoder

abbrev code_refused : Table → List ℕ → ℕ → Type 0
code_refused t s b = (e : Refusal) × (code_answer t s b ≡ Err e)

abbrev decode_refused : Table → List ℕ → ℕ → Type 0
decode_refused t s r = (e : Refusal) × (decode_answer t s r ≡ Err e)

code_one : (t : Table) (s : List ℕ) (b : ℕ)
    → One (code_entries (code_answer t s b)) (code_refused t s b) (code_memory t s b) s
code_one t s b = go (ℕ_discrete (coder_fault t s b) 0)
  where
    go : Dec (coder_fault t s b ≡ 0) → One (code_entries (code_answer t s b)) (code_refused t s b) (code_memory t s b) s
    go (yes e) =
        let z = sym (codes t s b e).0 in
        inr (coded_block t s b, coded_one t s b e, λ k. let w : ◌≡◌ {A = ℕ} 0 1 = cc k.1 in omega arith)
    go (no e) =
        let z = code-refuses t s b (coder_fault t s b) refl (omega arith) in
        inl (coded_none t s b (coder_fault t s b) refl (omega arith), (refusal_of (coder_fault t s b), sym z.0), sym z.1)

decode-one : (t : Table) (s : List ℕ) (r : ℕ)
    → One (decode_entries (decode_answer t s r)) (decode_refused t s r) (decode_memory t s r) s
decode-one t s r = go (ℕ_discrete (decoder_fault t s r) 0)
  where
    -- an answer that is no refusal has its entry
    entry : (a : Answer (Option Delivered)) → ((k : Refusal) → a ≡ Err k → ⊥) → (e : ℕ) × (decode_entries a ≡ e ∷ [])
    entry (Ok (Some d)) taken = (decode_entry (mark_number d.mark) d.info, refl)
    entry (Ok None) taken = (decode_entry 0 0, refl)
    entry (Err k) taken = absurd (taken k refl)

    go : Dec (decoder_fault t s r ≡ 0)
        → One (decode_entries (decode_answer t s r)) (decode_refused t s r) (decode_memory t s r) s
    go (yes e) =
        let z = sym (decodes t s r e).0 in
        let taken : (k : Refusal) → decode_answer t s r ≡ Err k → ⊥ = (λ k w. delivery-taken t s r k (sym z ∙ w)) in
        let x = entry (decode_answer t s r) taken in
        inr (x.0, x.1, λ k. taken k.0 k.1)
    go (no e) =
        let z = decode-refuses t s r (decoder_fault t s r) refl (omega arith) in
        inl (
          decoded_none t s r (decoder_fault t s r) refl (omega arith),
          (refusal_of (decoder_fault t s r), sym z.0),
          sym z.1,
        )

abbrev code_kept : Table → List ℕ → ℕ → List ℕ
code_kept t s b = code_entries (code_answer t s b)

abbrev decode_kept : Table → List ℕ → ℕ → List ℕ
decode_kept t s r = decode_entries (decode_answer t s r)

pub shorter : Shorter
unfolding code_batch decode_batch
shorter = (
  shorter-so code_memory code_kept code_refused code_one,
  shorter-so decode_memory decode_kept decode_refused decode-one,
)

pub batch_run : BatchRun
unfolding code_batch decode_batch
batch_run = (
  λ t room s bs.
      let r = batch-ran code_memory code_kept code_refused code_one t room s bs in (
        (batch_size (code_kept t) (code_memory t) room s bs).1,
        (batch_size (code_kept t) (code_memory t) room s bs).0,
        r.entries-are,
        r.memory_is,
      ),
  λ t room s bs.
      let r = batch-ran decode_memory decode_kept decode_refused decode-one t room s bs in (
        (batch_size (decode_kept t) (decode_memory t) room s bs).1,
        (batch_size (decode_kept t) (decode_memory t) room s bs).0,
        r.entries-are,
        r.memory_is,
      ),
)

pub single : Single
unfolding code_batch decode_batch
single = (
  single-so code_memory code_kept code_refused code_one,
  single-so decode_memory decode_kept decode_refused decode-one,
)

-- the entry of a block taken, and of one sent
abbrev entry_of : Taken → ℕ
entry_of x = get_or (decode_entries x.answer) 0 0

entries-told : (t : Table) (r : ℕ) (a : Answer (Option Delivered)) → decode_entries a ≡ map entry_of (taken_of t r a)
entries-told t r (Ok (Some d)) = refl
entries-told t r (Ok None) = refl
entries-told t r (Err e) = refl

blocks-told : (t : Table) (b : ℕ) (a : Answer ℕ) → code_entries a ≡ map (λ (x : Sent). x.block) (sent_of t b a)
blocks-told t b (Ok c) = refl
blocks-told t b (Err e) = refl

taken-entries : (s : List ℕ) (hs : List Handed) → filled decoder_batch s hs ≡ decoded_by s (calls_of decoder_batch s hs)
    → filled decoder_batch s hs ≡ map entry_of (taken_by s (calls_of decoder_batch s hs))
taken-entries s hs e =
    e ∙ run-map entry_of decode_memory (λ t s r. taken_of t r (decode_answer t s r)) decode_kept
    (λ t s r. entries-told t r (decode_answer t s r)) s (calls_of decoder_batch s hs)

pub mixture : Mixture
mixture s hs =
    let c = mixture-so code_memory code_kept coder_batch
    (λ s h. let r = batch_run.0 h.table h.room s h.blocks in (r.2, r.3)) s hs in
    let d = mixture-so decode_memory decode_kept decoder_batch
    (λ s h. let r = batch_run.1 h.table h.room s h.blocks in (r.2, r.3)) s hs in (
      (
        c.0,
        c.1,
        c.0 ∙ run-map (λ (x : Sent). x.block) code_memory (λ t s b. sent_of t b (code_answer t s b)) code_kept
            (λ t s b. blocks-told t b (code_answer t s b)) s (calls_of coder_batch s hs),
      ),
      (
        d.0,
        d.1,
        ap length (taken-entries s hs d.0) ∙ length-map (taken_by s (calls_of decoder_batch s hs)) entry_of,
      ),
    )

-- what was sent has 16 bits at most
info-fits : (s : List ℕ) (cs : List Call) (p : ℕ) → p < length (sent_by s cs)
    → (get_or (sent_by s cs) p none_sent).info < 2 ^ 16
info-fits s cs p h =
    let k = sent-place s cs p h in
    let c = coder-taken k.call.table (coder_before s cs p) k.call.block k.taken in
    let n : k.call.table.symbols - 1 ≤ 16 = (let z = c.sizes.n_to in omega arith) in
    let most = pow_mono n in
    let low = c.info in
    let e = ap (λ (x : Sent). x.info) (k.is (λ t s b. sent_of t b (code_answer t s b)) sent_entry sent-told none_sent) in
    omega arith

-- entry p of a mixture, where taken block p is answered with information sent
entry-told : (coder decoder : List ℕ) (cs : List Call) (gs : List Handed) (p q : ℕ) (mark : Mark)
    → q < length (sent_by coder cs)
    → (taken_at (taken_by decoder (calls_of decoder_batch decoder gs)) p).answer
    ≡ Ok (Some (record { info = (get_or (sent_by coder cs) q none_sent).info; mark = mark })) →
    let e = get_or (filled decoder_batch decoder gs) (p - 1) 0 in
    (e % 2 ^ 16 ≡ (get_or (sent_by coder cs) q none_sent).info) × (e / 2 ^ 16 ≡ mark_number mark)
entry-told coder decoder cs gs p q mark h r =
    let taken = taken_by decoder (calls_of decoder_batch decoder gs) in
    let info = (get_or (sent_by coder cs) q none_sent).info in
    let is : get_or (filled decoder_batch decoder gs) (p - 1) 0 ≡ decode_entry (mark_number mark) info =
    ap (λ (es : List ℕ). get_or es (p - 1) 0) (taken-entries decoder gs (mixture decoder gs).1.0)
    ∙ get_or-map entry_of taken (p - 1) none_taken
    ∙ ap (λ (a : Answer (Option Delivered)). get_or (decode_entries a) 0 0) r in
    let parts = entry_read (mark_number mark) info (info-fits coder cs q h) in
    (ap (λ (e : ℕ). e % 2 ^ 16) is ∙ parts.0, ap (λ (e : ℕ). e / 2 ^ 16) is ∙ parts.1)

pub recovery_batches : RecoveryBatches
recovery_batches t coder decoder hs gs f p late h =
    let cs = calls_of coder_batch coder hs in
    let ds = calls_of decoder_batch decoder gs in
    let size = (mixture decoder gs).1.2 in
    let enough = f.running.enough in
    let r = recovery t coder decoder cs ds f p late (omega arith) in
    let e = entry-told coder decoder cs gs p (p - delay_of t - 1) r.0 (omega arith) r.1 in
    (r.0, e.0, e.1, r.2)

end-number : (n : ℕ) (mark : Mark) (number : ℕ) → number ≡ mark_number mark
    → (mark ≡ Clean) ⊎ (mark ≡ Parity (2 ^ (n - 1))) → (number ≡ 1) ⊎ (number ≡ 5)
end-number n mark number e (inl k) = inl (e ∙ ap mark_number k)
end-number n mark number e (inr k) = inr (e ∙ ap mark_number k)

pub guard_end_batches : GuardEndBatches
guard_end_batches t coder decoder hs gs f p late early h =
    let cs = calls_of coder_batch coder hs in
    let ds = calls_of decoder_batch decoder gs in
    let size = (mixture decoder gs).1.2 in
    let enough = f.running.enough in
    let r = guard_end t coder decoder cs ds f p late early (omega arith) in
    let e = entry-told coder decoder cs gs p (p - delay_of t - 1) r.0 (omega arith) r.1 in
    (e.0, end-number t.symbols r.0 _ e.1 r.2)
