-- From a clean memory: its streams are clean at their first turns, so that `Fade` begins at block 0. Assumes nothing.
use mathlib.Core.Path.{◌≡◌, sym, ap, ◌∙◌, subst}
use mathlib.Core.Logic.{inl, inr}
use mathlib.Core.List.{List}
use Prim.Native.Nat.{ℕ, zero, suc, ◌+◌, ◌-◌, ◌*◌, ◌/◌, ◌%◌, ◌≤◌, ◌<◌}
use native.Mathlib.Nat.{zero-mul}
use native.Mathlib.Decide.{dec_lt}
use native.Mathlib.Omega.{arith}
use lib.ListN.{length}
use Rattle.std.specs.Prelude.{Option}
use Rattle.link.specs.declared.decode.Delivered.{Delivered}
use Rattle.span.specs.Word.{◌⊕◌}
use Rattle.tables.specs.declared.table.Table.{Table}
use Rattle.tables.proofs.Fit.{fit-facts}
use Rattle.tables.proofs.Fit.{zeros-at}
use Rattle.link.specs.Memory.{started, coder_words, turn_of, decoder_words, pending_at, fill_of, delay_of, stream_at}
use Rattle.link.specs.Memory.{pending_of, syndrome_of, delayed_of}
use Rattle.link.specs.Refusals.{Answer, coder_fault, decoder_fault}
use Rattle.link.specs.Coder.{coder_next, code_memory}
use Rattle.link.specs.Decoder.{decoder_next, decode_memory}
use Rattle.link.specs.Runs.{Call, Sent, Taken, sent_by, taken_by, sent_at, taken_at}
use Rattle.link.specs.Recovery.{Wrong, Separated, Sure, Running}
use Rattle.link.specs.Massey.{block_sent, block_taken}
use Rattle.link.specs.Clean.{Clean, Undisturbed, CleanLaw, CleanSeparated, Tells, CleanMarks, StartedClean}
use Rattle.link.proofs.Runs.{before_first, coder-memory, decoder-memory, coder_before, decoder_before}
use Rattle.link.proofs.OneTable.{from_one}
use Rattle.link.proofs.Bursts.{bursts-separated}
use Rattle.link.proofs.Fade.{WrongApart, delivers, delivers_first, clean_first}
use Rattle.link.proofs.Recovery.{answer, separated, linked}

tells-sure : (a : Answer (Option Delivered)) (info error : ℕ) → Tells a info error → Sure a info
tells-sure a info error (mark, delivery, sure, error_is) = (mark, delivery, sure)

module _ {t : Table} {coder decoder : List ℕ} {cs ds : List Call} (f : Running t coder decoder cs ds)
    (c : Clean t coder decoder)
    (b : Separated (Wrong (sent_by coder cs) (taken_by decoder ds)) t.depth (delay_of t)
    (length (taken_by decoder ds))) where
  abbrev sent : List Sent
  sent = sent_by coder cs

  abbrev taken : List Taken
  taken = taken_by decoder ds

  abbrev before : ℕ → List ℕ
  before = decoder_before decoder ds

  decoder-first : before 0 ≡ decoder
  decoder-first = before_first decoder_fault decoder_next decode_memory decoder-memory decoder ds

  coder_first : coder_before coder cs 0 ≡ coder
  coder_first = before_first coder_fault coder_next code_memory coder-memory coder cs

  syndromes : (k : ℕ) → k < t.depth → syndrome_of t (before 0) k ≡ 0
  syndromes k h = ap (λ (s : List ℕ). syndrome_of t s k) decoder-first ∙ c.syndrome k h

  pendings : (d : ℕ) → d < t.depth
      → pending_of t (before 0) ((turn_of (before 0) + d) % t.depth)
      ≡ pending_at (coder_before coder cs 0) ((turn_of (coder_before coder cs 0) + d) % t.depth)
  pendings d h =
      ap (λ (s : List ℕ). pending_of t s ((turn_of s + d) % t.depth)) decoder-first ∙ c.pending d h
      ∙ sym (ap (λ (s : List ℕ). pending_at s ((turn_of s + d) % t.depth)) coder_first)

  apart : WrongApart (block_taken taken) (block_sent sent) t.depth (delay_of t) (length taken)
  apart = separated f b

  -- no block is asked to be right
  none : (p : ℕ) → p < 0 * t.depth → p < length taken → block_taken taken p ≡ block_sent sent p
  none p few h = absurd (let z = zero-mul t.depth in omega arith)

  tells : (p : ℕ) → p < length taken → delay_of t ≤ p →
      let q = suc p - delay_of t in
      Tells (answer f p) (sent_at sent q).info ((taken_at taken q).block ⊕ (sent_at sent q).block)
  tells p h late =
      let z = zero-mul t.depth in
      let here : suc (p - delay_of t) ≡ suc p - delay_of t = omega arith in
      subst (λ (q : ℕ). Tells (answer f p) (sent_at sent q).info ((taken_at taken q).block ⊕ (sent_at sent q).block)) here
      (delivers (linked f) apart 0 none (clean_first (linked f) syndromes pendings) p (p - delay_of t) h (omega arith)
      (omega arith))

  early : (p : ℕ) → p < length taken → p < delay_of t → Undisturbed t decoder taken (suc p)
  early p h few = go (dec_lt (fill_of (before p)) (delay_of t))
    where
      go : Dec (fill_of (before p) < delay_of t) → Undisturbed t decoder taken (suc p)
      go (yes wait) = inl (((linked f).decoding.decodes p h).waits wait)
      go (no full) =
          let z = zero-mul t.depth in
          inr
          (subst (λ (q : ℕ). Sure (answer f p) (delayed_of t decoder ((turn_of decoder + q) % t.depth) (q / t.depth)))
          (sym (from_one p))
          (subst (λ (s : List ℕ). Sure (answer f p) (delayed_of t s ((turn_of s + p) % t.depth) (p / t.depth)))
          decoder-first
          (delivers_first (linked f) apart 0 none (clean_first (linked f) syndromes pendings) p h (omega arith) few
          (omega arith))))

pub clean_marks : CleanMarks
clean_marks t coder decoder cs ds f c b zero late h = absurd (omega arith)
clean_marks t coder decoder cs ds f c b (suc p) late h = tells f c b p (omega arith) (omega arith)

pub clean-separated : CleanSeparated
clean-separated t coder decoder cs ds f c b zero from h = absurd (omega arith)
clean-separated t coder decoder cs ds f c b (suc p) from h = (
  λ late. tells-sure _ _ _ (clean_marks t coder decoder cs ds f c b (suc p) late h),
  λ few. early f c b p (omega arith) (omega arith),
)

pub clean : CleanLaw
clean t coder decoder cs ds f c b =
    clean-separated t coder decoder cs ds f c
    (bursts-separated (Wrong (sent_by coder cs) (taken_by decoder ds)) t.depth (delay_of t)
    (length (taken_by decoder ds)) b)

-- ---- started memories

pub started_clean : StartedClean
started_clean t fits =
    let m = (fit-facts t fits).m_from in
    let a = zeros-at (coder_words t) 0 in
    let b = zeros-at (decoder_words t) 0 in
    record {
      coder_turn = omega arith;
      decoder_turn = omega arith;
      syndrome = λ k h. zeros-at (decoder_words t) (stream_at t k + 1);
      pending = λ d h.
          zeros-at (decoder_words t) (stream_at t ((turn_of (started (decoder_words t)) + d) % t.depth))
          ∙ sym (zeros-at (coder_words t) (1 + (turn_of (started (coder_words t)) + d) % t.depth));
    }
