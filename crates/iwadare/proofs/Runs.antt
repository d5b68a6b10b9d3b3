-- The steps of runs that are taken, as sequences: place p counts from 0, and the memory before it is that which the
-- step before it left. Assumes nothing.
--
--   CoderRun, DecoderRun   the steps of a run, each on its memory
--   coded, decoded         the runs of coder and decoder are such
--   told_place             anything told of the decoder's steps
--   refused_skipped        a run with a refused step in it
use mathlib.Core.Path.{◌≡◌, refl, sym, ap, ◌∙◌, subst}
use mathlib.Core.Bool.{Bool, true, false, cond}
use mathlib.Core.List.{List, [], ◌∷◌, ◌++◌, map-append}
use Prim.Native.Nat.{ℕ, suc, ◌-◌, ◌<◌}
use native.Mathlib.Omega.{arith}
use lib.Dec.{ltb, eqb}
use lib.ListN.{length, get_or}
use Rattle.std.specs.Prelude.{Option, Some, None, Ok}
use Rattle.link.specs.Refusals.{Answer, leaves, refused}
use Rattle.link.specs.Runs.{run, ran, placed}
use Rattle.link.proofs.Refusals.{answered-is}
use Rattle.link.proofs.Runs.{before, before_first, Told, Place, run_place, skipped}
use Rattle.iwadare.specs.Memory.{delay, fill_of}
use Rattle.iwadare.specs.Refusals.{coder_fault, decoder_fault}
use Rattle.iwadare.specs.Coder.{coded_block, coder_next, code_answer, code_memory}
use Rattle.iwadare.specs.Decoder.{delivered, delivery, decoder_next, decode_answer, decode_memory}
use Rattle.iwadare.specs.Runs.{Sent, Taken, sent_of, taken_of, handed, sent_by, taken_by, none_sent, none_taken}
use Rattle.iwadare.specs.Runs.{sent_at}
use Rattle.iwadare.specs.Runs.{taken_at, IwadareRefusedSkipped}
use Rattle.iwadare.proofs.Decoder.{DecoderTaken, decoder-taken}
use Rattle.iwadare.proofs.Words.{CoderStep, coder-step, DecoderStep, decoder_step}
use Rattle.iwadare.specs.Taps.{info_sent, block_sent, block_taken}

pub record CoderRun (M : ℕ → List ℕ) (B C : ℕ → ℕ) (count : ℕ) : Type 0 where
  pub codes : (p : ℕ) → p < count → CoderStep (M p) (B p) (C p) (M (suc p))

pub record DecoderRun (S : ℕ → List ℕ) (R : ℕ → ℕ) (A : ℕ → Answer (Option ℕ)) (count : ℕ) : Type 0 where
  pub taken : (p : ℕ) → p < count → DecoderTaken (S p) (R p)
  pub decodes : (p : ℕ) → p < count → DecoderStep (S p) (R p) (S (suc p))
  pub answers : (p : ℕ) → p < count → A p ≡ delivery (S p) (R p)

-- nothing is handed in the table's place
abbrev pub Tableless : Type 0
Tableless = Unit {0}

pub coder-memory : (n : Tableless) (s : List ℕ) (b : ℕ) → code_memory s b ≡ leaves (coder_fault s b) (coder_next s b) s
unfolding code_memory
coder-memory n s b = refl

pub decoder-memory : (n : Tableless) (s : List ℕ) (r : ℕ) → decode_memory s r ≡ leaves (decoder_fault s r) (decoder_next s r) s
unfolding decode_memory
decoder-memory n s r = refl

abbrev pub coder_before : List ℕ → List ℕ → ℕ → List ℕ
coder_before s bs =
    before (λ (n : Tableless). coder_fault) (λ n. coder_next) (λ n. code_memory) coder-memory s (handed bs)

abbrev pub decoder_before : List ℕ → List ℕ → ℕ → List ℕ
decoder_before s rs =
    before (λ (n : Tableless). decoder_fault) (λ n. decoder_next) (λ n. decode_memory) decoder-memory s (handed rs)

pub coder_first : (s bs : List ℕ) → coder_before s bs 0 ≡ s
coder_first s bs =
    before_first (λ (n : Tableless). coder_fault) (λ n. coder_next) (λ n. code_memory) coder-memory s (handed bs)

pub decoder-first : (s rs : List ℕ) → decoder_before s rs 0 ≡ s
decoder-first s rs =
    before_first (λ (n : Tableless). decoder_fault) (λ n. decoder_next) (λ n. decode_memory) decoder-memory s (handed rs)

-- ---- what is kept of a step that is taken

abbrev pub sent_entry : Tableless → List ℕ → ℕ → Sent
sent_entry n s b = record { info = b; block = coded_block s b }

abbrev pub taken_entry : Tableless → List ℕ → ℕ → Taken
taken_entry n s r = record { block = r; answer = delivery s r }

abbrev pub sent_kept : Tableless → List ℕ → ℕ → List Sent
sent_kept n s b = sent_of b (code_answer s b)

abbrev pub taken_kept : Tableless → List ℕ → ℕ → List Taken
taken_kept n s r = taken_of r (decode_answer s r)

pub sent-told : Told (λ (n : Tableless). coder_fault) (λ n. coder_next) (λ n. code_memory) coder-memory sent_kept sent_entry
unfolding code_answer
sent-told n s b =
    ap (sent_of b) (answered-is (coder_fault s b) (Ok (coded_block s b)) refused) ∙ go (eqb (coder_fault s b) 0)
  where
    go : (q : Bool) → sent_of b (cond q (Ok (coded_block s b)) (refused (coder_fault s b)))
        ≡ cond q (sent_entry n s b ∷ []) []
    go true = refl
    go false = refl

pub taken-told : Told (λ (n : Tableless). decoder_fault) (λ n. decoder_next) (λ n. decode_memory) decoder-memory
    taken_kept taken_entry
unfolding decode_answer delivery
taken-told n s r =
    ap (taken_of r) (answered-is (decoder_fault s r) (delivery s r) refused)
    ∙ go (eqb (decoder_fault s r) 0) (ltb (fill_of s) delay)
  where
    go : (q d : Bool)
        → taken_of r (cond q (cond d (Ok None) (Ok (Some (delivered s r)))) (refused (decoder_fault s r)))
        ≡ cond q (record { block = r; answer = cond d (Ok None) (Ok (Some (delivered s r))) } ∷ []) []
    go true true = refl
    go true false = refl
    go false d = refl

-- ---- the runs

from_one : (p : ℕ) → suc p - 1 ≡ p
from_one p = omega arith

module _ (s bs : List ℕ) where
  abbrev M : ℕ → List ℕ
  M = coder_before s bs

  place : (p : ℕ) → p < length (sent_by s bs)
      → Place (λ (n : Tableless). coder_fault) (λ n. coder_next) (λ n. code_memory) coder-memory s (handed bs) p
  place =
      run_place (λ (n : Tableless). coder_fault) (λ n. coder_next) (λ n. code_memory) coder-memory sent_kept sent_entry sent-told
      s (handed bs)

  sent_is : (p : ℕ) (h : p < length (sent_by s bs))
      → sent_at (sent_by s bs) (suc p) ≡ sent_entry tt (M p) (place p h).call.block
  sent_is p h =
      ap (λ (k : ℕ). get_or (sent_by s bs) k none_sent) (from_one p)
      ∙ (place p h).is sent_kept sent_entry sent-told none_sent

  pub coded : CoderRun M (info_sent (sent_by s bs)) (block_sent (sent_by s bs)) (length (sent_by s bs))
  coded = record { codes = step }
    where
      step : (p : ℕ) → p < length (sent_by s bs)
          → CoderStep (M p) (info_sent (sent_by s bs) p) (block_sent (sent_by s bs) p) (M (suc p))
      step p h =
          let e = place p h in
          subst (λ (x : Sent). CoderStep (M p) x.info x.block (M (suc p))) (sym (sent_is p h))
          (subst (CoderStep (M p) e.call.block (coded_block (M p) e.call.block)) (sym e.on)
          (coder-step (M p) e.call.block e.taken))

module _ (s rs : List ℕ) where
  abbrev S : ℕ → List ℕ
  S = decoder_before s rs

  abbrev pub answerTaken : ℕ → Answer (Option ℕ)
  answerTaken p = (taken_at (taken_by s rs) (suc p)).answer

  taken-place : (p : ℕ) → p < length (taken_by s rs)
      → Place (λ (n : Tableless). decoder_fault) (λ n. decoder_next) (λ n. decode_memory) decoder-memory s (handed rs) p
  taken-place =
      run_place (λ (n : Tableless). decoder_fault) (λ n. decoder_next) (λ n. decode_memory) decoder-memory taken_kept taken_entry
      taken-told s (handed rs)

  taken_is : (p : ℕ) (h : p < length (taken_by s rs))
      → taken_at (taken_by s rs) (suc p) ≡ taken_entry tt (S p) (taken-place p h).call.block
  taken_is p h =
      ap (λ (k : ℕ). get_or (taken_by s rs) k none_taken) (from_one p)
      ∙ (taken-place p h).is taken_kept taken_entry taken-told none_taken

  block-is : (p : ℕ) (h : p < length (taken_by s rs)) → block_taken (taken_by s rs) p ≡ (taken-place p h).call.block
  block-is p h = ap (λ (x : Taken). x.block) (taken_is p h)

  pub decoded : DecoderRun S (block_taken (taken_by s rs)) answerTaken (length (taken_by s rs))
  decoded = record {
    taken = λ p h. subst (DecoderTaken (S p)) (sym (block-is p h)) (tests p h);
    decodes = λ p h.
        subst (λ (r : ℕ). DecoderStep (S p) r (S (suc p))) (sym (block-is p h))
        (subst (DecoderStep (S p) (taken-place p h).call.block) (sym (taken-place p h).on)
        (decoder_step (S p) (taken-place p h).call.block (tests p h).formed.size));
    answers = λ p h.
        ap (λ (x : Taken). x.answer) (taken_is p h) ∙ sym (ap (delivery (S p)) (block-is p h));
  }
    where
      tests : (p : ℕ) (h : p < length (taken_by s rs)) → DecoderTaken (S p) (taken-place p h).call.block
      tests p h = decoder-taken (S p) (taken-place p h).call.block (taken-place p h).taken

  -- whatever is told of the steps, that of this step stands at its place
  pub told_place : {X : Type 0} (entry : List ℕ → ℕ → X) (d : X) (p : ℕ) → p < length (taken_by s rs)
      → get_or (run (λ (n : Tableless). decode_memory) (placed (λ n. decoder_fault) (λ n. entry)) s (handed rs)) p d
      ≡ entry (S p) (block_taken (taken_by s rs) p)
  told_place entry d p h =
      (taken-place p h).is (placed (λ n. decoder_fault) (λ n. entry)) (λ n. entry) (λ n s r. refl) d
      ∙ sym (ap (entry (S p)) (block-is p h))

-- ---- refused steps

handed-append : (xs ys : List ℕ) → handed (xs ++ ys) ≡ handed xs ++ handed ys
handed-append xs ys = map-append (λ (b : ℕ). record { table = tt; block = b }) xs ys

pub refused_skipped : IwadareRefusedSkipped
refused_skipped s bs b bs' = (
  λ refused.
      let k = skipped (λ (n : Tableless). coder_fault) (λ n. coder_next) (λ n. code_memory) coder-memory sent_kept sent_entry
      sent-told s (handed bs) (record { table = tt; block = b }) (handed bs') refused in (
        ap (run (λ n. code_memory) sent_kept s) (handed-append bs (b ∷ bs')) ∙ k.0
            ∙ sym (ap (run (λ n. code_memory) sent_kept s) (handed-append bs bs')),
        ap (ran (λ n. code_memory) s) (handed-append bs (b ∷ bs')) ∙ k.1
            ∙ sym (ap (ran (λ n. code_memory) s) (handed-append bs bs')),
      ),
  λ refused.
      let k = skipped (λ (n : Tableless). decoder_fault) (λ n. decoder_next) (λ n. decode_memory) decoder-memory taken_kept
      taken_entry taken-told s (handed bs) (record { table = tt; block = b }) (handed bs') refused in (
        ap (run (λ n. decode_memory) taken_kept s) (handed-append bs (b ∷ bs')) ∙ k.0
            ∙ sym (ap (run (λ n. decode_memory) taken_kept s) (handed-append bs bs')),
        ap (ran (λ n. decode_memory) s) (handed-append bs (b ∷ bs')) ∙ k.1
            ∙ sym (ap (ran (λ n. decode_memory) s) (handed-append bs bs')),
      ),
)
