-- Runs of coder and decoder: the wrong bits of what was taken are those of the error blocks, and once the decoder on
-- errors alone is quiet every delivery is what was sent. Assumes nothing.
--
--   linked          the two runs, in step
--   spread          where the wrong bits lie
--   right_at        a place at which the errors deliver zero
--   right_from      from a place on at which the errors have settled, every delivery is right
--   started-quiet   started memories have settled
--   correction_ten, correction   the theorems
use mathlib.Core.Path.{◌≡◌, sym, ap, ap₂, ◌∙◌}
use mathlib.Core.Logic.{◌≢◌, ◌⊎◌, inl, inr}
use mathlib.Core.List.{List, ◌∷◌}
use Prim.Native.Nat.{ℕ, zero, suc, ◌+◌, ◌-◌, ◌*◌, ◌/◌, ◌%◌, ◌≤◌, ◌<◌}
use native.Mathlib.Omega.{arith}
use lib.ListN.{length, get_or, drop}
use Rattle.span.specs.Word.{◌⊕◌, bit}
use Rattle.span.proofs.Word.{xor_zero_r}
use Rattle.link.specs.Memory.{started}
use Rattle.link.specs.Recovery.{Separated}
use Rattle.link.proofs.Bursts.{bursts-separated, bursts_longer}
use Rattle.std.specs.Prelude.{Some, Ok}
use Rattle.iwadare.specs.Memory.{coder_words, decoder_words, delay, coder_pending, pending_of}
use Rattle.iwadare.specs.Decoder.{delivered}
use Rattle.iwadare.specs.Runs.{Sent, Taken, sent_by, taken_by, none_sent, sent_at, taken_at}
use Rattle.iwadare.specs.Taps.{info_sent, block_sent, block_taken}
use Rattle.iwadare.specs.Correction.{WrongBit, Corrected, IwadareCorrection, IwadareCorrectionTen}
use Rattle.iwadare.proofs.Runs.{coder_before, decoder_before, coder_first, decoder-first, coded, decoded}
use Rattle.iwadare.proofs.Runs.{answerTaken}
use Rattle.iwadare.proofs.Delivery.{answers_complete}
use Rattle.iwadare.proofs.Patterns.{quiet}
use Rattle.iwadare.proofs.Settled.{Spread, quiet_on}
use Rattle.iwadare.proofs.Errors.{Linked, errors, error_memory, error_first, error_next, errors_below, errors_bit}
use Rattle.iwadare.proofs.Errors.{delivers}

-- ---- two runs

module _ (coder decoder bs rs : List ℕ) where
  abbrev sent : List Sent
  sent = sent_by coder bs

  abbrev taken : List Taken
  taken = taken_by decoder rs

  module _ (enough : length taken ≤ length sent) where
    pub linked : Linked (coder_before coder bs) (decoder_before decoder rs) (info_sent sent) (block_sent sent)
        (block_taken taken) (answerTaken decoder rs) (length taken)
    linked = record {
      coding = record { codes = λ p h. (coded coder bs).codes p (omega arith) };
      decoding = decoded decoder rs;
    }

    -- bit a of block p, both counted from 0, is bit 3 × p + a + 1
    wrong-bit : (p a : ℕ) → a < 3 → bit a (block_taken taken p) ≢ bit a (block_sent sent p)
        → WrongBit sent taken (3 * p + a + 1)
    wrong-bit p a l ne same =
        let symbol : (3 * p + a + 1 - 1) % 3 ≡ a = omega arith in
        let block : (3 * p + a + 1 - 1) / 3 + 1 ≡ suc p = omega arith in
        ne (sym (ap₂ (λ (i q : ℕ). bit i (taken_at taken q).block) symbol block) ∙ same
        ∙ ap₂ (λ (i q : ℕ). bit i (sent_at sent q).block) symbol block)

    -- where the decoder on errors alone delivers zero, what was sent is delivered
    pub right_at : (p : ℕ) → delay ≤ p → p < length taken → delivered (error_memory linked p) (errors linked p) ≡ 0
        → Corrected sent taken (suc p)
    right_at p late inside zeros =
        answers_complete (decoded decoder rs) p inside late
        ∙ ap (λ d. Ok (Some d))
        (delivers linked p inside late zeros
        ∙ ap (λ (k : ℕ). (get_or sent k none_sent).info) (let q : suc (p - 18) - 1 ≡ suc p - 18 - 1 = omega arith in q))

    module _ (apart : Separated (WrongBit sent taken) 10 56 (3 * length taken)) where
      spread : Spread (errors linked)
      spread = record {
        below = errors_below linked;
        apart = λ p q a b al bl x y over.
            let u = errors_bit linked p a x in
            let v = errors_bit linked q b y in
            let inside = v.0 in
            move (3 * p + a) (3 * q + b)
            (apart (3 * p + a + 1) (3 * q + b + 1) (omega arith) (omega arith) (omega arith)
            (wrong-bit p a al u.1) (wrong-bit q b bl v.1));
      }
        where
          move : (i j : ℕ) → (j + 1 < i + 1 + 10) ⊎ (i + 1 + 56 < j + 1) → (j < i + 10) ⊎ (i + 56 < j)
          move i j (inl h) = inl (omega arith)
          move i j (inr h) = inr (omega arith)

      pub right_from : (a : ℕ) → error_memory linked a ≡ quiet
          → (p : ℕ) → a < p → delay < p → p ≤ length taken → Corrected sent taken p
      right_from a is zero after late inside = absurd (omega arith)
      right_from a is (suc p) after late inside =
          right_at p (omega arith) (omega arith)
          (quiet_on (record { spread = spread; next = error_next linked }) a is p (omega arith))

-- ---- from started memories

module _ (bs rs : List ℕ)
    (enough : length (taken_by (started decoder_words) rs) ≤ length (sent_by (started coder_words) bs)) where
  started-quiet : error_memory (linked (started coder_words) (started decoder_words) bs rs enough) 0 ≡ quiet
  started-quiet =
      error_first (linked (started coder_words) (started decoder_words) bs rs enough)
      ∙ ap₂ (λ (s m : List ℕ). 18 ∷ (pending_of s ⊕ coder_pending m) ∷ drop 2 s) (decoder-first (started decoder_words) rs)
      (coder_first (started coder_words) bs)
      ∙ ap (λ (x : ℕ). 18 ∷ x ∷ drop 2 (started decoder_words)) (xor_zero_r 0)

pub correction_ten : IwadareCorrectionTen
correction_ten bs rs enough bursts p after inside =
    let apart = bursts-separated (WrongBit (sent_by (started coder_words) bs) (taken_by (started decoder_words) rs))
    10 56 (3 * length (taken_by (started decoder_words) rs)) bursts in
    right_from (started coder_words) (started decoder_words) bs rs enough apart 0 (started-quiet bs rs enough) p
    (omega arith) after inside

pub correction : IwadareCorrection
correction bs rs enough bursts =
    correction_ten bs rs enough
    (bursts_longer (WrongBit (sent_by (started coder_words) bs) (taken_by (started decoder_words) rs)) 9 10 56
    (3 * length (taken_by (started decoder_words) rs)) (omega arith) bursts)
