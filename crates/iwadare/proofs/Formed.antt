-- Well-formed memories: what 13 and 14 let pass, a start makes, and the steps keep. Assumes nothing.
use mathlib.Core.Path.{◌≡◌, refl, sym, ap, ◌∙◌, subst}
use mathlib.Core.Bool.{false}
use mathlib.Core.List.{List}
use Prim.Native.Nat.{ℕ, suc, ◌+◌, ◌/◌, ◌%◌, ◌^◌, ◌≤◌, ◌<◌}
use native.Mathlib.Decide.{dec_lt, ℕ_discrete}
use native.Mathlib.Omega.{arith}
use borrow.Author.Tests.{lt-ltb, le-ltb, lt-leb, leb-false}
use lib.Dec.{leb}
use Rattle.span.specs.Word.{sel}
use Rattle.span.specs.Combination.{combination}
use Rattle.span.proofs.Word.{xor_lt, sel-lt}
use Rattle.tables.proofs.Fit.{zeros-at}
use Rattle.link.specs.Memory.{joining}
use Rattle.link.proofs.Memory.{joining-is}
use Rattle.link.proofs.Refusals.{none_or}
use Rattle.link.proofs.Malformed.{none_above}
use Rattle.link.proofs.Runs.{ran_keeps}
use Rattle.iwadare.specs.Memory.{generators, coder_words, coder_pending, pending_bound, decoder_words, delay, fill_of}
use Rattle.iwadare.specs.Memory.{pending_of, terms_of, terms_bound, word_back, delayed_bound, received_bound, fill_next}
use Rattle.iwadare.specs.Refusals.{coder_malformed, decoder_malformed, coder_fault, decoder_fault}
use Rattle.iwadare.specs.Coder.{coder_next, code_memory}
use Rattle.iwadare.specs.Decoder.{register_of, flips_symbol1, decoder_next, decode_memory}
use Rattle.iwadare.specs.Runs.{handed, none_sent, none_taken}
use Rattle.iwadare.specs.Formed.{CoderFormed, DecoderFormed, IwadareFormedExactly, IwadareFormedSteps}
use Rattle.iwadare.specs.Formed.{IwadareStartedFormed, IwadareFormedThroughout}
use Rattle.iwadare.proofs.Refusals.{step_settled}
use Rattle.iwadare.proofs.Coder.{coder-taken}
use Rattle.iwadare.proofs.Decoder.{formed-passed, decoder-taken, register_lt}
use Rattle.iwadare.proofs.Words.{coder-step, delayed, DecoderStep, decoder_step, terms-lt}
use Rattle.iwadare.proofs.Taps.{images}
use Rattle.iwadare.proofs.Runs.{Tableless, coder-memory, decoder-memory, sent_kept, sent_entry, sent-told, taken_kept}
use Rattle.iwadare.proofs.Runs.{taken_entry, taken-told}

-- ---- 13 and 14

decoder-fine : (s : List ℕ) → DecoderFormed s → decoder_malformed s ≡ false
decoder-fine s f =
    none_or _ _ (none_or _ _ (none_or _ _ (le-ltb delay (fill_of s) f.fill)
    (lt-leb pending_bound (pending_of s) f.pending)) (lt-leb terms_bound (terms_of s) f.terms))
    (none_above delayed_bound s (word_back delay) delay f.delayed)

coder-fine : (s : List ℕ) → CoderFormed s → coder_malformed s ≡ false
coder-fine s f = lt-leb pending_bound (coder_pending s) f.pending

pub formed-exactly : IwadareFormedExactly
formed-exactly s = (
  (
    λ f. (f.size, coder-fine s f),
    λ h. record { size = h.0; pending = leb-false pending_bound (coder_pending s) h.1 },
  ),
  (λ f. (f.size, decoder-fine s f), λ h. formed-passed s h.0 h.1),
)

pub formed_steps : IwadareFormedSteps
unfolding coder_fault decoder_fault
formed_steps s b = (
  λ f. step_settled coder_words (coder_malformed s) delayed_bound s b f.size false (leb delayed_bound b)
      (coder-fine s f) refl,
  λ f. step_settled decoder_words (decoder_malformed s) received_bound s b f.size false (leb received_bound b)
      (decoder-fine s f) refl,
)

pub started_formed : IwadareStartedFormed
started_formed = (
  record { size = refl; pending = omega arith },
  record {
    size = refl;
    fill = omega arith;
    pending = omega arith;
    terms = omega arith;
    delayed = λ i h. let z = zeros-at 21 (3 + i) in omega arith;
  },
)

-- ---- steps

-- a pending word stays below 2^18
joining-lt : (pending info : ℕ) → pending < 2 ^ 18 → joining generators pending info / 2 < 2 ^ 18
joining-lt pending info h =
    let z = xor_lt 19 pending (combination generators info) (omega arith) (images info) in
    let e = joining-is generators pending info in
    omega arith

coder-kept : (s : List ℕ) (b : ℕ) → coder_fault s b ≡ 0 → CoderFormed (coder_next s b)
coder-kept s b e =
    let k = coder-step s b e in
    record {
      size = k.size ∙ (coder-taken s b e).formed.size;
      pending = subst (λ (x : ℕ). x < 2 ^ 18) (sym k.pending_on) (joining-lt (coder_pending s) b k.pending_lt);
    }

decoder-kept : (s : List ℕ) (r : ℕ) → decoder_fault s r ≡ 0 → DecoderFormed (decoder_next s r)
decoder-kept s r e = record {
  size = k.size;
  fill = subst (λ (x : ℕ). x ≤ 18) (sym k.fill_on) (fill-most (fill_of s) f.fill (dec_lt (fill_of s) 18));
  pending =
      subst (λ (x : ℕ). x < 2 ^ 18) (sym k.pending_on) (joining-lt (pending_of s) (r % 2 ^ 2) f.pending);
  terms =
      subst (λ (x : ℕ). x < 2 ^ 12) (sym k.terms_on) (terms-lt (register_of s r) (register_lt s r f.terms));
  delayed = λ i h. low i h (ℕ_discrete i 17) (ℕ_discrete i 2);
}
  where
    f : DecoderFormed s
    f = (decoder-taken s r e).formed

    k : DecoderStep s r (decoder_next s r)
    k = decoder_step s r f.size

    fill-most : (fill : ℕ) → fill ≤ 18 → Dec (fill < 18) → fill_next fill ≤ 18
    fill-most fill h (yes l) = rw (lt-ltb fill 18 l) (omega arith)
    fill-most fill h (no l) = rw (le-ltb fill 18 (let z : 18 ≤ fill = omega arith in z)) h

    low : (i : ℕ) → i < 18 → Dec (i ≡ 17) → Dec (i ≡ 2) → delayed (decoder_next s r) i < 4
    low i h (yes d) c =
        subst (λ (x : ℕ). x < 4) (sym (ap (delayed (decoder_next s r)) d ∙ k.youngest))
        (let z : r % 4 < 4 = omega arith in z)
    low i h (no d) (yes c) =
        subst (λ (x : ℕ). x < 4) (sym (ap (delayed (decoder_next s r)) c ∙ k.flipped))
        (xor_lt 2 (delayed s 3) (sel (flips_symbol1 (register_of s r)) 2) (f.delayed 3 (omega arith))
        (sel-lt 2 (flips_symbol1 (register_of s r)) 2 (omega arith)))
    low i h (no d) (no c) =
        subst (λ (x : ℕ). x < 4) (sym (k.moved i (omega arith) c)) (f.delayed (suc i) (omega arith))

pub formed_throughout : IwadareFormedThroughout
formed_throughout s bs = (
  λ f. ran_keeps (λ (n : Tableless). coder_fault) (λ n. coder_next) (λ n. code_memory) coder-memory sent_kept sent_entry sent-told
      CoderFormed (λ x. Unit {0}) none_sent (λ c m e a k. coder-kept m c.block e) s (handed bs) f (λ p h. tt),
  λ f. ran_keeps (λ (n : Tableless). decoder_fault) (λ n. decoder_next) (λ n. decode_memory) decoder-memory taken_kept taken_entry
      taken-told DecoderFormed (λ x. Unit {0}) none_taken (λ c m e a k. decoder-kept m c.block e) s (handed bs) f
      (λ p h. tt),
)
