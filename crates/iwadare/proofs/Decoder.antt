-- The decoder's step: its refusals, and what the tests of a step that is taken say. Assumes nothing.
--
--   decoder-fault                  the chain of tests
--   decode-refuses, decodes, decodes-so   answer and memory of a step that is refused and of one that is not, and the
--                                  promise
--   delivery-numbers               the numbers of a step that is taken
--   formed-passed                  what 13 and 14 let pass
--   DecoderTaken, decoder-taken    what the tests of a step that is taken say
--   register_lt, delivered-below   the 13 terms are below 2^13, and the information that is delivered below 4
use mathlib.Core.Path.{◌≡◌, refl, ap, ◌∙◌}
use mathlib.Core.Bool.{Bool, true, false, cond, not, ◌||◌}
use mathlib.Core.List.{List, [], ◌∷◌}
use Prim.Native.Nat.{ℕ, ◌^◌, ◌<◌}
use native.Mathlib.Omega.{arith}
use borrow.Author.Tests.{leb-false, ltb-false}
use lib.Dec.{leb, ltb, eqb}
use lib.ListN.{length}
use Rattle.span.specs.Word.{sel}
use Rattle.span.proofs.Word.{xor_lt, sel-lt}
use Rattle.span.proofs.Masks.{topped-lt}
use Rattle.link.specs.Refusals.{Answer, some_above, refused}
use Rattle.link.proofs.Refusals.{or-none, refuses, takes, call-numbers, numbered}
use Rattle.link.proofs.Malformed.{some-none}
use Rattle.std.specs.Prelude.{Option, Some, None, Ok}
use Rattle.iwadare.specs.Memory.{decoder_words, delay, fill_of, pending_of, terms_of, word_back, delayed_back}
use Rattle.iwadare.specs.Memory.{pending_bound, terms_bound, delayed_bound, received_bound}
use Rattle.iwadare.specs.Refusals.{decoder_malformed, decoder_fault}
use Rattle.iwadare.specs.Formed.{DecoderFormed}
use Rattle.iwadare.specs.Decoder.{raw_of, register_of, flips_symbol0, decoder_next, delivered, delivery, decode_answer}
use Rattle.iwadare.specs.Decoder.{decode_memory, decode_numbers, decode_values, Decodes}
use Rattle.iwadare.proofs.Refusals.{step_fault_lem, step_passed, decoder-range}

-- ---- refusals

pub decoder-fault : (s : List ℕ) (r : ℕ)
    → decoder_fault s r
    ≡ cond (not (eqb (length s) decoder_words)) 13 (cond (decoder_malformed s) 14 (cond (leb received_bound r) 15 0))
unfolding decoder_fault
decoder-fault s r = step_fault_lem decoder_words (decoder_malformed s) received_bound s r

pub decode-refuses : (s : List ℕ) (r : ℕ) (k : ℕ) → decoder_fault s r ≡ k → 0 < k
    → (refused k ≡ decode_answer s r) × (s ≡ decode_memory s r)
unfolding decode_answer decode_memory
decode-refuses s r = refuses refused (decoder_fault s r) (delivery s r) (decoder_next s r) s

pub decodes : (s : List ℕ) (r : ℕ) → decoder_fault s r ≡ 0
    → (delivery s r ≡ decode_answer s r) × (decoder_next s r ≡ decode_memory s r)
unfolding decode_answer decode_memory
decodes s r = takes refused (decoder_fault s r) (delivery s r) (decoder_next s r) s

delivery-numbers : (s : List ℕ) (r : ℕ) → decode_numbers (delivery s r) ≡ 0 ∷ decode_values s r
unfolding delivery
delivery-numbers s r = go (ltb (fill_of s) delay)
  where
    go : (b : Bool)
        → decode_numbers (cond b (Ok None) (Ok (Some (delivered s r))))
        ≡ 0 ∷ cond b (0 ∷ 0 ∷ []) (1 ∷ delivered s r ∷ [])
    go true = refl
    go false = refl

-- answer and memory are all that is promised: the numbers follow
pub decodes-so : (s : List ℕ) (b : ℕ) (r : Answer (Option ℕ)) (after : List ℕ) → r ≡ decode_answer s b
    → after ≡ decode_memory s b → Decodes s b r after
unfolding decode_answer
decodes-so s b r after p q = record {
  answer = p;
  memory = q;
  numbers = ap decode_numbers p
      ∙ call-numbers decode_numbers (decoder_fault s b) (delivery s b) refused (decode_values s b) (delivery-numbers s b)
      (λ some. let l = decoder-range s b some in numbered _ (omega (arith, l.0), l.1));
}

-- ---- a step that is taken

-- what 13 and 14 let pass
pub formed-passed : (s : List ℕ) → length s ≡ decoder_words → decoder_malformed s ≡ false → DecoderFormed s
formed-passed s size e =
    let fill = ltb delay (fill_of s) in
    let pending = leb pending_bound (pending_of s) in
    let terms = leb terms_bound (terms_of s) in
    let g3 = or-none (fill || pending || terms) (some_above delayed_bound s (word_back delay) delay) e in
    let g2 = or-none (fill || pending) terms g3.0 in
    let g1 = or-none fill pending g2.0 in
    record {
      size = size;
      fill = ltb-false delay (fill_of s) g1.0;
      pending = leb-false pending_bound (pending_of s) g1.1;
      terms = leb-false terms_bound (terms_of s) g2.1;
      delayed = some-none delayed_bound s (word_back delay) delay g3.1;
    }

pub record DecoderTaken (s : List ℕ) (r : ℕ) : Type 0 where
  pub formed : DecoderFormed s
  pub block : r < received_bound

pub decoder-taken : (s : List ℕ) (r : ℕ) → decoder_fault s r ≡ 0 → DecoderTaken s r
unfolding decoder_fault
decoder-taken s r e =
    let p = step_passed decoder_words (decoder_malformed s) received_bound s r e in
    record { formed = formed-passed s p.size p.formed; block = p.block }

pub register_lt : (s : List ℕ) (r : ℕ) → terms_of s < 2 ^ 12 → register_of s r < 2 ^ 13
unfolding register_of
register_lt s r h = topped-lt 12 (terms_of s) (raw_of s r) h

pub delivered-below : (s : List ℕ) (r : ℕ) → decoder_fault s r ≡ 0 → delivered s r < 4
unfolding delivered
delivered-below s r e =
    let flip = flips_symbol0 (register_of s r) in
    xor_lt 2 (delayed_back s delay) (sel flip 1) ((decoder-taken s r e).formed.delayed 0 (omega arith))
    (sel-lt 2 flip 1 (omega arith))
