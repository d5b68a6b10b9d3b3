-- What a step that is taken does to each word, and the laws of the decoder's terms. Delayed block i, the oldest first,
-- stands at word 3 + i. Assumes nothing.
--
--   CoderStep, coder-step       what a coder's step does
--   delayed                     a delayed block
--   DecoderStep, decoder_step   what a decoder's step does
--   no_flip_symbol1, no_flip_symbol0, terms_quiet   where the newest term is 0 nothing is flipped
--   terms-lt                    the terms stay below 2^12
use mathlib.Core.Path.{◌≡◌, refl, sym, ap, ap₂, ◌∙◌}
use mathlib.Core.Bool.{Bool, true, false, ◌&&◌}
use mathlib.Core.Logic.{◌≢◌}
use mathlib.Core.List.{List, [], ◌∷◌, ◌++◌}
use Prim.Native.Nat.{ℕ, suc, ◌+◌, ◌*◌, ◌/◌, ◌%◌, ◌^◌, ◌<◌}
use native.Mathlib.Omega.{arith}
use lib.ListN.{length, get_or, set, drop, length-append, length-drop, length-set, get_or-append}
use lib.Seq.{get_or-drop, get_or-set_same, get_or-set_other, get_or_at}
use Rattle.span.specs.Word.{◌⊕◌, odd, bit, sel, digit}
use Rattle.span.proofs.Word.{xor_zero_r, xor_lt, sel-lt, bit-none}
use Rattle.link.specs.Memory.{joining}
use Rattle.iwadare.specs.Memory.{generators, coder_pending, fill_of, pending_of, terms_of, fill_next}
use Rattle.iwadare.specs.Refusals.{coder_fault}
use Rattle.iwadare.specs.Coder.{coder_joining, coded_block, coder_next}
use Rattle.iwadare.specs.Decoder.{decoder_joining, register_of, flips_symbol1, flips_symbol0, matched, terms_next}
use Rattle.iwadare.specs.Decoder.{decoder_next}
use Rattle.iwadare.proofs.Coder.{coder-taken}

-- ---- the coder's step

pub record CoderStep (s : List ℕ) (b c : ℕ) (after : List ℕ) : Type 0 where
  pub pending_lt : coder_pending s < 2 ^ 18
  pub info_lt : b < 2 ^ 2
  pub coded : c ≡ b + digit (odd (joining generators (coder_pending s) b)) * 2 ^ 2
  pub size : length after ≡ length s
  pub pending_on : coder_pending after ≡ joining generators (coder_pending s) b / 2

pub coder-step : (s : List ℕ) (b : ℕ) → coder_fault s b ≡ 0 → CoderStep s b (coded_block s b) (coder_next s b)
unfolding coded_block coder_next coder_joining
coder-step s b e =
    let k = coder-taken s b e in
    record {
      pending_lt = k.formed.pending;
      info_lt = k.info;
      coded = refl;
      size = length-set s 0 (joining generators (coder_pending s) b / 2);
      pending_on =
          get_or-set_same s 0 (joining generators (coder_pending s) b / 2) 0 (let z = k.formed.size in omega arith);
    }

-- ---- the decoder's step

abbrev pub delayed : List ℕ → ℕ → ℕ
delayed s i = get_or s (3 + i) 0

pub record DecoderStep (s : List ℕ) (r : ℕ) (after : List ℕ) : Type 0 where
  pub size : length after ≡ 21
  pub fill_on : fill_of after ≡ fill_next (fill_of s)
  pub pending_on : pending_of after ≡ joining generators (pending_of s) (r % 2 ^ 2) / 2
  pub terms_on : terms_of after ≡ terms_next (register_of s r)
  pub moved : (i : ℕ) → i < 17 → i ≢ 2 → delayed after i ≡ delayed s (suc i)
  pub flipped : delayed after 2 ≡ delayed s 3 ⊕ sel (flips_symbol1 (register_of s r)) 2
  pub youngest : delayed after 17 ≡ r % 2 ^ 2

module _ (s : List ℕ) (r : ℕ) (size : length s ≡ 21) where
  abbrev flip : ℕ
  flip = delayed s 3 ⊕ sel (flips_symbol1 (register_of s r)) 2

  abbrev kept : List ℕ
  kept = drop 4 (set s 6 flip)

  kept-length : length kept ≡ 17
  kept-length =
      let a = length-drop 4 (set s 6 flip) in
      let b = length-set s 6 flip in
      omega arith

  kept_at : (i : ℕ) → i < 17 → get_or (kept ++ (r % 2 ^ 2 ∷ [])) i 0 ≡ get_or (set s 6 flip) (4 + i) 0
  kept_at i h =
      let k = kept-length in
      get_or-append kept (r % 2 ^ 2 ∷ []) 0 i (omega arith) ∙ get_or-drop 4 (set s 6 flip) i 0

  pub decoder_step : DecoderStep s r (decoder_next s r)
  unfolding decoder_next decoder_joining
  decoder_step = record {
    size =
        let a = length-append kept (r % 2 ^ 2 ∷ []) in
        let b = kept-length in
        omega arith;
    fill_on = refl;
    pending_on = refl;
    terms_on = refl;
    moved = λ i h ne.
        sym (get_or-drop 3 (decoder_next s r) i 0) ∙ kept_at i h
        ∙ get_or-set_other s 6 (4 + i) flip 0 (λ (e : 4 + i ≡ 6). ne (omega arith))
        ∙ ap (λ (k : ℕ). get_or s k 0) (let e : 4 + i ≡ 3 + suc i = omega arith in e);
    flipped = kept_at 2 (omega arith) ∙ get_or-set_same s 6 flip 0 (omega arith);
    youngest = get_or_at kept (r % 2 ^ 2) [] 0 17 kept-length;
  }

-- ---- terms

and_none : (s t : Bool) → s ≡ false → s && t ≡ false
and_none true t e = let z : ◌≡◌ {A = ℕ} 0 1 = cc in absurd (omega arith)
and_none false t e = refl

module _ (x : ℕ) (h : x < 2 ^ 12) where
  newest : bit 12 x ≡ false
  newest = bit-none 12 x h

  pub no_flip_symbol1 : flips_symbol1 x ≡ false
  unfolding flips_symbol1
  no_flip_symbol1 = and_none (bit 12 x) (bit 0 x) newest

  pub no_flip_symbol0 : flips_symbol0 x ≡ false
  unfolding flips_symbol0
  no_flip_symbol0 = rw newest

  pub terms_quiet : terms_next x ≡ x / 2
  unfolding terms_next matched
  terms_quiet =
      ap (λ (y : ℕ). y / 2)
      (ap₂ (λ (a b : Bool). x ⊕ (sel a (2 ^ 12 + 2 ^ 0) ⊕ sel b (2 ^ 12 + 2 ^ 1))) no_flip_symbol1 no_flip_symbol0
      ∙ ap (λ (y : ℕ). x ⊕ y) (xor_zero_r 0) ∙ xor_zero_r x)

pub terms-lt : (x : ℕ) → x < 2 ^ 13 → terms_next x < 2 ^ 12
unfolding terms_next matched
terms-lt x h =
    let a = sel-lt 13 (flips_symbol1 x) (2 ^ 12 + 2 ^ 0) (omega arith) in
    let b = sel-lt 13 (flips_symbol0 x) (2 ^ 12 + 2 ^ 1) (omega arith) in
    let m = xor_lt 13 (sel (flips_symbol1 x) (2 ^ 12 + 2 ^ 0)) (sel (flips_symbol0 x) (2 ^ 12 + 2 ^ 1)) a b in
    let z = xor_lt 13 x (sel (flips_symbol1 x) (2 ^ 12 + 2 ^ 0) ⊕ sel (flips_symbol0 x) (2 ^ 12 + 2 ^ 1)) h m in
    omega arith
