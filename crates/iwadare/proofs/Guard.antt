-- A decoder on errors alone, of which the first `many` blocks are right: 18 of them leave its pending word 0, 12 more
-- its terms, and no flip comes any more that could have reached a block of these. Assumes nothing.
--
--   guard_delivers   past 21 of them each delivers zero
--   guarded          after 30 of them the memory is quiet
use mathlib.Core.Path.{◌≡◌, sym, ap, ap₂, ◌∙◌, subst}
use mathlib.Core.Bool.{Bool, false, xor}
use mathlib.Core.Logic.{◌⊎◌, inl, inr}
use mathlib.Core.List.{List}
use Prim.Native.Nat.{ℕ, zero, suc, ◌+◌, ◌-◌, ◌/◌, ◌%◌, ◌^◌, ◌≤◌, ◌<◌}
use native.Mathlib.Nat.{add-zero}
use native.Mathlib.Decide.{ℕ_discrete}
use native.Mathlib.Omega.{arith}
use lib.ListN.{length, get_or}
use lib.Seq.{ext_get_or}
use Rattle.span.specs.Word.{◌⊕◌, odd, sel}
use Rattle.span.proofs.Word.{xor-false-l, xor_zero_r, odd-digit, bit-none}
use Rattle.span.proofs.Combination.{combination-zero}
use Rattle.tables.proofs.Fit.{zeros-at}
use Rattle.link.specs.Memory.{joining}
use Rattle.link.specs.Step.{register}
use Rattle.link.proofs.Memory.{joining-is}
use Rattle.iwadare.specs.Memory.{generators, fill_of, pending_of, terms_of, fill_next}
use Rattle.iwadare.specs.Decoder.{decoder_joining, raw_of, register_of, flips_symbol1, flips_symbol0, terms_next}
use Rattle.iwadare.specs.Decoder.{decoder_next, delivered}
use Rattle.iwadare.proofs.Decoder.{register_lt}
use Rattle.iwadare.proofs.Words.{delayed, DecoderStep, decoder_step, no_flip_symbol1, no_flip_symbol0}
use Rattle.iwadare.proofs.Words.{terms_quiet, terms-lt}
use Rattle.iwadare.proofs.Patterns.{quiet}

-- the delayed blocks from number j on are zero
abbrev Tail : ℕ → List ℕ → Type 0
Tail j s = (i : ℕ) → j ≤ i → i < 18 → delayed s i ≡ 0

-- ---- a right block

joined-none : (pending : ℕ) → joining generators pending (0 % 2 ^ 2) ≡ pending
joined-none pending =
    joining-is generators pending 0 ∙ ap (λ (x : ℕ). pending ⊕ x) (combination-zero generators) ∙ xor_zero_r pending

module _ (s : List ℕ) (size : length s ≡ 21) where
  step : DecoderStep s 0 (decoder_next s 0)
  step = decoder_step s 0 size

  pending-half : pending_of (decoder_next s 0) ≡ pending_of s / 2
  pending-half = step.pending_on ∙ ap (λ (w : ℕ). w / 2) (joined-none (pending_of s))

  -- where the pending word is 0, so is the raw term
  register-none : pending_of s ≡ 0 → register_of s 0 ≡ terms_of s
  unfolding register_of raw_of decoder_joining
  register-none z =
      ap₂ (λ (a b : Bool). register 13 (terms_of s) (xor a b))
      (ap odd (joined-none (pending_of s) ∙ z) ∙ odd-digit false) (bit-none 2 0 (omega arith))
      ∙ ap (register 13 (terms_of s)) (xor-false-l false) ∙ add-zero (terms_of s)

  terms-half : pending_of s ≡ 0 → terms_of s < 2 ^ 12 → terms_of (decoder_next s 0) ≡ terms_of s / 2
  terms-half z h =
      step.terms_on ∙ ap terms_next (register-none z) ∙ terms_quiet (terms_of s) h

  -- a flip reaches number 3 only
  tail-on : (j : ℕ) → 3 ≤ j ⊎ (flips_symbol1 (register_of s 0) ≡ false) → Tail (suc j) s → Tail j (decoder_next s 0)
  tail-on j c t i from to = go (ℕ_discrete i 17) (ℕ_discrete i 2) c
    where
      go : Dec (i ≡ 17) → Dec (i ≡ 2) → 3 ≤ j ⊎ (flips_symbol1 (register_of s 0) ≡ false)
          → delayed (decoder_next s 0) i ≡ 0
      go (yes e) d c = ap (delayed (decoder_next s 0)) e ∙ step.youngest
      go (no e) (no d) c = step.moved i (omega arith) d ∙ t (suc i) (omega arith) (omega arith)
      go (no e) (yes d) (inl l) = absurd (omega arith)
      go (no e) (yes d) (inr f) =
          ap (delayed (decoder_next s 0)) d ∙ step.flipped
          ∙ ap₂ (λ (x : ℕ) (b : Bool). x ⊕ sel b 2) (t 3 (omega arith) (omega arith)) f ∙ xor_zero_r 0

-- ---- many of them

module _ (E : ℕ → List ℕ) (e : ℕ → ℕ) (next : (p : ℕ) → E (suc p) ≡ decoder_next (E p) (e p)) (many : ℕ)
    (right : (p : ℕ) → p < many → e p ≡ 0)
    (size : length (E 0) ≡ 21) (fill : fill_of (E 0) ≡ 18) (pending : pending_of (E 0) < 2 ^ 18)
    (terms : terms_of (E 0) < 2 ^ 12) where
  on : (p : ℕ) → p < many → E (suc p) ≡ decoder_next (E p) 0
  on p h = next p ∙ ap (decoder_next (E p)) (right p h)

  -- past the first 18
  on-past : (d : ℕ) → 18 + suc d ≤ many → E (18 + suc d) ≡ decoder_next (E (18 + d)) 0
  on-past d h = ap E (let q : 18 + suc d ≡ suc (18 + d) = omega arith in q) ∙ on (18 + d) (omega arith)

  sizes : (p : ℕ) → p ≤ many → length (E p) ≡ 21
  sizes zero h = size
  sizes (suc p) h = ap length (on p (omega arith)) ∙ (decoder_step (E p) 0 (sizes p (omega arith))).size

  fills : (p : ℕ) → p ≤ many → fill_of (E p) ≡ 18
  fills zero h = fill
  fills (suc p) h =
      ap fill_of (on p (omega arith)) ∙ (decoder_step (E p) 0 (sizes p (omega arith))).fill_on
      ∙ ap fill_next (fills p (omega arith))

  pending-falls : (p k : ℕ) → p ≤ many → p + k ≡ 18 → pending_of (E p) < 2 ^ k
  pending-falls zero k l h = subst (λ (j : ℕ). pending_of (E 0) < 2 ^ j) (let q : 18 ≡ k = omega arith in q) pending
  pending-falls (suc p) k l h =
      let z = pending-falls p (suc k) (omega arith) (omega arith) in
      let half = ap pending_of (on p (omega arith)) ∙ pending-half (E p) (sizes p (omega arith)) in
      omega arith

  pending-none : (d : ℕ) → 18 + d ≤ many → pending_of (E (18 + d)) ≡ 0
  pending-none zero h = let z = pending-falls 18 0 (omega arith) (omega arith) in omega arith
  pending-none (suc d) h =
      let z = pending-none d (omega arith) in
      let half = ap pending_of (on-past d h) ∙ pending-half (E (18 + d)) (sizes (18 + d) (omega arith)) in
      omega arith

  terms-low : (p : ℕ) → p ≤ many → terms_of (E p) < 2 ^ 12
  terms-low zero h = terms
  terms-low (suc p) h =
      subst (λ (x : ℕ). x < 2 ^ 12)
      (sym (ap terms_of (on p (omega arith)) ∙ (decoder_step (E p) 0 (sizes p (omega arith))).terms_on))
      (terms-lt (register_of (E p) 0) (register_lt (E p) 0 (terms-low p (omega arith))))

  terms-fall : (d k : ℕ) → 18 + d ≤ many → d + k ≡ 12 → terms_of (E (18 + d)) < 2 ^ k
  terms-fall zero k l h =
      subst (λ (j : ℕ). terms_of (E 18) < 2 ^ j) (let q : 12 ≡ k = omega arith in q) (terms-low 18 (omega arith))
  terms-fall (suc d) k l h =
      let z = terms-fall d (suc k) (omega arith) (omega arith) in
      let half = ap terms_of (on-past d l)
      ∙ terms-half (E (18 + d)) (sizes (18 + d) (omega arith)) (pending-none d (omega arith))
      (terms-low (18 + d) (omega arith)) in
      omega arith

  -- flips or not: the youngest blocks are right ones, as far as no flip reaches
  tail-young : (p j : ℕ) → p ≤ many → 3 ≤ j → 18 ≤ p + j → Tail j (E p)
  tail-young zero j h low reach = λ i from to. absurd (omega arith)
  tail-young (suc p) j h low reach =
      subst (Tail j) (sym (on p (omega arith)))
      (tail-on (E p) (sizes p (omega arith)) j (inl low)
      (tail-young p (suc j) (omega arith) (omega arith) (omega arith)))

  -- and once no flip comes, all are
  tail_all : (d j : ℕ) → 18 + d ≤ many → 3 ≤ d + j → Tail j (E (18 + d))
  tail_all zero j h reach = tail-young 18 j (omega arith) (omega arith) (omega arith)
  tail_all (suc d) j h reach =
      subst (Tail j) (sym (on-past d h))
      (tail-on (E (18 + d)) (sizes (18 + d) (omega arith)) j
      (inr (ap flips_symbol1 (register-none (E (18 + d)) (sizes (18 + d) (omega arith)) (pending-none d (omega arith)))
      ∙ no_flip_symbol1 (terms_of (E (18 + d))) (terms-low (18 + d) (omega arith))))
      (tail_all d (suc j) (omega arith) (omega arith)))

  -- the delayed blocks and the newest term are zero
  pub guard_delivers : (p : ℕ) → 21 ≤ p → p < many → delivered (E p) (e p) ≡ 0
  unfolding delivered
  guard_delivers p from to =
      let d = p - 18 in
      let is : p ≡ 18 + d = omega arith in
      ap₂ (λ (q x : ℕ). delayed (E q) 0 ⊕ sel (flips_symbol0 (register_of (E q) x)) 1) is (right p to)
      ∙ ap₂ (λ (x : ℕ) (b : Bool). x ⊕ sel b 1) (tail_all d 0 (omega arith) (omega arith) 0 (omega arith) (omega arith))
      (ap flips_symbol0 (register-none (E (18 + d)) (sizes (18 + d) (omega arith)) (pending-none d (omega arith)))
      ∙ no_flip_symbol0 (terms_of (E (18 + d))) (terms-low (18 + d) (omega arith)))
      ∙ xor_zero_r 0

  pub guarded : 30 ≤ many → E 30 ≡ quiet
  guarded enough = ext_get_or 0 (E 30) quiet (sizes 30 enough) at
    where
      at : (i : ℕ) → i < length (E 30) → get_or (E 30) i 0 ≡ get_or quiet i 0
      at zero h = fills 30 enough
      at (suc zero) h = pending-none 12 enough
      at (suc (suc zero)) h = let z = terms-fall 12 0 enough (omega arith) in omega arith
      at (suc (suc (suc i))) h =
          let n = sizes 30 enough in
          ap (λ (j : ℕ). get_or (E 30) j 0) (let q : suc (suc (suc i)) ≡ 3 + i = omega arith in q)
          ∙ tail_all 12 0 enough (omega arith) i (omega arith) (omega arith)
          ∙ sym (zeros-at 18 i)
