-- Coder and decoder together, as sequences: the decoder on what was taken is the decoder on the errors alone, with the
-- information sent added to its delayed blocks (000, eq. 3, and both are linear). Assumes nothing.
--
--   Linked         coder and decoder in step, and where the wrong bits lie
--   errors         the error blocks; past the last block that was taken there are none
--   error_memory   the memory of the decoder on errors alone
--   error_first, error_next   its first memory, and the step to each later one
--   FirstFormed, first_formed   the first has its bounds
--   errors_below, errors_bit   a wrong bit of an error block is one of a taken block
--   delivers       where it delivers zero, the decoder delivers what was sent
use mathlib.Core.Path.{◌≡◌, refl, sym, ap, ap₂, ◌∙◌, subst}
use mathlib.Core.Bool.{Bool, true, cond, xor, true≢false}
use mathlib.Core.Logic.{◌≢◌}
use mathlib.Core.List.{List, [], ◌∷◌, ◌++◌}
use Prim.Native.Nat.{ℕ, zero, suc, ◌+◌, ◌-◌, ◌/◌, ◌%◌, ◌^◌, ◌≤◌, ◌<◌}
use native.Mathlib.Nat.{add-zero}
use native.Mathlib.Decide.{dec_lt, ℕ_discrete}
use native.Mathlib.Omega.{arith}
use borrow.Author.Tests.{lt-ltb, le-ltb, le-leb, lt-leb}
use lib.Dec.{leb, ltb}
use lib.ListN.{length, get_or, drop, length-drop}
use lib.Seq.{get_or-drop}
use lib.Pow.{pow_pos}
use Rattle.link.specs.Refusals.{Answer}
use Rattle.std.specs.Prelude.{Option}
use Rattle.span.specs.Word.{◌⊕◌, odd, bit, sel}
use Rattle.span.specs.Combination.{combination}
use Rattle.span.proofs.Word.{xor_zero_r, xor_comm, xor_assoc, xor_lt, xor_mod, xor-eq, xor-self-bool, bit-xor, bit-none}
use Rattle.span.proofs.Masks.{topped-lt}
use Rattle.link.specs.Memory.{joining}
use Rattle.link.specs.Step.{register}
use Rattle.link.proofs.Step.{joined_half, joined_odd, both_half, both_odd, coder_info}
use Rattle.iwadare.specs.Memory.{generators, coder_pending, fill_of, pending_of, terms_of, fill_next}
use Rattle.iwadare.specs.Decoder.{decoder_joining, raw_of, register_of, flips_symbol1, flips_symbol0, terms_next}
use Rattle.iwadare.specs.Decoder.{decoder_next, delivered}
use Rattle.iwadare.proofs.Runs.{CoderRun, DecoderRun}
use Rattle.iwadare.proofs.Words.{CoderStep, delayed, DecoderStep, decoder_step}

xor-right : (a b c : ℕ) → a ⊕ b ⊕ c ≡ a ⊕ c ⊕ b
xor-right a b c = xor_assoc a b c ∙ ap (λ (x : ℕ). a ⊕ x) (xor_comm b c) ∙ sym (xor_assoc a c b)

pub record Linked (M S : ℕ → List ℕ) (B C R : ℕ → ℕ) (A : ℕ → Answer (Option ℕ)) (count : ℕ) : Type 0 where
  pub coding : CoderRun M B C count
  pub decoding : DecoderRun S R A count

module _ {M S : ℕ → List ℕ} {B C R : ℕ → ℕ} {A : ℕ → Answer (Option ℕ)} {count : ℕ} (l : Linked M S B C R A count) where
  pub errors : ℕ → ℕ
  errors p = cond (ltb p count) (R p ⊕ C p) 0

  -- with the fill complete
  pub error_memory : ℕ → List ℕ
  error_memory zero = 18 ∷ (pending_of (S 0) ⊕ coder_pending (M 0)) ∷ drop 2 (S 0)
  error_memory (suc p) = decoder_next (error_memory p) (errors p)

  pub error_first : error_memory 0 ≡ 18 ∷ (pending_of (S 0) ⊕ coder_pending (M 0)) ∷ drop 2 (S 0)
  unfolding error_memory
  error_first = refl

  pub error_next : (p : ℕ) → error_memory (suc p) ≡ decoder_next (error_memory p) (errors p)
  unfolding error_memory
  error_next p = refl

  pub errors_in : (p : ℕ) → p < count → errors p ≡ R p ⊕ C p
  unfolding errors
  errors_in p h = rw (lt-ltb p count h)

  pub errors_past : (p : ℕ) → count ≤ p → errors p ≡ 0
  unfolding errors
  errors_past p h = rw (le-ltb p count h)

  -- the information that was sent 18 blocks before block q
  abbrev late : ℕ → ℕ
  late q = cond (leb 18 q) (B (q - 18)) 0

  late_is : (q p : ℕ) → q ≡ p + 18 → late q ≡ B p
  late_is q p e =
      ap (λ (s : Bool). cond s (B (q - 18)) 0) (le-leb 18 q (omega arith))
      ∙ ap B (let z : q - 18 ≡ p = omega arith in z)

  late-none : (q : ℕ) → q < 18 → late q ≡ 0
  late-none q h = ap (λ (s : Bool). cond s (B (q - 18)) 0) (lt-leb 18 q h)

  record Agree (p : ℕ) : Type 0 where
    size : length (error_memory p) ≡ 21
    fill : fill_of (error_memory p) ≡ 18
    pending : pending_of (error_memory p) ≡ pending_of (S p) ⊕ coder_pending (M p)
    terms : terms_of (error_memory p) ≡ terms_of (S p)
    delays : (i : ℕ) → i < 18 → delayed (error_memory p) i ≡ delayed (S p) i ⊕ late (p + i)

  -- ---- one step

  module _ (p : ℕ) (h : p < count) where
    abbrev sends : CoderStep (M p) (B p) (C p) (M (suc p))
    sends = l.coding.codes p h

    abbrev takes : DecoderStep (S p) (R p) (S (suc p))
    takes = l.decoding.decodes p h

    -- the word that joins, with the parity's row
    abbrev joins : ℕ → ℕ → ℕ
    joins pending block = pending ⊕ combination (generators ++ (1 ∷ [])) block

    joins-same : Agree p → joins (pending_of (error_memory p)) (errors p)
        ≡ joins (pending_of (S p) ⊕ coder_pending (M p)) (R p ⊕ C p)
    joins-same g = ap₂ joins g.pending (errors_in p h)

    raw_same : Agree p → raw_of (error_memory p) (errors p) ≡ raw_of (S p) (R p)
    unfolding raw_of decoder_joining
    raw_same g =
        sym (joined_odd generators 2 refl (pending_of (error_memory p)) (errors p)) ∙ ap odd (joins-same g)
        ∙ both_odd generators 2 refl (coder_pending (M p)) (pending_of (S p)) (B p) (C p) (R p) sends.info_lt
        sends.coded

    register-same : Agree p → register_of (error_memory p) (errors p) ≡ register_of (S p) (R p)
    unfolding register_of
    register-same g = ap₂ (register 13) g.terms (raw_same g)

    delivered-same : Agree p → delivered (error_memory p) (errors p) ≡ delivered (S p) (R p) ⊕ late p
    unfolding delivered
    delivered-same g =
        ap₂ (λ (d x : ℕ). d ⊕ sel (flips_symbol0 x) 1) (g.delays 0 (omega arith)) (register-same g)
        ∙ xor-right (delayed (S p) 0) (late (p + 0)) (sel (flips_symbol0 (register_of (S p) (R p))) 1)
        ∙ ap (λ (q : ℕ). delayed (S p) 0 ⊕ sel (flips_symbol0 (register_of (S p) (R p))) 1 ⊕ late q) (add-zero p)

    agree_on : Agree p → Agree (suc p)
    unfolding error_memory
    agree_on g = record {
      size = a.size;
      fill = a.fill_on ∙ ap fill_next g.fill;
      pending =
          a.pending_on ∙ sym (joined_half generators 2 refl (pending_of (error_memory p)) (errors p))
          ∙ ap (λ (x : ℕ). x / 2) (joins-same g)
          ∙ both_half generators 2 refl (coder_pending (M p)) (pending_of (S p)) (B p) (C p) (R p) sends.info_lt
          sends.coded
          ∙ sym (ap₂ ◌⊕◌ takes.pending_on sends.pending_on);
      terms = a.terms_on ∙ ap terms_next (register-same g) ∙ sym takes.terms_on;
      delays = λ i k. late-on i k (ℕ_discrete i 17) (ℕ_discrete i 2);
    }
      where
        a : DecoderStep (error_memory p) (errors p) (decoder_next (error_memory p) (errors p))
        a = decoder_step (error_memory p) (errors p) g.size

        flip : ℕ
        flip = sel (flips_symbol1 (register_of (S p) (R p))) 2

        late-on : (i : ℕ) → i < 18 → Dec (i ≡ 17) → Dec (i ≡ 2)
            → delayed (decoder_next (error_memory p) (errors p)) i ≡ delayed (S (suc p)) i ⊕ late (suc p + i)
        late-on i k (yes e) d =
            ap (delayed (decoder_next (error_memory p) (errors p))) e ∙ a.youngest
            ∙ ap (λ (x : ℕ). x % 2 ^ 2) (errors_in p h) ∙ xor_mod (R p) (C p) 2
            ∙ ap₂ ◌⊕◌ (sym (ap (delayed (S (suc p))) e ∙ takes.youngest))
            (coder_info generators 2 refl (coder_pending (M p)) (pending_of (S p)) (B p) (C p) (R p) sends.info_lt
            sends.coded
            ∙ sym (late_is (suc p + i) p (omega arith)))
        late-on i k (no e) (yes d) =
            ap (delayed (decoder_next (error_memory p) (errors p))) d ∙ a.flipped
            ∙ ap₂ (λ (y x : ℕ). y ⊕ sel (flips_symbol1 x) 2) (g.delays 3 (omega arith)) (register-same g)
            ∙ xor-right (delayed (S p) 3) (late (p + 3)) flip
            ∙ ap₂ ◌⊕◌ (sym (ap (delayed (S (suc p))) d ∙ takes.flipped))
            (ap late (let q : p + 3 ≡ suc p + i = omega arith in q))
        late-on i k (no e) (no d) =
            a.moved i (omega arith) d ∙ g.delays (suc i) (omega arith)
            ∙ ap₂ ◌⊕◌ (sym (takes.moved i (omega arith) d))
            (ap late (let q : p + suc i ≡ suc p + i = omega arith in q))

  -- ---- all of them

  agree-first : 0 < count → Agree 0
  unfolding error_memory
  agree-first h =
      let size = (l.decoding.taken 0 h).formed.size in
      record {
        size = let d = length-drop 2 (S 0) in omega arith;
        fill = refl;
        pending = refl;
        terms = get_or-drop 2 (S 0) 0 0;
        delays = λ i b.
            ap (λ (j : ℕ). get_or (error_memory 0) j 0) (let q : 3 + i ≡ 2 + (1 + i) = omega arith in q)
            ∙ sym (get_or-drop 2 (error_memory 0) (1 + i) 0) ∙ get_or-drop 2 (S 0) (1 + i) 0
            ∙ ap (λ (j : ℕ). get_or (S 0) j 0) (let q : 2 + (1 + i) ≡ 3 + i = omega arith in q)
            ∙ sym (xor_zero_r (delayed (S 0) i))
            ∙ ap (λ (x : ℕ). delayed (S 0) i ⊕ x) (sym (late-none (0 + i) (omega arith)));
      }

  -- the first memory has its bounds
  pub record FirstFormed : Type 0 where
    pub size : length (error_memory 0) ≡ 21
    pub fill : fill_of (error_memory 0) ≡ 18
    pub pending : pending_of (error_memory 0) < 2 ^ 18
    pub terms : terms_of (error_memory 0) < 2 ^ 12

  pub first_formed : 0 < count → FirstFormed
  first_formed h =
      let g = agree-first h in
      let k = (l.decoding.taken 0 h).formed in
      record {
        size = g.size;
        fill = g.fill;
        pending =
            subst (λ (x : ℕ). x < 2 ^ 18) (sym g.pending)
            (xor_lt 18 (pending_of (S 0)) (coder_pending (M 0)) k.pending
            (l.coding.codes 0 h).pending_lt);
        terms = subst (λ (x : ℕ). x < 2 ^ 12) (sym g.terms) k.terms;
      }

  agree : (p : ℕ) → p < count → Agree p
  agree zero h = agree-first h
  agree (suc p) h = agree_on p (omega arith) (agree p (omega arith))

  pub delivers : (p : ℕ) → p < count → 18 ≤ p → delivered (error_memory p) (errors p) ≡ 0
      → delivered (S p) (R p) ≡ B (p - 18)
  delivers p h from zeros =
      xor-eq (delivered (S p) (R p)) (late p) (sym (delivered-same p h (agree p h)) ∙ zeros)
      ∙ late_is p (p - 18) (omega arith)

  -- ---- the error blocks

  pub errors_below : (p : ℕ) → errors p < 8
  errors_below p = go (dec_lt p count)
    where
      go : Dec (p < count) → errors p < 8
      go (yes h) =
          subst (λ (x : ℕ). x < 8) (sym (errors_in p h))
          (xor_lt 3 (R p) (C p) (l.decoding.taken p h).block
          (subst (λ (x : ℕ). x < 8) (sym c.coded)
          (topped-lt 2 (B p) (odd (joining generators (coder_pending (M p)) (B p))) c.info_lt)))
        where
          c : CoderStep (M p) (B p) (C p) (M (suc p))
          c = l.coding.codes p h
      go (no h) = let z = errors_past p (omega arith) in omega arith

  pub errors_bit : (p a : ℕ) → bit a (errors p) ≡ true → (p < count) × (bit a (R p) ≢ bit a (C p))
  errors_bit p a e = go (dec_lt p count)
    where
      go : Dec (p < count) → (p < count) × (bit a (R p) ≢ bit a (C p))
      go (yes h) = (
        h,
        λ same.
            true≢false
            (sym e ∙ ap (bit a) (errors_in p h) ∙ bit-xor a (R p) (C p)
            ∙ ap (λ (s : Bool). xor s (bit a (C p))) same ∙ xor-self-bool (bit a (C p))),
      )
      go (no h) =
          absurd (true≢false (sym e ∙ ap (bit a) (errors_past p (omega arith)) ∙ bit-none a 0 (pow_pos a)))
