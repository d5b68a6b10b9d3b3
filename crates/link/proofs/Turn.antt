-- The words of the turn's stream over the steps of coder and decoder: at a stream's next step, m places later, they are
-- as its last step left them; at its first step they are those of the first memory. Assumes nothing.
--
--   CoderRun, DecoderRun             the steps
--   coder_again, coder_first         the coder's pending word
--   pending_again, pending_first     the decoder's
--   syndrome_again, syndrome_first   the syndrome word
--   delayed_again, delayed_first     a delayed block
use mathlib.Core.Path.{◌≡◌, sym, ap, ◌∙◌}
use mathlib.Core.Logic.{◌≢◌}
use mathlib.Core.List.{List, [], ◌∷◌, ◌++◌}
use Prim.Native.Nat.{ℕ, suc, ◌+◌, ◌-◌, ◌/◌, ◌%◌, ◌^◌, ◌<◌}
use native.Mathlib.Nat.{add-zero, add_assoc}
use native.Mathlib.Omega.{arith}
use lib.ListN.{get_or}
use Rattle.link.specs.Refusals.{Answer}
use Rattle.std.specs.Prelude.{Option}
use Rattle.link.specs.declared.decode.Delivered.{Delivered}
use Rattle.link.specs.Memory.{joining, turn_of, pending_at}
use Rattle.link.specs.Step.{found, kept_of}
use Rattle.link.proofs.Interleaving.{Turns, word_again, word_first}
use Rattle.link.proofs.Coder.{CoderStep}
use Rattle.link.proofs.Decoder.{DecoderStep, stream_in, pending_in, syndrome_in, delayed_in, register_in}

-- the first `count` steps of a coder, and of a decoder, on the memories before each place
pub record CoderRun (n N m : ℕ) (infos : List ℕ) (M : ℕ → List ℕ) (B C : ℕ → ℕ) (count : ℕ) : Type 0 where
  pub codes : (p : ℕ) → p < count → CoderStep n N m infos (M p) (B p) (C p) (M (suc p))

pub record DecoderRun (n N m : ℕ) (infos : List ℕ) (S : ℕ → List ℕ) (R : ℕ → ℕ) (A : ℕ → Answer (Option Delivered)) (count : ℕ)
    : Type 0 where
  pub decodes : (p : ℕ) → p < count → DecoderStep n N m infos (S p) (R p) (A p) (S (suc p))

module _ {n N m : ℕ} {infos : List ℕ} {M : ℕ → List ℕ} {B C : ℕ → ℕ} {count : ℕ}
    (l : CoderRun n N m infos M B C count) where
  coder-turns : Turns m (λ (p : ℕ). turn_of (M p)) count
  coder-turns = record { inside = λ p h. (l.codes p h).turn_lt; next = λ p h. (l.codes p h).turn_on }

  coder-kept : (q k : ℕ) → q < count → k < m → k ≢ turn_of (M q) → pending_at (M (suc q)) k ≡ pending_at (M q) k
  coder-kept q k a b ne = (l.codes q a).others k b ne

  pub coder_again : (p : ℕ) → p + m < count
      → pending_at (M (p + m)) (turn_of (M (p + m))) ≡ joining infos (pending_at (M p) (turn_of (M p))) (B p) / 2
  coder_again p h =
      word_again coder-turns (λ (q k : ℕ). pending_at (M q) k) coder-kept p h ∙ (l.codes p (omega arith)).own

  pub coder_first : (r : ℕ) → r < m → r < count
      → pending_at (M r) (turn_of (M r)) ≡ pending_at (M 0) ((turn_of (M 0) + r) % m)
  coder_first = word_first coder-turns (λ (q k : ℕ). pending_at (M q) k) coder-kept

module _ {n N m : ℕ} {infos : List ℕ} {S : ℕ → List ℕ} {R : ℕ → ℕ} {A : ℕ → Answer (Option Delivered)} {count : ℕ}
    (l : DecoderRun n N m infos S R A count) where
  decoder-turns : Turns m (λ (p : ℕ). turn_of (S p)) count
  decoder-turns = record { inside = λ p h. (l.decodes p h).turn_lt; next = λ p h. (l.decodes p h).turn_on }

  -- a step leaves the words of the other streams
  pending-kept : (q k : ℕ) → q < count → k < m → k ≢ turn_of (S q)
      → get_or (S (suc q)) (stream_in N k) 0 ≡ get_or (S q) (stream_in N k) 0
  pending-kept q k a b ne =
      ap (λ (i : ℕ). get_or (S (suc q)) i 0) (sym (add-zero (stream_in N k)))
      ∙ (l.decodes q a).others k 0 b (omega arith) ne
      ∙ ap (λ (i : ℕ). get_or (S q) i 0) (add-zero (stream_in N k))

  syndrome-kept : (q k : ℕ) → q < count → k < m → k ≢ turn_of (S q)
      → get_or (S (suc q)) (stream_in N k + 1) 0 ≡ get_or (S q) (stream_in N k + 1) 0
  syndrome-kept q k a b ne =
      let from = (l.decodes q a).fits.N_from in
      (l.decodes q a).others k 1 b (omega arith) ne

  delayed-kept : (i : ℕ) → i < N - 1 → (q k : ℕ) → q < count → k < m → k ≢ turn_of (S q)
      → get_or (S (suc q)) (stream_in N k + 2 + i) 0 ≡ get_or (S q) (stream_in N k + 2 + i) 0
  delayed-kept i c q k a b ne =
      ap (λ (j : ℕ). get_or (S (suc q)) j 0) (add_assoc (stream_in N k) 2 i)
      ∙ (l.decodes q a).others k (2 + i) b (omega arith) ne
      ∙ ap (λ (j : ℕ). get_or (S q) j 0) (sym (add_assoc (stream_in N k) 2 i))

  pub pending_again : (p : ℕ) → p + m < count
      → pending_in N (S (p + m)) ≡ joining infos (pending_in N (S p)) (R p % 2 ^ (n - 1)) / 2
  pending_again p h =
      word_again decoder-turns (λ (q k : ℕ). get_or (S q) (stream_in N k) 0) pending-kept p h
      ∙ (l.decodes p (omega arith)).pending_on

  pub syndrome_again : (p : ℕ) → p + m < count
      → syndrome_in N (S (p + m))
      ≡ kept_of (found (infos ++ (1 ∷ [])) (register_in n N infos (S p) (R p))) (register_in n N infos (S p) (R p))
  syndrome_again p h =
      word_again decoder-turns (λ (q k : ℕ). get_or (S q) (stream_in N k + 1) 0) syndrome-kept p h
      ∙ (l.decodes p (omega arith)).syndrome_on

  pub delayed_again : (i p : ℕ) → i < N - 1 → p + m < count
      → delayed_in N (S (p + m)) i ≡ get_or (S (suc p)) (stream_in N (turn_of (S p)) + 2 + i) 0
  delayed_again i p b h =
      word_again decoder-turns (λ (q k : ℕ). get_or (S q) (stream_in N k + 2 + i) 0) (delayed-kept i b) p h

  pub pending_first : (r : ℕ) → r < m → r < count
      → pending_in N (S r) ≡ get_or (S 0) (stream_in N ((turn_of (S 0) + r) % m)) 0
  pending_first = word_first decoder-turns (λ (q k : ℕ). get_or (S q) (stream_in N k) 0) pending-kept

  pub syndrome_first : (r : ℕ) → r < m → r < count
      → syndrome_in N (S r) ≡ get_or (S 0) (stream_in N ((turn_of (S 0) + r) % m) + 1) 0
  syndrome_first = word_first decoder-turns (λ (q k : ℕ). get_or (S q) (stream_in N k + 1) 0) syndrome-kept

  pub delayed_first : (i r : ℕ) → i < N - 1 → r < m → r < count
      → delayed_in N (S r) i ≡ get_or (S 0) (stream_in N ((turn_of (S 0) + r) % m) + 2 + i) 0
  delayed_first i r c =
      word_first decoder-turns (λ (q k : ℕ). get_or (S q) (stream_in N k + 2 + i) 0) (delayed-kept i c) r
