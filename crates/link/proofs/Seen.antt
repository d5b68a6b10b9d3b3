-- The streams that a batch has looked at, after i of its blocks: those whose turn was among the last i, which are the
-- streams at a distance d from the turn with m ≤ i + d. A step that is taken keeps them well-formed, so that each is
-- looked at once. Assumes nothing.
--
--   Seen, seen_start   none is seen before the first block
--   seen-now           after m blocks the turn's stream is
--   seen_next          from one block to the next
use mathlib.Core.Path.{◌≡◌, subst}
use mathlib.Core.Logic.{◌≢◌, ◌⊎◌, inl, inr}
use mathlib.Core.List.{List}
use Prim.Native.Nat.{ℕ, suc, ◌+◌, ◌≤◌, ◌<◌}
use native.Mathlib.Decide.{dec_lt}
use native.Mathlib.Omega.{arith}
use Rattle.tables.specs.declared.table.Table.{Table}
use Rattle.link.specs.Memory.{turn_of, next_turn}
use Rattle.link.specs.Refusals.{decoder_fault}
use Rattle.link.specs.Decoder.{delivery, decoder_next}
use Rattle.link.proofs.Malformed.{Fine}
use Rattle.link.proofs.Decoder.{decoder-taken, decoder_step}
use Rattle.link.proofs.Interleaving.{turn_next}
use Rattle.link.proofs.Formed.{turn_lt, fine_kept}

-- the stream that has its turn d blocks from now
abbrev Distant : ℕ → ℕ → ℕ → ℕ → Type 0
Distant m turn k d = (k ≡ turn + d) ⊎ (k + m ≡ turn + d)

pub record Seen (t : Table) (s : List ℕ) (i : ℕ) : Type 0 where
  pub turn : 1 ≤ i → turn_of s < t.depth
  pub fine : (k d : ℕ) → k < t.depth → d < t.depth → t.depth ≤ i + d → Distant t.depth (turn_of s) k d
      → Fine t s k

pub seen_start : (t : Table) (s : List ℕ) → Seen t s 0
seen_start t s = record { turn = λ h. absurd (omega arith); fine = λ k d kl dl h c. absurd (omega arith) }

pub seen-now : (t : Table) (s : List ℕ) (i : ℕ) → 1 ≤ t.depth → t.depth ≤ i → Seen t s i → Fine t s (turn_of s)
seen-now t s i some h f = f.fine (turn_of s) 0 (f.turn (omega arith)) (omega arith) (omega arith) (inl (omega arith))

module _ (t : Table) (s : List ℕ) (r i : ℕ) (e : decoder_fault t s r ≡ 0) (f : Seen t s i) where
  abbrev m : ℕ
  m = t.depth

  abbrev after : List ℕ
  after = decoder_next t s r

  -- a distance from the turn that comes is one more from the turn that was, or the turn's stream itself
  earlier : (k d : ℕ) → k < m → d < m → m ≤ suc i + d → Distant m (next_turn m (turn_of s)) k d → Fine t s k
  earlier k d kl dl h c = go (turn_next m (turn_of s)) (dec_lt (d + 1) m) c
    where
      own : Fine t s (turn_of s)
      own = (decoder-taken t s r e).fine

      go : ((suc (turn_of s) ≡ m) × (next_turn m (turn_of s) ≡ 0))
          ⊎ ((suc (turn_of s) ≢ m) × (next_turn m (turn_of s) ≡ suc (turn_of s)))
          → Dec (d + 1 < m) → Distant m (next_turn m (turn_of s)) k d → Fine t s k
      go (inl (a, b)) (yes l) (inl q) = f.fine k (d + 1) kl l (omega arith) (inr (omega arith))
      go (inl (a, b)) (yes l) (inr q) = absurd (omega arith)
      go (inr (a, b)) (yes l) (inl q) = f.fine k (d + 1) kl l (omega arith) (inl (omega arith))
      go (inr (a, b)) (yes l) (inr q) = f.fine k (d + 1) kl l (omega arith) (inr (omega arith))
      go (inl (a, b)) (no l) (inl q) = subst (Fine t s) (let z : turn_of s ≡ k = omega arith in z) own
      go (inl (a, b)) (no l) (inr q) = absurd (omega arith)
      go (inr (a, b)) (no l) (inl q) = absurd (omega arith)
      go (inr (a, b)) (no l) (inr q) = subst (Fine t s) (let z : turn_of s ≡ k = omega arith in z) own

  pub seen_next : Seen t after (suc i)
  seen_next =
      let step = decoder_step t s r e in
      let k0 = (decoder-taken t s r e).fine in
      record {
        turn = λ h. rw step.turn_on (turn_lt m (turn_of s) k0.turn);
        fine = λ k d kl dl h c.
            fine_kept t s r (delivery t s r) after step k0 k
            (earlier k d kl dl h (subst (λ (x : ℕ). Distant m x k d) step.turn_on c));
      }
