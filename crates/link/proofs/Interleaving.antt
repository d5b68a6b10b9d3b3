-- The streams in turn: a word that only its own turn's step changes is the same m steps later, but for that step, and
-- at the first turn of its stream it is that of the first memory. Assumes nothing.
--
--   place-first, place-next, place-earlier   the places r + k × m of a stream
--   Turns                    turns of `count` steps, each the next of the one before
--   word_again, word_first   the two laws
use mathlib.Core.Path.{◌≡◌, refl, sym, ap, ◌∙◌, subst}
use mathlib.Core.Bool.{Bool, true, false, cond}
use mathlib.Core.Logic.{◌≢◌, ◌⊎◌, inl, inr}
use Prim.Native.Nat.{ℕ, zero, suc, ◌+◌, ◌-◌, ◌*◌, ◌%◌, ◌≤◌, ◌<◌}
use native.Mathlib.Nat.{add-zero, zero-add, zero-mul, suc-mul, mul-le-mul_right, mod-eq_of_lt, add-mod_right}
use native.Mathlib.Omega.{arith}
use borrow.Author.Tests.{eqb-true, eqb-false}
use lib.Dec.{eqb}
use Rattle.link.specs.Memory.{next_turn}

-- ---- the places of a stream

pub place-first : (m r : ℕ) → r + 0 * m ≡ r
place-first m r = omega (arith, zero-mul m)

pub place-next : (m r k : ℕ) → r + suc k * m ≡ r + k * m + m
place-next m r k = omega (arith, suc-mul k m)

-- up to a block that is there all are there
pub place-earlier : (m r b k count : ℕ) → r + b * m < count → k ≤ b → r + k * m < count
place-earlier m r b k count h l = omega (arith, mul-le-mul_right m l)

-- ---- the turns

pub turn_next : (m x : ℕ) → ((suc x ≡ m) × (next_turn m x ≡ 0)) ⊎ ((suc x ≢ m) × (next_turn m x ≡ suc x))
turn_next m x = go (eqb (suc x) m) refl
  where
    go : (b : Bool) → eqb (suc x) m ≡ b
        → ((suc x ≡ m) × (cond b 0 (suc x) ≡ 0)) ⊎ ((suc x ≢ m) × (cond b 0 (suc x) ≡ suc x))
    go true q = inl (eqb-true (suc x) m q, refl)
    go false q = inr (eqb-false (suc x) m q, refl)

pub record Turns (m : ℕ) (turn : ℕ → ℕ) (count : ℕ) : Type 0 where
  pub inside : (p : ℕ) → p < count → turn p < m
  pub next : (p : ℕ) → p < count → turn (suc p) ≡ next_turn m (turn p)

module _ {m : ℕ} {turn : ℕ → ℕ} {count : ℕ} (T : Turns m turn count) where
  turn_step : (p i x : ℕ) → turn p < m → suc i ≤ m → (turn (p + i) ≡ turn p + i) ⊎ (turn (p + i) + m ≡ turn p + i)
      → x ≡ next_turn m (turn (p + i))
      → ((suc (turn (p + i)) ≡ m) × (next_turn m (turn (p + i)) ≡ 0))
      ⊎ ((suc (turn (p + i)) ≢ m) × (next_turn m (turn (p + i)) ≡ suc (turn (p + i))))
      → (x ≡ turn p + suc i) ⊎ (x + m ≡ turn p + suc i)
  turn_step p i x h l (inl a) e (inl b) = inr (let z = b.0 in let y = b.1 in omega arith)
  turn_step p i x h l (inl a) e (inr b) = inl (let y = b.1 in omega arith)
  turn_step p i x h l (inr a) e (inl b) = absurd (let z = b.0 in omega arith)
  turn_step p i x h l (inr a) e (inr b) = inr (let y = b.1 in omega arith)

  turn-after : (p i : ℕ) → i ≤ m → p + i ≤ count → p < count
      → (turn (p + i) ≡ turn p + i) ⊎ (turn (p + i) + m ≡ turn p + i)
  turn-after p zero l h q = inl (ap turn (add-zero p) ∙ sym (add-zero (turn p)))
  turn-after p (suc i) l h q =
      turn_step p i (turn (p + suc i)) (T.inside p q) l (turn-after p i (omega arith) (omega arith) q)
      (ap turn (let e : p + suc i ≡ suc (p + i) = omega arith in e) ∙ T.next (p + i) (omega arith))
      (turn_next m (turn (p + i)))

  turn-again : (p : ℕ) → p + m < count → turn (p + m) ≡ turn p
  turn-again p h =
      go (T.inside (p + m) h) (turn-after p m (omega arith) (omega arith) (omega arith))
    where
      go : turn (p + m) < m → (turn (p + m) ≡ turn p + m) ⊎ (turn (p + m) + m ≡ turn p + m) → turn (p + m) ≡ turn p
      go l (inl e) = absurd (omega arith)
      go l (inr e) = omega arith

  turn-other : (p i : ℕ) → 1 ≤ i → i < m → p + i ≤ count → p < count → turn p ≢ turn (p + i)
  turn-other p i f l h q same = go (turn-after p i (omega arith) h q)
    where
      go : (turn (p + i) ≡ turn p + i) ⊎ (turn (p + i) + m ≡ turn p + i) → ⊥
      go (inl e) = omega arith
      go (inr e) = omega arith

  -- the first turns
  turn-first : (d : ℕ) → d < m → d < count → turn d ≡ (turn 0 + d) % m
  turn-first d l h =
      go (T.inside d h) (subst (λ (x : ℕ). (turn x ≡ turn 0 + d) ⊎ (turn x + m ≡ turn 0 + d)) (zero-add d)
      (turn-after 0 d (omega arith) (omega arith) (omega arith)))
    where
      go : turn d < m → (turn d ≡ turn 0 + d) ⊎ (turn d + m ≡ turn 0 + d) → turn d ≡ (turn 0 + d) % m
      go b (inl e) = e ∙ sym (mod-eq_of_lt (omega arith))
      go b (inr e) = sym (mod-eq_of_lt b) ∙ sym (add-mod_right (turn d) m) ∙ ap (λ (x : ℕ). x % m) e

  module _ (W : ℕ → ℕ → ℕ) (kept : (p k : ℕ) → p < count → k < m → k ≢ turn p → W (suc p) k ≡ W p k) where
    word_kept : (p d : ℕ) → suc d ≤ m → p + suc d ≤ count → W (suc p + d) (turn p) ≡ W (suc p) (turn p)
    word_kept p zero l h = ap (λ (q : ℕ). W q (turn p)) (add-zero (suc p))
    word_kept p (suc d) l h =
        let place : suc p + d ≡ p + suc d = omega arith in
        ap (λ (q : ℕ). W q (turn p)) (let e : suc p + suc d ≡ suc (suc p + d) = omega arith in e)
        ∙ kept (suc p + d) (turn p) (omega arith) (T.inside p (omega arith))
        (λ (e : turn p ≡ turn (suc p + d)).
        turn-other p (suc d) (omega arith) (omega arith) (omega arith) (omega arith) (e ∙ ap turn place))
        ∙ word_kept p d (omega arith) (omega arith)

    pub word_again : (p : ℕ) → p + m < count → W (p + m) (turn (p + m)) ≡ W (suc p) (turn p)
    word_again p h =
        let some = T.inside p (omega arith) in
        ap (W (p + m)) (turn-again p h)
        ∙ ap (λ (q : ℕ). W q (turn p)) (let e : p + m ≡ suc p + (m - 1) = omega arith in e)
        ∙ word_kept p (m - 1) (omega arith) (omega arith)

    word-before : (d i : ℕ) → i ≤ d → d < m → d < count → W i (turn d) ≡ W 0 (turn d)
    word-before d zero l b h = refl
    word-before d (suc i) l b h =
        let place : i + (d - i) ≡ d = omega arith in
        kept i (turn d) (omega arith) (T.inside d h)
        (λ (e : turn d ≡ turn i).
        turn-other i (d - i) (omega arith) (omega arith) (omega arith) (omega arith) (sym e ∙ ap turn (sym place)))
        ∙ word-before d i (omega arith) b h

    -- until the first turn of its stream a word is that of the first memory
    pub word_first : (d : ℕ) → d < m → d < count → W d (turn d) ≡ W 0 ((turn 0 + d) % m)
    word_first d b h = word-before d d (omega arith) b h ∙ ap (W 0) (turn-first d b h)
