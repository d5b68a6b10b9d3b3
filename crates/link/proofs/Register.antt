-- One stream as sequences, its blocks counted from 0: s is the syndrome word, raw the raw term and g the register, of
-- N = w + 1 bits. From a block with the syndrome word 0 on, and as long as the word is the register halved, the
-- register holds the raw terms. Assumes nothing.
--
--   register_lt    it has N bits
--   register_bit   and those are the raw terms
use mathlib.Core.Path.{◌≡◌, sym, ap, ap₂, ◌∙◌, subst}
use mathlib.Core.Bool.{Bool, false, cond}
use Prim.Native.Nat.{ℕ, zero, suc, ◌+◌, ◌-◌, ◌*◌, ◌/◌, ◌^◌, ◌≤◌, ◌<◌}
use native.Mathlib.Nat.{add-zero}
use native.Mathlib.Decide.{dec_lt}
use native.Mathlib.Omega.{arith}
use borrow.Author.Tests.{lt-leb, le-leb}
use lib.Dec.{leb, leb-zero, leb-suc-zero, leb-suc-suc}
use lib.Pow.{pow_pos}
use Rattle.span.specs.Word.{bit, digit}
use Rattle.span.proofs.Word.{bit-suc, bit-low, bit-none}
use Rattle.link.proofs.Step.{topped_low, topped_bit}
use Rattle.span.proofs.Masks.{topped-lt}

leb-add : (c k i : ℕ) → leb k i ≡ leb (c + k) (c + i)
leb-add c k i = go (dec_lt i k)
  where
    go : Dec (i < k) → leb k i ≡ leb (c + k) (c + i)
    go (yes h) = lt-leb k i h ∙ sym (lt-leb (c + k) (c + i) (omega arith))
    go (no h) = le-leb k i (omega arith) ∙ sym (le-leb (c + k) (c + i) (omega arith))

module _ (w : ℕ) (s g : ℕ → ℕ) (raw : ℕ → Bool) (c b : ℕ) (clear : s c ≡ 0)
    (joins : (d : ℕ) → c ≤ d → d ≤ b → g d ≡ s d + digit (raw d) * 2 ^ w)
    (halves : (d : ℕ) → c ≤ d → d < b → s (suc d) ≡ g d / 2) where
  topped : (i : ℕ) → c + i ≤ b → s (c + i) < 2 ^ w → g (c + i) < 2 ^ suc w
  topped i h l = rw (joins (c + i) (omega arith) h) (topped-lt w (s (c + i)) (raw (c + i)) l)

  halved : (i : ℕ) → c + suc i ≤ b → s (c + suc i) ≡ g (c + i) / 2
  halved i h = ap s (let p : c + suc i ≡ suc (c + i) = omega arith in p) ∙ halves (c + i) (omega arith) (omega arith)

  syndrome_lt : (i : ℕ) → c + i ≤ b → s (c + i) < 2 ^ w
  syndrome_lt zero h = rw (add-zero c, clear) (pow_pos w)
  syndrome_lt (suc i) h =
      let z = topped i (omega arith) (syndrome_lt i (omega arith)) in
      let e = halved i h in
      omega arith

  -- the newest term is on top, and below it is the syndrome word
  register-top : (i a : ℕ) → c + i ≤ b → a ≡ w → bit a (g (c + i)) ≡ raw (c + i)
  register-top i a h e =
      ap₂ bit e (joins (c + i) (omega arith) h) ∙ topped_bit w (s (c + i)) (raw (c + i)) (syndrome_lt i h)

  register-rest : (i a : ℕ) → c + i ≤ b → a < w → bit a (g (c + i)) ≡ bit a (s (c + i))
  register-rest i a h l =
      ap (bit a) (joins (c + i) (omega arith) h) ∙ sym (bit-low a w (s (c + i) + digit (raw (c + i)) * 2 ^ w) l)
      ∙ ap (bit a) (topped_low w (s (c + i)) (raw (c + i)) (syndrome_lt i h))

  register-bits : (i a k : ℕ) → a + k ≡ w → c + i ≤ b → bit a (g (c + i)) ≡ cond (leb k i) (raw (c + i - k)) false
  register-bits i a zero e h =
      register-top i a h (omega arith)
      ∙ ap₂ (λ (t : Bool) (p : ℕ). cond t (raw p) false) (sym (leb-zero i))
      (let p : c + i ≡ c + i - 0 = omega arith in p)
  register-bits zero a (suc k) e h =
      register-rest 0 a h (omega arith) ∙ ap (bit a) (ap s (add-zero c) ∙ clear) ∙ bit-none a 0 (pow_pos a)
      ∙ ap (λ (t : Bool). cond t (raw (c + 0 - suc k)) false) (sym (leb-suc-zero k))
  register-bits (suc i) a (suc k) e h =
      register-rest (suc i) a h (omega arith) ∙ ap (bit a) (halved i h) ∙ sym (bit-suc a (g (c + i)))
      ∙ register-bits i (suc a) k (omega arith) (omega arith)
      ∙ ap₂ (λ (t : Bool) (p : ℕ). cond t (raw p) false) (sym (leb-suc-suc k i))
      (let p : c + i - k ≡ c + suc i - suc k = omega arith in p)

  module _ (from : c ≤ b) where
    pub register_lt : g b < 2 ^ suc w
    register_lt =
        subst (λ (d : ℕ). g d < 2 ^ suc w) (let e : c + (b - c) ≡ b = omega arith in e)
        (topped (b - c) (omega arith) (syndrome_lt (b - c) (omega arith)))

    -- bit w − k is the term of k blocks ago, as far back as block c
    pub register_bit : (a k : ℕ) → a + k ≡ w → bit a (g b) ≡ cond (leb (c + k) b) (raw (b - k)) false
    register_bit a k e =
        subst (λ (d : ℕ). bit a (g d) ≡ cond (leb (c + k) d) (raw (d - k)) false)
        (let p : c + (b - c) ≡ b = omega arith in p)
        (register-bits (b - c) a k e (omega arith)
        ∙ ap (λ (t : Bool). cond t (raw (c + (b - c) - k)) false) (leb-add c k (b - c)))
