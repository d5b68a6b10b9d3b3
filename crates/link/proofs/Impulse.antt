-- The parity of an impulse, a message that is 0 but for one symbol of one block: a bit of the symbol's row at every
-- m-th place from there on (000, eq. 1). Assumes nothing.
--
--   impulse at w   the message that is w at one place, and 0 elsewhere
--   row_lt         a row of a fit table has N bits
--   parity_before, parity_after   the parity before that place, and from it on
use mathlib.Core.Path.{◌≡◌, sym, ap, ◌∙◌}
use mathlib.Core.Bool.{Bool, true, false, cond, ◌&&◌}
use mathlib.Core.Logic.{◌≢◌}
use Prim.Native.Nat.{ℕ, suc, ◌+◌, ◌-◌, ◌*◌, ◌/◌, ◌%◌, ◌^◌, ◌≤◌, ◌<◌}
use native.Mathlib.Nat.{suc-mul, add-mul, eq_of_mul-eq-mul_right, mod-lt, mod-add-div', mul-mod_left}
use native.Mathlib.Decide.{dec_lt, ℕ_discrete}
use native.Mathlib.Omega.{arith}
use borrow.Author.Tests.{eq-eqb, ne_eqb, le-leb, lt-leb}
use lib.Dec.{eqb}
use lib.ListN.{length, length-take, get_or-eq_default}
use lib.Pow.{pow_pos, pow_mono}
use Rattle.span.specs.Word.{bit, sel}
use Rattle.span.specs.Combination.{combination}
use Rattle.span.proofs.Word.{sel-lt, bit-none}
use Rattle.span.proofs.Combination.{combination-zero, combination-pow}
use Rattle.tables.specs.declared.table.Table.{Table}
use Rattle.tables.specs.Table.{fit, info_rows}
use Rattle.tables.proofs.Fit.{fit-facts}
use Rattle.link.specs.Massey.{sum_over, row_of, ago, stream}
use Rattle.link.proofs.Convolution.{sum-ext, sum-false, sum-single, convolution-images, bit-nothing}
use Rattle.link.proofs.Sums.{parity_at}
use Rattle.link.proofs.Spread.{spread}

-- ---- the parity of an impulse: the message that is the block w at one place and 0 elsewhere

abbrev pub impulse : ℕ → ℕ → ℕ → ℕ
impulse at w p = sel (eqb p at) w

module _ (m : ℕ) (some : 0 < m) (at w p : ℕ) where
  -- the stream of place p, k blocks before it
  ago-impulse : (k : ℕ) → ago (stream m (p % m) (impulse at w)) (p / m) k ≡ sel (eqb p (at + k * m)) w
  ago-impulse k = go (dec_lt (p / m) k)
    where
      whole : p % m + p / m * m ≡ p
      whole = mod-add-div' p m

      go : Dec (p / m < k) → ago (stream m (p % m) (impulse at w)) (p / m) k ≡ sel (eqb p (at + k * m)) w
      go (yes h) =
          let e = k - suc (p / m) in
          let past : k * m ≡ suc (p / m) * m + e * m =
          ap (λ (z : ℕ). z * m) (let z : k ≡ suc (p / m) + e = omega arith in z) ∙ add-mul (suc (p / m)) e m in
          let more = suc-mul (p / m) m in
          let low = mod-lt p some in
          ap (λ (s : Bool). cond s (impulse at w (p % m + (p / m - k) * m)) 0) (lt-leb k (p / m) h)
          ∙ sym (ap (λ (s : Bool). sel s w) (ne_eqb p (at + k * m) (λ z. omega (arith, whole))))
      go (no h) =
          let e = p / m - k in
          let back : p / m * m ≡ k * m + e * m =
          ap (λ (z : ℕ). z * m) (let z : p / m ≡ k + e = omega arith in z) ∙ add-mul k e m in
          ap (λ (s : Bool). cond s (impulse at w (p % m + e * m)) 0) (le-leb k (p / m) (omega arith))
          ∙ ap (λ (s : Bool). sel s w) (same (ℕ_discrete (p % m + e * m) at) back)
        where
          same : Dec (p % m + (p / m - k) * m ≡ at) → p / m * m ≡ k * m + (p / m - k) * m
              → eqb (p % m + (p / m - k) * m) at ≡ eqb p (at + k * m)
          same (yes z) b =
              eq-eqb (p % m + (p / m - k) * m) at z ∙ sym (eq-eqb p (at + k * m) (omega (arith, whole)))
          same (no z) b =
              ne_eqb (p % m + (p / m - k) * m) at z
              ∙ sym (ne_eqb p (at + k * m) (λ q. z (omega (arith, whole))))

module _ (t : Table) (fits : fit t ≡ true) (j : ℕ) where
  abbrev m : ℕ
  m = t.depth

  abbrev row : ℕ
  row = row_of (info_rows t) j

  abbrev unit : ℕ
  unit = 2 ^ (j - 1)

  some : 0 < m
  some = (fit-facts t fits).m_from

  pub row_lt : row < 2 ^ t.span
  row_lt = go (dec_lt (j - 1) (length (info_rows t)))
    where
      go : Dec (j - 1 < length (info_rows t)) → row < 2 ^ t.span
      go (yes h) = (fit-facts t fits).below (j - 1) h
      go (no h) = rw (get_or-eq_default (info_rows t) 0 {n = j - 1} (omega arith)) (pow_pos t.span)

  image-of : (s : Bool) → combination (info_rows t) (sel s unit) ≡ sel s row
  image-of true = combination-pow (info_rows t) (j - 1)
  image-of false = combination-zero (info_rows t)

  module _ (at : ℕ) where
    -- the term of the block k × m places back
    term : ℕ → ℕ → Bool
    term p k = bit k (sel (eqb p (at + k * m)) row)

    parity-terms : (p : ℕ) → parity_at t (impulse at unit) p ≡ sum_over 0 t.span (term p)
    unfolding term
    parity-terms p =
        convolution-images (t.symbols - 1) t.span (info_rows t) (stream m (p % m) (impulse at unit)) (p / m)
        (simp length-take (omega arith))
        ∙ sum-ext 0 t.span
        (λ k. bit k (combination (info_rows t) (ago (stream m (p % m) (impulse at unit)) (p / m) k))) (term p)
        (λ k. ap (λ (x : ℕ). bit k (combination (info_rows t) x)) (ago-impulse m some at unit p k)
        ∙ ap (bit k) (image-of (eqb p (at + k * m))))

    term-other : (p k : ℕ) → p ≢ at + k * m → term p k ≡ false
    unfolding term
    term-other p k h = ap (λ (s : Bool). bit k (sel s row)) (ne_eqb p (at + k * m) h) ∙ bit-nothing k

    term-past : (p k : ℕ) → t.span ≤ k → term p k ≡ false
    unfolding term
    term-past p k h =
        let low = sel-lt t.span (eqb p (at + k * m)) row row_lt in
        let more = pow_mono h in
        bit-none k (sel (eqb p (at + k * m)) row) (omega arith)

    pub parity_before : (p : ℕ) → p < at → parity_at t (impulse at unit) p ≡ false
    parity_before p h =
        parity-terms p ∙ sum-false 0 t.span (term p) (λ k. term-other p k (λ e. omega arith))

    -- m divides the distance: one term is that of the impulse
    terms-met : (d : ℕ) → d % m ≡ 0 → sum_over 0 t.span (term (at + d)) ≡ bit (d / m) row
    unfolding term
    terms-met d e = go (dec_lt (d / m) t.span)
      where
        whole : d % m + d / m * m ≡ d
        whole = mod-add-div' d m

        own : term (at + d) (d / m) ≡ bit (d / m) row
        own =
            ap (λ (s : Bool). bit (d / m) (sel s row)) (eq-eqb (at + d) (at + d / m * m) (omega (arith, whole)))

        other : (k : ℕ) → k ≢ d / m → term (at + d) k ≡ false
        other k h =
            term-other (at + d) k (λ z. h (eq_of_mul-eq-mul_right m some k (d / m) (omega (arith, whole))))

        each : t.span ≤ d / m → (k : ℕ) → Dec (k ≡ d / m) → term (at + d) k ≡ false
        each h k (yes z) = term-past (at + d) k (omega arith)
        each h k (no z) = other k z

        go : Dec (d / m < t.span) → sum_over 0 t.span (term (at + d)) ≡ bit (d / m) row
        go (yes h) = sum-single 0 t.span (term (at + d)) (d / m) (omega arith) (omega arith) other ∙ own
        go (no h) =
            sum-false 0 t.span (term (at + d)) (λ k. each (omega arith) k (ℕ_discrete k (d / m)))
            ∙ sym (sym own ∙ term-past (at + d) (d / m) (omega arith))

    pub parity_after : (d : ℕ) → parity_at t (impulse at unit) (at + d) ≡ spread m row d
    parity_after d = parity-terms (at + d) ∙ go (ℕ_discrete (d % m) 0)
      where
        go : Dec (d % m ≡ 0) → sum_over 0 t.span (term (at + d)) ≡ spread m row d
        go (yes e) = terms-met d e ∙ sym (ap (λ (s : Bool). s && bit (d / m) row) (eq-eqb (d % m) 0 e))
        go (no e) =
            sum-false 0 t.span (term (at + d))
            (λ k. term-other (at + d) k (λ z.
            let is : d ≡ k * m = omega arith in
            e (ap (λ (x : ℕ). x % m) is ∙ mul-mod_left k m)))
            ∙ sym (ap (λ (s : Bool). s && bit (d / m) row) (ne_eqb (d % m) 0 e))
