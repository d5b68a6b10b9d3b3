-- One stream as sequences, its blocks counted from 0, from any block of the stream on: D is the exclusive or of both
-- pending words, s the syndrome word, e the error. Right blocks make both words 0: that is the guard. From a block at
-- which they are 0 on, each error is alone among the blocks of the stream that are still delayed, is found as it
-- leaves, and nothing is found before; so it is from a block on at which they are those of one such error. Assumes
-- nothing.
--
--   Stream          the words of a stream, and from which block on they are those of its steps
--   guard_clean, guard_register, guard_syndrome   right blocks: no pending word differs, no raw term is 1, and the
--                   syndrome word is short
--   Mid             the words are those of one error that is still delayed
--   mid_clean, mid_stayed   where they are 0, and after a block at which they are so
--   stream_judged   what is found from such a block on
use mathlib.Core.Path.{◌≡◌, sym, ap, ◌∙◌, subst}
use mathlib.Core.Bool.{Bool, false}
use mathlib.Core.Logic.{◌≢◌, ◌⊎◌, inl, inr}
use mathlib.Core.List.{List}
use Prim.Native.Nat.{ℕ, zero, suc, ◌+◌, ◌-◌, ◌*◌, ◌/◌, ◌%◌, ◌^◌, ◌≤◌, ◌<◌}
use native.Mathlib.Nat.{add-zero, zero-mul, div-one, mod-one, zero-mod, zero-div, eq-zero-or-pos}
use native.Mathlib.Decide.{dec_lt}
use native.Mathlib.Omega.{arith}
use lib.Pow.{pow_pos}
use Rattle.std.specs.Prelude.{Option}
use Rattle.std.specs.Prelude.{Some, None}
use Rattle.span.specs.Word.{◌⊕◌, odd, digit}
use Rattle.span.specs.Combination.{combination}
use Rattle.span.proofs.Word.{xor_zero_l, xor_zero_r, odd-of}
use Rattle.span.proofs.Combination.{combination-zero}
use Rattle.link.specs.Step.{found, error_of, kept_of}
use Rattle.link.proofs.Suitable.{Corrects}
use Rattle.link.proofs.Step.{NotDoubtful, leaving, staying}

abbrev pub joint : List ℕ → (ℕ → ℕ) → (ℕ → ℕ) → ℕ → ℕ
joint rows D e k = D k ⊕ combination rows (e k)

abbrev pub registered : ℕ → List ℕ → (ℕ → ℕ) → (ℕ → ℕ) → (ℕ → ℕ) → ℕ → ℕ
registered w rows D e s k = s k + digit (odd (joint rows D e k)) * 2 ^ w

-- the first `count` blocks of a stream, of which those from `from` on are steps on these words
pub record Stream (n w : ℕ) (rows : List ℕ) (D s e : ℕ → ℕ) (from count : ℕ) : Type 0 where
  pub code : Corrects n w rows
  pub error_lt : (k : ℕ) → k < count → e k < 2 ^ n
  pub joint_next : (k : ℕ) → from ≤ k → suc k < count → D (suc k) ≡ joint rows D e k / 2
  pub syndrome_next : (k : ℕ) → from ≤ k → suc k < count
      → s (suc k) ≡ kept_of (found rows (registered w rows D e s k)) (registered w rows D e s k)

-- a right block adds nothing
pub joint-right : (rows : List ℕ) (D e : ℕ → ℕ) (k : ℕ) → e k ≡ 0 → joint rows D e k ≡ D k
joint-right rows D e k h =
    ap (λ (x : ℕ). D k ⊕ combination rows x) h ∙ ap (λ (x : ℕ). D k ⊕ x) (combination-zero rows) ∙ xor_zero_r (D k)

pub kept-lt : (f : Option ℕ) (x j : ℕ) → x < 2 ^ suc j → kept_of f x < 2 ^ j
kept-lt (Some e) x j h = pow_pos j
kept-lt None x j h = omega arith

-- ---- the guard: the first `quiet` blocks are right

module _ {n w : ℕ} {rows : List ℕ} {D s e : ℕ → ℕ} {count : ℕ} (S : Stream n w rows D s e 0 count)
    (joint-lt : D 0 < 2 ^ w) (syndrome_lt : (k : ℕ) → k < count → s k < 2 ^ w) (quiet : ℕ)
    (right : (k : ℕ) → k < quiet → k < count → e k ≡ 0) where
  guard-joint : (i j : ℕ) → i + j ≡ w → i ≤ quiet → i < count → D i < 2 ^ j
  guard-joint zero j h q l = subst (λ (k : ℕ). D 0 < 2 ^ k) (omega arith) joint-lt
  guard-joint (suc i) j h q l =
      let before = guard-joint i (suc j) (omega arith) (omega arith) (omega arith) in
      let next = S.joint_next i (omega arith) l in
      let same = joint-right rows D e i (right i (omega arith) (omega arith)) in
      let e1 : D (suc i) ≡ D i / 2 = next ∙ ap (λ (x : ℕ). x / 2) same in
      omega arith

  pub guard_clean : (i : ℕ) → w + i ≤ quiet → w + i < count → D (w + i) ≡ 0
  guard_clean zero q l =
      let z = guard-joint w 0 (omega arith) (omega arith) (omega arith) in
      ap D (add-zero w) ∙ omega arith
  guard_clean (suc i) q l =
      let before = guard_clean i (omega arith) (omega arith) in
      let place : w + suc i ≡ suc (w + i) = omega arith in
      let same = joint-right rows D e (w + i) (right (w + i) (omega arith) (omega arith)) in
      ap D place ∙ S.joint_next (w + i) (omega arith) (omega arith) ∙ ap (λ (x : ℕ). x / 2) (same ∙ before)

  -- where no pending word differs a right block's raw term is 0
  pub guard_register : (i : ℕ) → w + i < quiet → w + i < count → registered w rows D e s (w + i) ≡ s (w + i)
  guard_register i q l =
      let zero-joint : joint rows D e (w + i) ≡ 0 =
      joint-right rows D e (w + i) (right (w + i) (omega arith) (omega arith))
      ∙ guard_clean i (omega arith) (omega arith) in
      let even : odd (joint rows D e (w + i)) ≡ false =
      odd-of false (joint rows D e (w + i)) (ap (λ (x : ℕ). x % 2) zero-joint) in
      ap (λ (b : Bool). s (w + i) + digit b * 2 ^ w) even ∙ ap (λ (x : ℕ). s (w + i) + x) (zero-mul (2 ^ w))
      ∙ add-zero (s (w + i))

  pub guard_syndrome : (i j : ℕ) → i + j ≡ w → w + i ≤ quiet → w + i < count → s (w + i) < 2 ^ j
  guard_syndrome zero j h q l = subst (λ (k : ℕ). s (w + 0) < 2 ^ k) (omega arith) (syndrome_lt (w + 0) l)
  guard_syndrome (suc i) j h q l =
      let before = guard_syndrome i (suc j) (omega arith) (omega arith) (omega arith) in
      let place : w + suc i ≡ suc (w + i) = omega arith in
      let same = guard_register i (omega arith) (omega arith) in
      subst (λ (x : ℕ). x < 2 ^ j) (sym (ap s place ∙ S.syndrome_next (w + i) (omega arith) (omega arith)))
      (kept-lt (found rows (registered w rows D e s (w + i))) (registered w rows D e s (w + i)) j (rw same before))

-- ---- errors

module _ {n w : ℕ} {rows : List ℕ} {D s e : ℕ → ℕ} {from count : ℕ} (S : Stream n w rows D s e from count) where
  -- Before block k is judged, with its error joined: all errors of the last w blocks and this one are 0 but that of
  -- block j.
  pub record Mid (k : ℕ) : Type 0 where
    j : ℕ
    a : ℕ
    l : ℕ
    whole : a + l ≡ w
    place : j + a ≡ k
    rest : joint rows D e k ≡ combination rows (e j) / 2 ^ a
    lower : s k ≡ combination rows (e j) % 2 ^ a * 2 ^ l
    others : (i d : ℕ) → i + d ≡ k → d ≤ w → i ≢ j → e i ≡ 0

  -- a clean stream: whatever comes is its only error
  pub mid_clean : (k : ℕ) → D k ≡ 0 → s k ≡ 0 → ((i d : ℕ) → i + d ≡ k → d ≤ w → i ≢ k → e i ≡ 0) → Mid k
  mid_clean k d z others = record {
    j = k;
    a = 0;
    l = w;
    whole = omega arith;
    place = omega arith;
    rest =
        ap (λ (x : ℕ). x ⊕ combination rows (e k)) d ∙ xor_zero_l (combination rows (e k))
        ∙ sym (div-one (combination rows (e k)));
    lower = z ∙ sym (ap (λ (x : ℕ). x * 2 ^ w) (mod-one (combination rows (e k))) ∙ zero-mul (2 ^ w));
    others = others;
  }

  -- what is known of the blocks that stay, one block later
  others-later : (k j : ℕ) → ((i d : ℕ) → i + d ≡ k → d ≤ w → i ≢ j → e i ≡ 0) → (i d : ℕ) → i + d ≡ suc k → d ≤ w
      → i ≢ suc k → i ≢ j → e i ≡ 0
  others-later k j others i d p q ne other = others i (d - 1) (omega arith) (omega arith) other

  mid-left : (k j : ℕ) → from ≤ k → suc k < count → j + w ≡ k → joint rows D e k ≡ combination rows (e j) / 2 ^ w
      → s k ≡ combination rows (e j) % 2 ^ w * 2 ^ 0 → ((i d : ℕ) → i + d ≡ k → d ≤ w → i ≢ j → e i ≡ 0) → Mid (suc k)
  mid-left k j late h place rest lower others =
      let out = leaving n w rows S.code (e j) (joint rows D e k) (s k) (S.error_lt j (omega arith)) rest lower in
      mid_clean (suc k) (S.joint_next k late h ∙ out.1) (S.syndrome_next k late h ∙ out.0.kept_is)
      (λ i d p q ne. others-later k j others i d p q ne (λ (same : i ≡ j). omega arith))

  judged : (k x j a l : ℕ) → k < count → ((i : ℕ) → i + w ≡ k → e i ≡ x) → (k < w → x ≡ 0) → a + l ≡ w → j + a ≡ k
      → joint rows D e k ≡ combination rows (e j) / 2 ^ a → s k ≡ combination rows (e j) % 2 ^ a * 2 ^ l
      → ((i d : ℕ) → i + d ≡ k → d ≤ w → i ≢ j → e i ≡ 0)
      → (error_of (found rows (registered w rows D e s k)) ≡ x)
      × NotDoubtful (found rows (registered w rows D e s k)) (registered w rows D e s k)
  judged k x j a zero h leaves none whole place rest lower others =
      let all : a ≡ w = omega arith in
      let out = leaving n w rows S.code (e j) (joint rows D e k) (s k) (S.error_lt j (omega arith))
      (subst (λ (y : ℕ). joint rows D e k ≡ combination rows (e j) / 2 ^ y) all rest)
      (subst (λ (y : ℕ). s k ≡ combination rows (e j) % 2 ^ y * 2 ^ 0) all lower) in
      (out.0.error_is ∙ leaves j (omega arith), out.0.sure)
  judged k x j a (suc l) h leaves none whole place rest lower others =
      let out =
      staying n w rows S.code (e j) (joint rows D e k) (s k) a l (S.error_lt j (omega arith)) whole rest lower in
      (out.0.error_is ∙ sym (go (dec_lt k w)), out.0.sure)
    where
      go : Dec (k < w) → x ≡ 0
      go (yes b) = none b
      go (no b) =
          sym (leaves (k - w) (omega arith))
          ∙ others (k - w) w (omega arith) (omega arith) (λ (same : k - w ≡ j). omega arith)

  -- of two blocks of the stream, at most w apart, one is right
  module _ (apart : (i d : ℕ) → 1 ≤ d → d ≤ w → i + d < count → (e i ≡ 0) ⊎ (e (i + d) ≡ 0)) where
    pub mid_stayed : (k j a l : ℕ) → suc k < count → a + suc l ≡ w → j + a ≡ k
        → D (suc k) ≡ combination rows (e j) / 2 ^ suc a
        → s (suc k) ≡ combination rows (e j) % 2 ^ suc a * 2 ^ l → ((i d : ℕ) → i + d ≡ k → d ≤ w → i ≢ j → e i ≡ 0)
        → ((e (suc k) ≡ 0) ⊎ (0 < e (suc k))) → Mid (suc k)
    mid_stayed k j a l h whole place rest lower others (inl right) = record {
      j = j;
      a = suc a;
      l = l;
      whole = omega arith;
      place = omega arith;
      rest = joint-right rows D e (suc k) right ∙ rest;
      lower = lower;
      others = λ i d p q ne. right-or-later i d p q ne (eq-zero-or-pos d);
    }
      where
        right-or-later : (i d : ℕ) → i + d ≡ suc k → d ≤ w → i ≢ j → ((d ≡ 0) ⊎ (0 < d)) → e i ≡ 0
        right-or-later i d p q ne (inl z) = ap e (let same : i ≡ suc k = omega arith in same) ∙ right
        right-or-later i d p q ne (inr z) = others-later k j others i d p q (λ (same : i ≡ suc k). omega arith) ne
    mid_stayed k j a l h whole place rest lower others (inr wrong) =
        mid_clean (suc k)
        (rest ∙ ap (λ (x : ℕ). combination rows x / 2 ^ suc a) none
        ∙ ap (λ (x : ℕ). x / 2 ^ suc a) (combination-zero rows) ∙ zero-div (2 ^ suc a))
        (lower ∙ ap (λ (x : ℕ). combination rows x % 2 ^ suc a * 2 ^ l) none
        ∙ ap (λ (x : ℕ). x % 2 ^ suc a * 2 ^ l) (combination-zero rows)
        ∙ ap (λ (x : ℕ). x * 2 ^ l) (zero-mod (2 ^ suc a)) ∙ zero-mul (2 ^ l))
        (λ i d p q ne. alone i d (omega arith) q p (apart i d (omega arith) q (omega arith)))
      where
        alone : (i d : ℕ) → 1 ≤ d → d ≤ w → i + d ≡ suc k → (e i ≡ 0) ⊎ (e (i + d) ≡ 0) → e i ≡ 0
        alone i d from to p (inl z) = z
        alone i d from to p (inr z) = let y : e (suc k) ≡ 0 = ap e (sym p) ∙ z in absurd (omega arith)

        none : e j ≡ 0
        none =
            alone j (suc a) (omega arith) (omega arith) (omega arith)
            (apart j (suc a) (omega arith) (omega arith) (omega arith))

    mid_step : (k j a l : ℕ) → from ≤ k → suc k < count → a + l ≡ w → j + a ≡ k
        → joint rows D e k ≡ combination rows (e j) / 2 ^ a
        → s k ≡ combination rows (e j) % 2 ^ a * 2 ^ l → ((i d : ℕ) → i + d ≡ k → d ≤ w → i ≢ j → e i ≡ 0) → Mid (suc k)
    mid_step k j a zero late h whole place rest lower others =
        let all : a ≡ w = omega arith in
        mid-left k j late h (omega arith)
        (subst (λ (x : ℕ). joint rows D e k ≡ combination rows (e j) / 2 ^ x) all rest)
        (subst (λ (x : ℕ). s k ≡ combination rows (e j) % 2 ^ x * 2 ^ 0) all lower) others
    mid_step k j a (suc l) late h whole place rest lower others =
        let out =
        staying n w rows S.code (e j) (joint rows D e k) (s k) a l (S.error_lt j (omega arith)) whole rest lower in
        mid_stayed k j a l h whole place (S.joint_next k late h ∙ out.1) (S.syndrome_next k late h ∙ out.0.kept_is)
        others
        (eq-zero-or-pos (e (suc k)))

    -- from a block c on
    module _ (c : ℕ) (late : from ≤ c) (start : Mid c) where
      mid : (d : ℕ) → c + d < count → Mid (c + d)
      mid zero h = subst Mid (omega arith) start
      mid (suc d) h =
          let m = mid d (omega arith) in
          subst Mid (omega arith)
          (mid_step (c + d) m.j m.a m.l (omega arith) (omega arith) m.whole m.place m.rest m.lower
          m.others)

      -- when block k is judged, the error of block k − w is found, or 0 if that is none of the blocks, and the mark is
      -- not doubtful
      pub stream_judged : (k x : ℕ) → c ≤ k → k < count → ((i : ℕ) → i + w ≡ k → e i ≡ x) → (k < w → x ≡ 0)
          → (error_of (found rows (registered w rows D e s k)) ≡ x)
          × NotDoubtful (found rows (registered w rows D e s k)) (registered w rows D e s k)
      stream_judged k x after h leaves none =
          let at : c + (k - c) ≡ k = omega arith in
          let m = subst Mid at (mid (k - c) (omega arith)) in
          judged k x m.j m.a m.l h leaves none m.whole m.place m.rest m.lower m.others
