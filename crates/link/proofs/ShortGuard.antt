-- One stream whose first 2 × (N − 2) blocks are right. No pending word differs then, and the syndrome word is below 4.
-- Within two more blocks it goes on as if it had been clean. Where an error block is found at one of the two, the word
-- is cleared, and with it bit 0 of the image of that block's own error; what comes after is that of an error which
-- differs by the parity symbol, whose image is 1, and has the same information. Where none is found the two bits of the
-- word are dropped; were an error block found at the second, with an error at the first, its image, made even, would be
-- that of this error, shifted by N − 2. Assumes nothing.
--
--   Rejoined        from which block on, and with which errors
--   rejoined-same   with the errors as they are
--   rejoined-cleared with that of the block at which the word was cleared, its image made even
--   after-second, after_both   the cases where nothing is found at the first
--   short_judged    what is found from block 2 × (N − 1) on
use mathlib.Core.Path.{◌≡◌, refl, sym, ap, ap₂, ◌∙◌, subst}
use mathlib.Core.Bool.{Bool, true, false, cond}
use mathlib.Core.Logic.{◌≢◌, ◌⊎◌, inl, inr}
use mathlib.Core.List.{List, [], ◌∷◌, ◌++◌}
use Prim.Native.Nat.{ℕ, suc, ◌+◌, ◌-◌, ◌*◌, ◌/◌, ◌%◌, ◌^◌, ◌≤◌, ◌<◌}
use native.Mathlib.Nat.{eq-zero-or-pos, zero-mul}
use native.Mathlib.Omega.{arith}
use borrow.Author.Tests.{eq-eqb, ne_eqb}
use lib.Bits.{shifted_half, shifted_even}
use lib.Dec.{eqb}
use lib.ListN.{length}
use Rattle.std.specs.Prelude.{Option}
use Rattle.std.specs.Prelude.{Some, None}
use Rattle.span.specs.Word.{◌⊕◌, odd, digit, shifted}
use Rattle.span.specs.Combination.{combination}
use Rattle.span.proofs.Word.{xor_zero_l, odd-mod, shifted-mod}
use Rattle.span.proofs.Combination.{combination-zero}
use Rattle.link.specs.Step.{found, error_of, kept_of}
use Rattle.link.proofs.Suitable.{Corrects, shifted_none}
use Rattle.link.proofs.Error.{found_lt, found_image}
use Rattle.link.proofs.Step.{NotDoubtful, register_part}
use Rattle.link.proofs.ParitySymbol.{code_size, evened, evened-lt, evened_image, evened_zero, evened_alike}
use Rattle.link.proofs.Sequence.{Stream, joint, registered, joint-right, guard_clean, guard_syndrome, Mid}
use Rattle.link.proofs.Sequence.{mid_stayed, stream_judged}

module _ (n w : ℕ) (infos : List ℕ) (from : 2 ≤ n) (size : length infos ≡ n - 1)
    (code : Corrects n w (infos ++ (1 ∷ []))) where
  abbrev rows : List ℕ
  rows = infos ++ (1 ∷ [])

  -- that of the parity
  abbrev weight : ℕ
  weight = 2 ^ (n - 1)

  -- its blocks before q are right, q is 2 × (N − 2)
  module _ {D s e : ℕ → ℕ} {count : ℕ} (S : Stream n w rows D s e 0 count) (joint-lt : D 0 < 2 ^ w)
      (syndrome_lt : (k : ℕ) → k < count → s k < 2 ^ w)
      (apart : (i d : ℕ) → 1 ≤ d → d ≤ w → i + d < count → (e i ≡ 0) ⊎ (e (i + d) ≡ 0)) (long : 2 ≤ w) (q : ℕ)
      (whole : q + 2 ≡ w + w) (right : (k : ℕ) → k < q → k < count → e k ≡ 0) (room : q + 2 < count) where
    abbrev reg : ℕ → ℕ
    reg k = registered w rows D e s k

    abbrev image : ℕ → ℕ
    image k = combination rows (e k)

    -- from block c on the stream goes on as a clean one would with the errors e'
    record Rejoined : Type 0 where
      c : ℕ
      e' : ℕ → ℕ
      early : c ≤ q + 2
      same : (k : ℕ) → c ≤ k → e' k ≡ e k
      alike : (k : ℕ) → (e' k ≡ e k) ⊎ (e' k ≡ e k ⊕ weight)
      tail : Stream n w rows D s e' c count
      apart' : (i d : ℕ) → 1 ≤ d → d ≤ w → i + d < count → (e' i ≡ 0) ⊎ (e' (i + d) ≡ 0)
      mid : Mid tail c

    module _ (c : ℕ) (e' : ℕ → ℕ) (same : (k : ℕ) → c ≤ k → e' k ≡ e k)
        (zeros : (k : ℕ) → e k ≡ 0 → e' k ≡ 0) (small : (k : ℕ) → k < count → e' k < 2 ^ n) where
      abbrev changed : Stream n w rows D s e' c count
      changed = record {
        code = code;
        error_lt = small;
        joint_next = λ k late h.
            S.joint_next k (omega arith) h ∙ ap (λ (x : ℕ). (D k ⊕ combination rows x) / 2) (sym (same k late));
        syndrome_next = λ k late h.
            S.syndrome_next k (omega arith) h
            ∙ ap (λ (x : ℕ).
            let y = s k + digit (odd (D k ⊕ combination rows x)) * 2 ^ w in
            kept_of (found rows y) y) (sym (same k late));
      }

      apart-changed : (i d : ℕ) → 1 ≤ d → d ≤ w → i + d < count → (e' i ≡ 0) ⊎ (e' (i + d) ≡ 0)
      apart-changed i d from to h = go (apart i d from to h)
        where
          go : (e i ≡ 0) ⊎ (e (i + d) ≡ 0) → (e' i ≡ 0) ⊎ (e' (i + d) ≡ 0)
          go (inl z) = inl (zeros i z)
          go (inr z) = inr (zeros (i + d) z)

    -- with the errors as they are, from a block that stays a blocks after its own
    rejoined-same : (j a l : ℕ) → a + suc l ≡ w → j + a ≡ suc q → D (suc (suc q)) ≡ image j / 2 ^ suc a
        → s (suc (suc q)) ≡ image j % 2 ^ suc a * 2 ^ l → ((i : ℕ) → i < suc (suc q) → i ≢ j → e i ≡ 0) → Rejoined
    rejoined-same j a l sum place rest lower others =
        let T = changed (suc (suc q)) e (λ k late. refl) (λ k z. z) S.error_lt in
        record {
          c = suc (suc q);
          e' = e;
          early = omega arith;
          same = λ k late. refl;
          alike = λ k. inl refl;
          tail = T;
          apart' = apart;
          mid =
              mid_stayed T apart (suc q) j a l (omega arith) sum place rest lower
              (λ i d p z ne. others i (omega arith) ne)
              (eq-zero-or-pos (e (suc (suc q))));
        }

    -- the word was cleared at block j, where no pending word differed
    module _ (j : ℕ) (early : j ≤ suc q) (none : D j ≡ 0) (quiet : (i : ℕ) → i < j → e i ≡ 0)
        (cleared : s (suc j) ≡ 0) where
      abbrev pick : Bool → ℕ → ℕ
      pick b x = cond b (evened n rows x) x

      abbrev evenedAt : ℕ → ℕ
      evenedAt k = pick (eqb k j) (e k)

      pick-zero : (b : Bool) (x : ℕ) → x ≡ 0 → pick b x ≡ 0
      pick-zero true x h = evened_zero n rows x h
      pick-zero false x h = h

      pick-lt : (b : Bool) (x : ℕ) → x < 2 ^ n → pick b x < 2 ^ n
      pick-lt true x h = evened-lt n from rows x h
      pick-lt false x h = h

      pick-alike : (b : Bool) (x : ℕ) → (pick b x ≡ x) ⊎ (pick b x ≡ x ⊕ weight)
      pick-alike true x = evened_alike n rows x
      pick-alike false x = inl refl

      other : (k : ℕ) → suc j ≤ k → evenedAt k ≡ e k
      other k late = ap (λ (b : Bool). pick b (e k)) (ne_eqb k j (λ (z : k ≡ j). omega arith))

      here : combination rows (evenedAt j) ≡ image j / 2 * 2
      here = ap (λ (b : Bool). combination rows (pick b (e j))) (eq-eqb j j refl) ∙ evened_image n from infos size (e j)

      rejoined-cleared : Rejoined
      rejoined-cleared =
          let zeros : (k : ℕ) → e k ≡ 0 → evenedAt k ≡ 0 = (λ k. pick-zero (eqb k j) (e k)) in
          let small : (k : ℕ) → k < count → evenedAt k < 2 ^ n = (λ k h. pick-lt (eqb k j) (e k) (S.error_lt k h)) in
          let T = changed (suc j) evenedAt other zeros small in
          let A = apart-changed (suc j) evenedAt other zeros small in
          let half : D (suc j) ≡ image j / 2 =
          S.joint_next j (omega arith) (omega arith)
          ∙ ap (λ (x : ℕ). x / 2) (ap (λ (x : ℕ). x ⊕ image j) none ∙ xor_zero_l (image j)) in
          record {
            c = suc j;
            e' = evenedAt;
            early = omega arith;
            same = other;
            alike = λ k. pick-alike (eqb k j) (e k);
            tail = T;
            apart' = A;
            mid =
                mid_stayed T A j j 0 (w - 1) (omega arith) (omega arith) (omega arith)
                (half ∙ let z = here in omega arith)
                (cleared ∙ sym (ap (λ (x : ℕ). x * 2 ^ (w - 1))
                (let z = here in let y : combination rows (evenedAt j) % 2 ≡ 0 = omega arith in y)
                ∙ zero-mul (2 ^ (w - 1))))
                (λ i d p z ne. zeros i (quiet i (omega arith))) (eq-zero-or-pos (evenedAt (suc j)));
          }

    -- ---- blocks q and q + 1

    none_first : D q ≡ 0
    none_first =
        let at : w + (w - 2) ≡ q = omega arith in
        ap D (sym at) ∙ guard_clean S joint-lt syndrome_lt q right (w - 2) (omega arith) (omega arith)

    low_first : s q < 4
    low_first =
        let at : w + (w - 2) ≡ q = omega arith in
        subst (λ (k : ℕ). s k < 4) at
        (guard_syndrome S joint-lt syndrome_lt q right (w - 2) 2 (omega arith) (omega arith) (omega arith))

    first-joint : joint rows D e q ≡ image q
    first-joint = ap (λ (x : ℕ). x ⊕ image q) none_first ∙ xor_zero_l (image q)

    second-joint : D (suc q) ≡ image q / 2
    second-joint = S.joint_next q (omega arith) (omega arith) ∙ ap (λ (x : ℕ). x / 2) first-joint

    found-next : (k x : ℕ) → suc k < count → found rows (reg k) ≡ Some x → s (suc k) ≡ 0
    found-next k x h f = S.syndrome_next k (omega arith) h ∙ ap (λ (g : Option ℕ). kept_of g (reg k)) f

    -- a register is halved, its raw term then below the top
    missing-next : (k v : ℕ) → suc k < count → joint rows D e k ≡ v → found rows (reg k) ≡ None
        → s (suc k) ≡ s k / 2 + v % 2 * 2 ^ (w - 1)
    missing-next k v h is f =
        let top : w ≡ suc (w - 1) = omega arith in
        let even = ap (λ (i : ℕ). digit (odd v) * 2 ^ i % 2) top ∙ shifted_even (digit (odd v)) (w - 1) in
        let half = ap (λ (i : ℕ). digit (odd v) * 2 ^ i / 2) top ∙ shifted_half (digit (odd v)) (w - 1) in
        S.syndrome_next k (omega arith) h ∙ ap (λ (g : Option ℕ). kept_of g (reg k)) f
        ∙ ap (λ (x : ℕ). (s k + digit (odd x) * 2 ^ w) / 2) is
        ∙ (let z : (s k + digit (odd v) * 2 ^ w) / 2 ≡ s k / 2 + digit (odd v) * 2 ^ (w - 1) = omega arith in z)
        ∙ ap (λ (x : ℕ). s k / 2 + x * 2 ^ (w - 1)) (sym (odd-mod v))

    before_first : (i : ℕ) → i < q → e i ≡ 0
    before_first i h = right i h (omega arith)

    -- nothing was found at block q, which is right
    module _ (zero-first : e q ≡ 0) (nothing : found rows (reg q) ≡ None) where
      none-image : image q ≡ 0
      none-image = ap (combination rows) zero-first ∙ combination-zero rows

      none-second : D (suc q) ≡ 0
      none-second = second-joint ∙ ap (λ (x : ℕ). x / 2) none-image

      alone-joint : joint rows D e (suc q) ≡ image (suc q)
      alone-joint = ap (λ (x : ℕ). x ⊕ image (suc q)) none-second ∙ xor_zero_l (image (suc q))

      before-second : (i : ℕ) → i < suc q → e i ≡ 0
      before-second i h = go (eq-zero-or-pos (q - i))
        where
          go : ((q - i ≡ 0) ⊎ (0 < q - i)) → e i ≡ 0
          go (inl z) = ap e (let same : i ≡ q = omega arith in same) ∙ zero-first
          go (inr z) = before_first i (omega arith)

      low_second : s (suc q) < 2
      low_second =
          let low = low_first in
          let is = missing-next q 0 (omega arith) (first-joint ∙ none-image) nothing in
          let none = zero-mul (2 ^ (w - 1)) in
          omega arith

      after-second : (f : Option ℕ) → found rows (reg (suc q)) ≡ f → Rejoined
      after-second (Some x) h =
          rejoined-cleared (suc q) (omega arith) none-second before-second (found-next (suc q) x (omega arith) h)
      after-second None h =
          rejoined-same (suc q) 0 (w - 1) (omega arith) (omega arith)
          (S.joint_next (suc q) (omega arith) (omega arith) ∙ ap (λ (x : ℕ). x / 2) alone-joint)
          (let low = low_second in
          let is = missing-next (suc q) (image (suc q)) (omega arith) alone-joint h in
          omega arith)
          (λ i b ne. before-second i (omega arith))

    -- nothing was found at block q, and block q + 1 is right
    module _ (zero-second : e (suc q) ≡ 0) (nothing : found rows (reg q) ≡ None) where
      -- the image's two low bits, at the top
      abbrev raw : ℕ
      raw = image q % 4 * 2 ^ (w - 1)

      stayed-joint : joint rows D e (suc q) ≡ image q / 2
      stayed-joint = joint-right rows D e (suc q) zero-second ∙ second-joint

      register-second : reg (suc q) ≡ s q / 2 + raw
      register-second =
          let lower = image q % 2 * 2 ^ (w - 1) in
          let is = missing-next q (image q) (omega arith) first-joint nothing in
          let part : lower + digit (odd (image q / 2)) * 2 ^ w ≡ raw =
          register_part n w rows code (e q) (image q / 2) lower 1 (w - 1) (omega arith) refl refl in
          ap₂ (λ (a b : ℕ). a + digit (odd b) * 2 ^ w) is stayed-joint ∙ omega arith

      raw-shifted : raw ≡ shifted (suc w) (w - 1) (image q)
      raw-shifted =
          sym (shifted-mod 2 (w - 1) (image q))
          ∙ ap (λ (k : ℕ). shifted k (w - 1) (image q)) (let p : 2 + (w - 1) ≡ suc w = omega arith in p)

      raw-half : (raw % 2 ≡ 0) × (raw / 2 ≡ image q % 4 * 2 ^ (w - 2))
      raw-half =
          let at : w - 1 ≡ suc (w - 2) = omega arith in (
            ap (λ (k : ℕ). image q % 4 * 2 ^ k % 2) at ∙ shifted_even (image q % 4) (w - 2),
            ap (λ (k : ℕ). image q % 4 * 2 ^ k / 2) at ∙ shifted_half (image q % 4) (w - 2),
          )

      -- were the register an image, the two bits would be 0
      raw-found : (x : ℕ) → found rows (reg (suc q)) ≡ Some x → raw ≡ 0
      raw-found x h =
          let low = low_first in
          let even = raw-half.0 in
          let small : x < 2 ^ n =
          subst (λ (k : ℕ). x < 2 ^ k) (code_size n from infos size) (found_lt rows (reg (suc q)) x h) in
          let is : combination rows x ≡ s q / 2 + raw = found_image rows (reg (suc q)) x h ∙ register-second in
          let cut : combination rows x / 2 * 2 ≡ raw = omega arith in
          raw-shifted
          ∙ shifted_none code (w - 1) (e q) (evened n rows x) (omega arith) (omega arith) (S.error_lt q (omega arith))
          (evened-lt n from rows x small) (evened_image n from infos size x ∙ cut ∙ raw-shifted)

      next-raw : (f : Option ℕ) → found rows (reg (suc q)) ≡ f → s (suc (suc q)) ≡ raw / 2
      next-raw (Some x) h = found-next (suc q) x (omega arith) h ∙ sym (ap (λ (y : ℕ). y / 2) (raw-found x h))
      next-raw None h =
          let low = low_first in
          let even = raw-half.0 in
          S.syndrome_next (suc q) (omega arith) (omega arith) ∙ ap (λ (g : Option ℕ). kept_of g (reg (suc q))) h
          ∙ ap (λ (y : ℕ). y / 2) register-second ∙ omega arith

      after_both : Rejoined
      after_both =
          rejoined-same q 1 (w - 2) (omega arith) (omega arith)
          (S.joint_next (suc q) (omega arith) (omega arith) ∙ ap (λ (x : ℕ). x / 2) stayed-joint ∙ omega arith)
          (next-raw (found rows (reg (suc q))) refl ∙ raw-half.1)
          (λ i b ne. others i b ne (eq-zero-or-pos (q - i)))
        where
          others : (i : ℕ) → i < suc (suc q) → i ≢ q → ((q - i ≡ 0) ⊎ (0 < q - i)) → e i ≡ 0
          others i b ne (inl z) = ap e (let same : i ≡ suc q = omega arith in same) ∙ zero-second
          others i b ne (inr z) = before_first i (omega arith)

    rejoined : (f : Option ℕ) → found rows (reg q) ≡ f → ((e (suc q) ≡ 0) ⊎ (0 < e (suc q))) → Rejoined
    rejoined (Some x) h z = rejoined-cleared q (omega arith) none_first before_first (found-next q x (omega arith) h)
    rejoined None h (inl z) = after_both z h
    rejoined None h (inr z) =
        after-second (alone (apart q 1 (omega arith) (omega arith) (omega arith))) h (found rows (reg (suc q))) refl
      where
        alone : (e q ≡ 0) ⊎ (e (q + 1) ≡ 0) → e q ≡ 0
        alone (inl y) = y
        alone (inr y) =
            let at : e (suc q) ≡ 0 = ap e (let p : suc q ≡ q + 1 = omega arith in p) ∙ y in
            absurd (omega arith)

    -- from block 2 × (N − 1) on: the error of block k − w is found, or it and the parity symbol together
    pub short_judged : (k i : ℕ) → q + 2 ≤ k → k < count → i + w ≡ k
        → ((error_of (found rows (reg k)) ≡ e i) ⊎ (error_of (found rows (reg k)) ≡ e i ⊕ weight))
        × NotDoubtful (found rows (reg k)) (reg k)
    short_judged k i late h place =
        let r = rejoined (found rows (reg q)) refl (eq-zero-or-pos (e (suc q))) in
        let from = r.early in
        let same : registered w rows D r.e' s k ≡ reg k =
        ap (λ (x : ℕ). s k + digit (odd (D k ⊕ combination rows x)) * 2 ^ w) (r.same k (omega arith)) in
        let out = stream_judged r.tail r.apart' r.c (omega arith) r.mid k (r.e' i) (omega arith) h
        (λ j p. ap r.e' (let one : j ≡ i = omega arith in one)) (λ few. absurd (omega arith)) in
        let is : error_of (found rows (reg k)) ≡ r.e' i =
        ap (λ (x : ℕ). error_of (found rows x)) (sym same) ∙ out.0 in
        (go (r.e' i) (r.alike i) is, subst (λ (x : ℕ). NotDoubtful (found rows x) x) same out.1)
      where
        go : (x : ℕ) → ((x ≡ e i) ⊎ (x ≡ e i ⊕ weight)) → error_of (found rows (reg k)) ≡ x
            → (error_of (found rows (reg k)) ≡ e i) ⊎ (error_of (found rows (reg k)) ≡ e i ⊕ weight)
        go x (inl y) is = inl (is ∙ y)
        go x (inr y) is = inr (is ∙ y)
