-- A decoder on errors alone, as sequences: E is the memory before each block, e the blocks, wrong bits in bursts of at
-- most 10 bits with at least 56 right ones between. Once the memory is quiet every block delivers zero. Assumes
-- nothing.
--
--   Spread     how wrong bits lie
--   ErrorRun   the memories of such a decoder
--   some-bit   a wrong block has a wrong bit
--   quiet_on   the theorem
use mathlib.Core.Path.{◌≡◌, refl, sym, ap, ap₂, ◌∙◌, subst}
use mathlib.Core.Bool.{Bool, true, false}
use mathlib.Core.Logic.{◌≢◌, ◌⊎◌, inl, inr}
use mathlib.Core.List.{List, [], ◌∷◌}
use Prim.Native.Nat.{ℕ, zero, suc, ◌+◌, ◌-◌, ◌*◌, ◌≤◌, ◌<◌}
use native.Mathlib.Nat.{add-zero}
use native.Mathlib.Decide.{dec_lt, ℕ_discrete}
use native.Mathlib.Omega.{arith}
use lib.ListN.{length, get_or, replicate}
use Rattle.span.specs.Word.{bit}
use Rattle.span.proofs.Linear.{top-none, bits_none}
use Rattle.iwadare.specs.Decoder.{decoder_next, delivered}
use Rattle.iwadare.proofs.Patterns.{quiet, quiet_next, quiet-delivers, settles, patterns, room_of, Goes}
use Rattle.iwadare.proofs.Patterns.{settles_end, settles-more, settles-so, patterns-go, first_goes, room-odd}
use Rattle.iwadare.proofs.Patterns.{room-second, room-last}

-- bit a of block p is number 3 × p + a
pub record Spread (e : ℕ → ℕ) : Type 0 where
  pub below : (p : ℕ) → e p < 8
  pub apart : (p q a b : ℕ) → a < 3 → b < 3 → bit a (e p) ≡ true → bit b (e q) ≡ true → 3 * p + a < 3 * q + b
      → (3 * q + b < 3 * p + a + 10) ⊎ (3 * p + a + 56 < 3 * q + b)

pub record ErrorRun (E : ℕ → List ℕ) (e : ℕ → ℕ) : Type 0 where
  pub spread : Spread e
  pub next : (p : ℕ) → E (suc p) ≡ decoder_next (E p) (e p)

true-or-false : (s : Bool) → (s ≡ true) ⊎ (s ≡ false)
true-or-false true = inl refl
true-or-false false = inr refl

some-bit : (x : ℕ) → x < 8 → x ≢ 0 → (a : ℕ) × (a < 3) × (bit a x ≡ true)
some-bit x l ne = go (true-or-false (bit 0 x)) (true-or-false (bit 1 x)) (true-or-false (bit 2 x))
  where
    go : (bit 0 x ≡ true) ⊎ (bit 0 x ≡ false) → (bit 1 x ≡ true) ⊎ (bit 1 x ≡ false)
        → (bit 2 x ≡ true) ⊎ (bit 2 x ≡ false) → (a : ℕ) × (a < 3) × (bit a x ≡ true)
    go (inl h) q r = (0, omega arith, h)
    go (inr p) (inl h) r = (1, omega arith, h)
    go (inr p) (inr q) (inl h) = (2, omega arith, h)
    go (inr p) (inr q) (inr r) = absurd (ne (bits_none 3 x l none))
      where
        none : (i : ℕ) → i < 3 → bit i x ≡ false
        none zero h = p
        none (suc zero) h = q
        none (suc (suc zero)) h = r
        none (suc (suc (suc i))) h = absurd (omega arith)

-- the blocks from b on, n of them
seg : (ℕ → ℕ) → ℕ → ℕ → List ℕ
seg e b zero = []
seg e b (suc n) = e b ∷ seg e (suc b) n

seg-calm : (e : ℕ → ℕ) (b n : ℕ) → ((j : ℕ) → j < n → e (b + j) ≡ 0) → seg e b n ≡ replicate n 0
unfolding seg
seg-calm e b zero h = refl
seg-calm e b (suc n) h =
    ap₂ (λ (x : ℕ) (xs : List ℕ). x ∷ xs) (ap e (sym (add-zero b)) ∙ h 0 (omega arith))
    (seg-calm e (suc b) n
    (λ j l. ap e (let q : suc b + j ≡ b + suc j = omega arith in q) ∙ h (suc j) (omega arith)))

module _ {E : ℕ → List ℕ} {e : ℕ → ℕ} (r : ErrorRun E e) where
  -- ---- a list of blocks that settles

  follow : (n a : ℕ) → settles (E a) (seg e a n) ≡ true
      → (E (a + n) ≡ quiet) × ((i : ℕ) → i < n → delivered (E (a + i)) (e (a + i)) ≡ 0)
  unfolding seg
  follow zero a h = (ap E (add-zero a) ∙ settles_end (E a) h, λ i l. absurd (omega arith))
  follow (suc n) a h =
      let m = settles-more (E a) (e a) (seg e (suc a) n) h in
      let rest = follow n (suc a) (ap (λ (s : List ℕ). settles s (seg e (suc a) n)) (r.next a) ∙ m.1) in
      let on : suc a + n ≡ a + suc n = omega arith in
      (ap E (sym on) ∙ rest.0, at m.0 rest.1)
    where
      at : delivered (E a) (e a) ≡ 0 → ((i : ℕ) → i < n → delivered (E (suc a + i)) (e (suc a + i)) ≡ 0)
          → (i : ℕ) → i < suc n → delivered (E (a + i)) (e (a + i)) ≡ 0
      at first rest zero l = ap (λ (k : ℕ). delivered (E k) (e k)) (add-zero a) ∙ first
      at first rest (suc i) l =
          ap (λ (k : ℕ). delivered (E k) (e k)) (let q : a + suc i ≡ suc a + i = omega arith in q)
          ∙ rest i (omega arith)

  -- blocks below the bounds, of which number n is the last wrong one before the calm; all together they are c + 1
  walk : (n c b : ℕ) (bounds : List ℕ) → c ≡ n + 18 → patterns (E b) bounds ≡ true → n < length bounds
      → ((i : ℕ) → i ≤ n → e (b + i) < get_or bounds i 0) → e (b + n) ≢ 0
      → ((j : ℕ) → j < 18 → e (b + suc n + j) ≡ 0)
      → settles (E b) (seg e b (suc c)) ≡ true
  unfolding seg
  walk n c b [] k p l low wrong still = absurd (omega arith)
  walk zero c b (bound ∷ bounds) k p l low wrong still =
      let g = patterns-go (E b) bound bounds p (e b)
      (subst (λ (q : ℕ). e q < bound) (add-zero b) (low 0 (omega arith))) in
      settles-so (E b) (e b) (seg e (suc b) c) g.delivers
      (ap (settles (decoder_next (E b) (e b)))
      (seg-calm e (suc b) c
      (λ j h. ap e (let q : suc b + j ≡ b + 1 + j = omega arith in q) ∙ still j (omega arith))
      ∙ ap (λ (q : ℕ). replicate q 0) (let q : c ≡ 18 = omega arith in q))
      ∙ g.stops (λ z. wrong (ap e (add-zero b) ∙ z)))
  walk (suc n) zero b (bound ∷ bounds) k p l low wrong still = absurd (omega arith)
  walk (suc n) (suc c) b (bound ∷ bounds) k p l low wrong still =
      let g = patterns-go (E b) bound bounds p (e b)
      (subst (λ (q : ℕ). e q < bound) (add-zero b) (low 0 (omega arith))) in
      settles-so (E b) (e b) (seg e (suc b) (suc c)) g.delivers
      (ap (λ (s : List ℕ). settles s (seg e (suc b) (suc c))) (sym (r.next b))
      ∙ walk n c (suc b) bounds (omega arith)
      (ap (λ (s : List ℕ). patterns s bounds) (r.next b) ∙ g.goes) (omega arith)
      (λ i h. subst (λ (q : ℕ). e q < get_or bounds i 0) (let q : b + suc i ≡ suc b + i = omega arith in q)
      (low (suc i) (omega arith)))
      (λ z. wrong (ap e (let q : b + suc n ≡ suc b + n = omega arith in q) ∙ z))
      (λ j h. ap e (let q : suc b + suc n + j ≡ b + suc (suc n) + j = omega arith in q) ∙ still j h))

  -- ---- where a burst begins and ends

  -- the fourth block has no bit that is 10 or more past the first wrong one
  fourth : (a : ℕ) → e a ≢ 0 → e (a + 3) < room_of (e a)
  fourth a wrong = go (true-or-false (bit 0 (e a))) (true-or-false (bit 1 (e a)))
    where
      low : (k i : ℕ) → i < 3 → bit i (e a) ≡ true → k < 3 → i < k → bit k (e (a + 3)) ≡ false
      low k i il is kl over = far (true-or-false (bit k (e (a + 3))))
        where
          far : (bit k (e (a + 3)) ≡ true) ⊎ (bit k (e (a + 3)) ≡ false) → bit k (e (a + 3)) ≡ false
          far (inl q) = no (r.spread.apart a (a + 3) i k il kl is q (omega arith))
            where
              no : (3 * (a + 3) + k < 3 * a + i + 10) ⊎ (3 * a + i + 56 < 3 * (a + 3) + k) → bit k (e (a + 3)) ≡ false
              no (inl z) = absurd (omega arith)
              no (inr z) = absurd (omega arith)
          far (inr q) = q

      go : (bit 0 (e a) ≡ true) ⊎ (bit 0 (e a) ≡ false) → (bit 1 (e a) ≡ true) ⊎ (bit 1 (e a) ≡ false)
          → e (a + 3) < room_of (e a)
      go (inl p) q =
          subst (λ (k : ℕ). e (a + 3) < k) (sym (room-odd (e a) p))
          (top-none 1 (e (a + 3)) (top-none 2 (e (a + 3)) (r.spread.below (a + 3))
          (low 2 0 (omega arith) p (omega arith) (omega arith))) (low 1 0 (omega arith) p (omega arith) (omega arith)))
      go (inr p) (inl q) =
          subst (λ (k : ℕ). e (a + 3) < k) (sym (room-second (e a) p q))
          (top-none 2 (e (a + 3)) (r.spread.below (a + 3)) (low 2 1 (omega arith) q (omega arith) (omega arith)))
      go (inr p) (inr q) =
          subst (λ (k : ℕ). e (a + 3) < k) (sym (room-last (e a) p q)) (r.spread.below (a + 3))

  -- the last wrong block of a burst that begins at block a
  record Last (a : ℕ) : Type 0 where
    at : ℕ
    near : at ≤ 3
    wrong : e (a + at) ≢ 0
    none : (i : ℕ) → at < i → i ≤ 3 → e (a + i) ≡ 0

  last : (a : ℕ) → e a ≢ 0 → Last a
  last a ne = go (ℕ_discrete (e (a + 3)) 0) (ℕ_discrete (e (a + 2)) 0) (ℕ_discrete (e (a + 1)) 0)
    where
      go : Dec (e (a + 3) ≡ 0) → Dec (e (a + 2) ≡ 0) → Dec (e (a + 1) ≡ 0) → Last a
      go (no p) y z =
          record { at = 3; near = omega arith; wrong = p; none = λ i l h. absurd (omega arith) }
      go (yes p) (no q) z = record {
        at = 2;
        near = omega arith;
        wrong = q;
        none = λ i l h. ap (λ (k : ℕ). e (a + k)) (let k : i ≡ 3 = omega arith in k) ∙ p;
      }
      go (yes p) (yes q) (no z) = record {
        at = 1;
        near = omega arith;
        wrong = z;
        none = λ i l h. two i l h (ℕ_discrete i 2);
      }
        where
          two : (i : ℕ) → 1 < i → i ≤ 3 → Dec (i ≡ 2) → e (a + i) ≡ 0
          two i l h (yes k) = ap (λ (k : ℕ). e (a + k)) k ∙ q
          two i l h (no k) = ap (λ (k : ℕ). e (a + k)) (let k : i ≡ 3 = omega arith in k) ∙ p
      go (yes p) (yes q) (yes z) = record {
        at = 0;
        near = omega arith;
        wrong = λ k. ne (ap e (sym (add-zero a)) ∙ k);
        none = λ i l h. three i l h (ℕ_discrete i 1) (ℕ_discrete i 2);
      }
        where
          three : (i : ℕ) → 0 < i → i ≤ 3 → Dec (i ≡ 1) → Dec (i ≡ 2) → e (a + i) ≡ 0
          three i l h (yes k) y = ap (λ (k : ℕ). e (a + k)) k ∙ z
          three i l h (no k) (yes y) = ap (λ (k : ℕ). e (a + k)) y ∙ q
          three i l h (no k) (no y) = ap (λ (k : ℕ). e (a + k)) (let k : i ≡ 3 = omega arith in k) ∙ p

  -- and 18 right blocks come after it
  still : (a : ℕ) → e a ≢ 0 → (l : Last a) → (j : ℕ) → j < 18 → e (a + suc l.at + j) ≡ 0
  still a ne l j h = go (ℕ_discrete (e c) 0) (dec_lt (l.at + suc j) 4)
    where
      c : ℕ
      c = a + suc l.at + j

      go : Dec (e c ≡ 0) → Dec (l.at + suc j < 4) → e c ≡ 0
      go (yes k) d = k
      go (no k) (yes d) =
          ap e (let q : c ≡ a + (l.at + suc j) = omega arith in q)
          ∙ l.none (l.at + suc j) (omega arith) (omega arith)
      go (no k) (no d) = far (some-bit (e a) (r.spread.below a) ne)
          (some-bit (e (a + l.at)) (r.spread.below (a + l.at)) l.wrong) (some-bit (e c) (r.spread.below c) k)
        where
          far : (x : ℕ) × (x < 3) × (bit x (e a) ≡ true) → (y : ℕ) × (y < 3) × (bit y (e (a + l.at)) ≡ true)
              → (z : ℕ) × (z < 3) × (bit z (e c) ≡ true) → e c ≡ 0
          far (x, xl, xs) (y, yl, ys) (z, zl, zs) =
              no (r.spread.apart a c x z xl zl xs zs (omega arith))
              (r.spread.apart (a + l.at) c y z yl zl ys zs (omega arith))
            where
              no : (3 * c + z < 3 * a + x + 10) ⊎ (3 * a + x + 56 < 3 * c + z)
                  → (3 * c + z < 3 * (a + l.at) + y + 10) ⊎ (3 * (a + l.at) + y + 56 < 3 * c + z) → e c ≡ 0
              no (inl p) q = absurd (omega arith)
              no (inr p) (inl q) = absurd (let n = l.near in omega arith)
              no (inr p) (inr q) = absurd (omega arith)

  -- ---- every block delivers zero

  -- a burst that begins at block a, with the calm after it, settles
  burst : (a : ℕ) → e a ≢ 0 → E a ≡ quiet → (l : Last a) → settles (E a) (seg e a (suc (l.at + 18))) ≡ true
  unfolding seg
  burst a ne is l =
      subst (λ (s : List ℕ). settles s (e a ∷ seg e (suc a) (l.at + 18)) ≡ true) (sym is)
      (settles-so quiet (e a) (seg e (suc a) (l.at + 18)) g.delivers
      (ap (λ (s : List ℕ). settles (decoder_next s (e a)) (seg e (suc a) (l.at + 18))) (sym is)
      ∙ ap (λ (s : List ℕ). settles s (seg e (suc a) (l.at + 18))) (sym (r.next a))
      ∙ rest l.at refl))
    where
      g : Goes quiet (e a) (8 ∷ 8 ∷ room_of (e a) ∷ [])
      g = first_goes (e a) (let z : 0 < e a = omega arith in z) (r.spread.below a)

      on : E (suc a) ≡ decoder_next quiet (e a)
      on = r.next a ∙ ap (λ (s : List ℕ). decoder_next s (e a)) is

      low : (i : ℕ) → i < 3 → e (suc a + i) < get_or (8 ∷ 8 ∷ room_of (e a) ∷ []) i 0
      low zero h = r.spread.below (suc a + 0)
      low (suc zero) h = r.spread.below (suc a + 1)
      low (suc (suc zero)) h =
          subst (λ (k : ℕ). e k < room_of (e a)) (let q : a + 3 ≡ suc a + 2 = omega arith in q) (fourth a ne)
      low (suc (suc (suc i))) h = absurd (omega arith)

      rest : (k : ℕ) → l.at ≡ k → settles (E (suc a)) (seg e (suc a) (k + 18)) ≡ true
      rest zero k =
          ap₂ settles on
          (seg-calm e (suc a) 18
          (λ j h. ap e (let q : suc a + j ≡ a + suc l.at + j = omega arith in q) ∙ still a ne l j h))
          ∙ g.stops ne
      rest (suc n) k =
          ap (λ (c : ℕ). settles (E (suc a)) (seg e (suc a) c)) (let q : suc n + 18 ≡ suc (n + 18) = omega arith in q)
          ∙ walk n (n + 18) (suc a) (8 ∷ 8 ∷ room_of (e a) ∷ []) refl
          (ap (λ (s : List ℕ). patterns s (8 ∷ 8 ∷ room_of (e a) ∷ [])) on ∙ g.goes) (let z = l.near in omega arith)
          (λ i h. low i (let z = l.near in omega arith))
          (λ z. l.wrong (ap e (let q : a + l.at ≡ suc a + n = omega arith in q) ∙ z))
          (λ j h. ap e (let q : suc a + suc n + j ≡ a + suc l.at + j = omega arith in q) ∙ still a ne l j h)

  quiet-from : (fuel a : ℕ) → E a ≡ quiet → (p : ℕ) → a ≤ p → p < a + fuel → delivered (E p) (e p) ≡ 0
  quiet-from zero a is p from to = absurd (omega arith)
  quiet-from (suc fuel) a is p from to = go (ℕ_discrete (e a) 0) (quiet-from fuel)
    where
      right : e a ≡ 0 → E (suc a) ≡ quiet
      right z = r.next a ∙ ap₂ decoder_next is z ∙ quiet_next

      go : Dec (e a ≡ 0)
          → ((b : ℕ) → E b ≡ quiet → (p : ℕ) → b ≤ p → p < b + fuel → delivered (E p) (e p) ≡ 0)
          → delivered (E p) (e p) ≡ 0
      go (yes z) rest = here (ℕ_discrete p a)
        where
          here : Dec (p ≡ a) → delivered (E p) (e p) ≡ 0
          here (yes k) = ap (λ (q : ℕ). delivered (E q) (e q)) k ∙ ap₂ delivered is z ∙ quiet-delivers
          here (no k) = rest (suc a) (right z) p (omega arith) (omega arith)
      go (no ne) rest = here (dec_lt p (a + n)) (follow n a (burst a ne is l))
        where
          l : Last a
          l = last a ne

          n : ℕ
          n = suc (l.at + 18)

          here : Dec (p < a + n) → (E (a + n) ≡ quiet) × ((i : ℕ) → i < n → delivered (E (a + i)) (e (a + i)) ≡ 0)
              → delivered (E p) (e p) ≡ 0
          here (yes k) f =
              ap (λ (q : ℕ). delivered (E q) (e q)) (let q : p ≡ a + (p - a) = omega arith in q)
              ∙ f.1 (p - a) (omega arith)
          here (no k) f = rest (a + n) f.0 p (omega arith) (omega arith)

  pub quiet_on : (a : ℕ) → E a ≡ quiet → (p : ℕ) → a ≤ p → delivered (E p) (e p) ≡ 0
  quiet_on a is p from = quiet-from (suc p) a is p from (omega arith)
