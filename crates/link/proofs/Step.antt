-- The words of one step of coder and decoder, with the parity's row in the image: pending word and image of the block,
-- halved, are the new pending word; what is dropped is 0 for the coder and the raw term for the decoder. So for the
-- exclusive or of both, with the image of the error. Then what a step finds, where its register is a shifted image.
-- Assumes nothing.
use mathlib.Core.Path.{◌≡◌, refl, sym, ap, ap₂, ◌∙◌, subst}
use mathlib.Core.Bool.{Bool, true, false, xor, cond}
use mathlib.Core.Logic.{◌≢◌, ◌⊎◌, inl, inr}
use mathlib.Core.List.{List, [], ◌∷◌, ◌++◌}
use Prim.Native.Nat.{ℕ, suc, ◌+◌, ◌*◌, ◌/◌, ◌%◌, ◌^◌, ◌<◌}
use native.Mathlib.Nat.{add_comm, mul-one, mul_assoc, add-mul, div-eq_of_lt}
use native.Mathlib.Numerals.{add-one, one-add}
use native.Mathlib.Omega.{arith}
use lib.Bits.{shifted_half, shifted_even}
use lib.Dec.{eqb}
use lib.ListN.{length}
use lib.Pow.{pow-add, high, low, mod-pow-add, shr-shr}
use Rattle.std.specs.Prelude.{Option}
use Rattle.std.specs.Prelude.{Some, None}
use Rattle.span.specs.Word.{◌⊕◌, odd, bit, sel, digit, shifted}
use Rattle.span.specs.Combination.{combination}
use Rattle.span.specs.Relation.{least_coefficients}
use Rattle.span.proofs.Word.{xor-self-bool, xor_assoc, xor-swap, xor_zero_r, xor-half, odd-xor, odd-digit, odd-mod}
use Rattle.span.proofs.Word.{odd-of, xor-false-r, bit-odd, shifted-mod, shifted-inside, digit-half}
use Rattle.span.proofs.Combination.{combination-last, combination-low, combination-xor}
use Rattle.link.specs.declared.decode.Mark.TheVariants.{Clean, Corrected, Parity, Doubtful, Held}
use Rattle.link.specs.Memory.{joining}
use Rattle.link.specs.Step.{found, error_of, kept_of, mark_of}
use Rattle.link.proofs.Suitable.{Corrects}

-- a number below 2^ν with s as bit ν: a coded block, its parity above the information, and a register, its raw term
-- above the syndrome word
module _ (ν b : ℕ) (s : Bool) (h : b < 2 ^ ν) where
  pub topped_low : (b + digit s * 2 ^ ν) % 2 ^ ν ≡ b
  topped_low = ap (λ (x : ℕ). x % 2 ^ ν) (add_comm b (digit s * 2 ^ ν)) ∙ low (digit s) ν h

  pub topped_bit : bit ν (b + digit s * 2 ^ ν) ≡ s
  topped_bit =
      bit-odd ν (b + digit s * 2 ^ ν)
      ∙ ap odd (ap (λ (x : ℕ). x / 2 ^ ν) (add_comm b (digit s * 2 ^ ν)) ∙ high (digit s) ν h) ∙ odd-digit s

module _ (infos : List ℕ) (ν : ℕ) (size : length infos ≡ ν) where
  image-split : (r : ℕ) → combination (infos ++ (1 ∷ [])) r ≡ combination infos (r % 2 ^ ν) ⊕ digit (bit ν r)
  image-split r =
      combination-last infos 1 r
      ∙ ap₂ (λ (x : ℕ) (k : ℕ). x ⊕ sel (bit k r) 1)
      (sym (combination-low infos r) ∙ ap (λ (k : ℕ). combination infos (r % 2 ^ k)) size) size

  joined : (pending r : ℕ)
      → pending ⊕ combination (infos ++ (1 ∷ [])) r ≡ joining infos pending (r % 2 ^ ν) ⊕ digit (bit ν r)
  unfolding joining
  joined pending r =
      ap (λ (x : ℕ). pending ⊕ x) (image-split r)
      ∙ sym (xor_assoc pending (combination infos (r % 2 ^ ν)) (digit (bit ν r)))

  pub joined_half : (pending r : ℕ)
      → (pending ⊕ combination (infos ++ (1 ∷ [])) r) / 2 ≡ joining infos pending (r % 2 ^ ν) / 2
  joined_half pending r =
      ap (λ (x : ℕ). x / 2) (joined pending r) ∙ xor-half (joining infos pending (r % 2 ^ ν)) (digit (bit ν r))
      ∙ ap (λ (x : ℕ). joining infos pending (r % 2 ^ ν) / 2 ⊕ x) (digit-half (bit ν r))
      ∙ xor_zero_r (joining infos pending (r % 2 ^ ν) / 2)

  pub joined_odd : (pending r : ℕ)
      → odd (pending ⊕ combination (infos ++ (1 ∷ [])) r) ≡ xor (odd (joining infos pending (r % 2 ^ ν))) (bit ν r)
  joined_odd pending r =
      ap odd (joined pending r) ∙ odd-xor (joining infos pending (r % 2 ^ ν)) (digit (bit ν r))
      ∙ ap (λ (s : Bool). xor (odd (joining infos pending (r % 2 ^ ν))) s) (odd-digit (bit ν r))

  -- What a step of coder and decoder does to the words of its stream. c is the coded block of b, r the received one.
  module _ (pc pd b c r : ℕ) (h : b < 2 ^ ν) (coded : c ≡ b + digit (odd (joining infos pc b)) * 2 ^ ν) where
    pub coder_info : c % 2 ^ ν ≡ b
    coder_info = ap (λ (x : ℕ). x % 2 ^ ν) coded ∙ topped_low ν b (odd (joining infos pc b)) h

    pub coder_half : (pc ⊕ combination (infos ++ (1 ∷ [])) c) / 2 ≡ joining infos pc b / 2
    coder_half = joined_half pc c ∙ ap (λ (x : ℕ). joining infos pc x / 2) coder_info

    pub coder_even : odd (pc ⊕ combination (infos ++ (1 ∷ [])) c) ≡ false
    coder_even =
        joined_odd pc c
        ∙ ap₂ xor (ap (λ (x : ℕ). odd (joining infos pc x)) coder_info)
        (ap (bit ν) coded ∙ topped_bit ν b (odd (joining infos pc b)) h)
        ∙ xor-self-bool (odd (joining infos pc b))

    both : pd ⊕ pc ⊕ combination (infos ++ (1 ∷ [])) (r ⊕ c)
        ≡ pd ⊕ combination (infos ++ (1 ∷ [])) r ⊕ (pc ⊕ combination (infos ++ (1 ∷ [])) c)
    both =
        ap (λ (x : ℕ). pd ⊕ pc ⊕ x) (combination-xor (infos ++ (1 ∷ [])) r c)
        ∙ xor-swap pd pc (combination (infos ++ (1 ∷ [])) r) (combination (infos ++ (1 ∷ [])) c)

    pub both_half : (pd ⊕ pc ⊕ combination (infos ++ (1 ∷ [])) (r ⊕ c)) / 2
        ≡ joining infos pd (r % 2 ^ ν) / 2 ⊕ joining infos pc b / 2
    both_half =
        ap (λ (x : ℕ). x / 2) both
        ∙ xor-half (pd ⊕ combination (infos ++ (1 ∷ [])) r) (pc ⊕ combination (infos ++ (1 ∷ [])) c)
        ∙ ap₂ ◌⊕◌ (joined_half pd r) coder_half

    pub both_odd : odd (pd ⊕ pc ⊕ combination (infos ++ (1 ∷ [])) (r ⊕ c))
        ≡ xor (odd (joining infos pd (r % 2 ^ ν))) (bit ν r)
    both_odd =
        ap odd both
        ∙ odd-xor (pd ⊕ combination (infos ++ (1 ∷ [])) r) (pc ⊕ combination (infos ++ (1 ∷ [])) c)
        ∙ ap (λ (s : Bool). xor (odd (pd ⊕ combination (infos ++ (1 ∷ [])) r)) s) coder_even
        ∙ xor-false-r (odd (pd ⊕ combination (infos ++ (1 ∷ [])) r))
        ∙ joined_odd pd r

-- ---- what a step finds

-- the mark is not doubtful, whichever error block the parity symbol is
abbrev pub NotDoubtful : Option ℕ → ℕ → Type 0
NotDoubtful f x = (weight : ℕ) → mark_of weight f x ≢ Doubtful

-- a step removes the error, keeps that word, and is sure
pub record Outcome (f : Option ℕ) (x error kept : ℕ) : Type 0 where
  pub error_is : error_of f ≡ error
  pub kept_is : kept_of f x ≡ kept
  pub sure : NotDoubtful f x

mark-found : (s p : Bool) (e : ℕ) → cond s Clean (cond p (Parity e) (Corrected e)) ≢ Doubtful
mark-found true p e h = let z : ◌≡◌ {A = ℕ} 0 1 = cc in omega arith
mark-found false true e h = let z : ◌≡◌ {A = ℕ} 0 1 = cc in omega arith
mark-found false false e h = let z : ◌≡◌ {A = ℕ} 0 1 = cc in omega arith

mark-missing : (s : Bool) → s ≡ false → cond s Doubtful Held ≢ Doubtful
mark-missing true e h = let z : ◌≡◌ {A = ℕ} 0 1 = cc in omega arith
mark-missing false e h = let z : ◌≡◌ {A = ℕ} 0 1 = cc in omega arith

outcome-found : (f : Option ℕ) (x e : ℕ) → f ≡ Some e → Outcome f x e 0
outcome-found f x e q =
    subst (λ (g : Option ℕ). Outcome g x e 0) (sym q)
    (record { error_is = refl; kept_is = refl; sure = λ weight. mark-found (eqb e 0) (eqb e weight) e })

outcome-missing : (f : Option ℕ) (x : ℕ) → f ≡ None → odd x ≡ false → Outcome f x 0 (x / 2)
outcome-missing f x q even =
    subst (λ (g : Option ℕ). Outcome g x 0 (x / 2)) (sym q)
    (record { error_is = refl; kept_is = refl; sure = λ weight. mark-missing (odd x) even })

module _ (n w : ℕ) (rows : List ℕ) (code : Corrects n w rows) where
  -- The error block x came a blocks ago, and l are to come before it leaves: v is what is left of its image, and its
  -- lower part is the syndrome.
  module _ (x v s a l : ℕ) (whole : a + l ≡ w) (rest : v ≡ combination rows x / 2 ^ a)
      (lower : s ≡ combination rows x % 2 ^ a * 2 ^ l) where
    pub register_part : s + digit (odd v) * 2 ^ w ≡ combination rows x % 2 ^ suc a * 2 ^ l
    register_part =
        let y = combination rows x in
        let d : v % 2 ≡ digit (odd v) = odd-mod v in
        let parts : y % 2 ^ suc a ≡ digit (odd v) * 2 ^ a + y % 2 ^ a =
        ap (λ (k : ℕ). y % 2 ^ k) (sym (one-add a)) ∙ mod-pow-add y 1 a
        ∙ ap (λ (z : ℕ). z % 2 * 2 ^ a + y % 2 ^ a) (sym rest) ∙ ap (λ (z : ℕ). z * 2 ^ a + y % 2 ^ a) d in
        let top : digit (odd v) * 2 ^ a * 2 ^ l ≡ digit (odd v) * 2 ^ w =
        mul_assoc (digit (odd v)) (2 ^ a) (2 ^ l)
        ∙ ap (λ (z : ℕ). digit (odd v) * z) (sym (pow-add 2 a l) ∙ ap (λ (k : ℕ). 2 ^ k) whole) in
        add_comm s (digit (odd v) * 2 ^ w) ∙ ap₂ ◌+◌ (sym top) lower
        ∙ sym (add-mul (digit (odd v) * 2 ^ a) (y % 2 ^ a) (2 ^ l))
        ∙ ap (λ (z : ℕ). z * 2 ^ l) (sym parts)

    register-shifted : s + digit (odd v) * 2 ^ w ≡ shifted (suc w) l (combination rows x)
    register-shifted =
        register_part ∙ sym (shifted-mod (suc a) l (combination rows x))
        ∙ ap (λ (k : ℕ). shifted k l (combination rows x)) (omega arith)

  -- the error leaves: it is found, and the stream is clean again
  pub leaving : (x v s : ℕ) → x < 2 ^ n → v ≡ combination rows x / 2 ^ w → s ≡ combination rows x % 2 ^ w * 2 ^ 0
      → Outcome (found rows (s + digit (odd v) * 2 ^ w)) (s + digit (odd v) * 2 ^ w) x 0 × (v / 2 ≡ 0)
  leaving x v s h rest lower =
      let y = combination rows x in
      let same : s + digit (odd v) * 2 ^ w ≡ y =
      register-shifted x v s w 0 (omega arith) rest lower
      ∙ shifted-inside (suc w) 0 (suc w) y (code.image_lt x) (omega arith) ∙ mul-one y in
      let none : v / 2 ≡ 0 =
      ap (λ (z : ℕ). z / 2) rest ∙ shr-shr y w 1 ∙ ap (λ (k : ℕ). y / 2 ^ k) (add-one w)
      ∙ div-eq_of_lt (code.image_lt x) in (
        outcome-found (least_coefficients rows (s + digit (odd v) * 2 ^ w)) (s + digit (odd v) * 2 ^ w) x
            (ap (least_coefficients rows) same ∙ code.image_found x h),
        none,
      )

  -- it stays: nothing is found but 0, and the words move on
  pub staying : (x v s a l : ℕ) → x < 2 ^ n → a + suc l ≡ w → v ≡ combination rows x / 2 ^ a
      → s ≡ combination rows x % 2 ^ a * 2 ^ suc l
      → Outcome (found rows (s + digit (odd v) * 2 ^ w)) (s + digit (odd v) * 2 ^ w) 0
      (combination rows x % 2 ^ suc a * 2 ^ l)
      × (v / 2 ≡ combination rows x / 2 ^ suc a)
  staying x v s a l h whole rest lower = (go (code.shifted_found (suc l) x (omega arith) (omega arith) h), on)
    where
      y : ℕ
      y = combination rows x

      reg : ℕ
      reg = s + digit (odd v) * 2 ^ w

      part : reg ≡ y % 2 ^ suc a * 2 ^ suc l
      part = register_part x v s a (suc l) whole rest lower

      same : reg ≡ shifted (suc w) (suc l) y
      same = register-shifted x v s a (suc l) whole rest lower

      half : reg / 2 ≡ y % 2 ^ suc a * 2 ^ l
      half = ap (λ (z : ℕ). z / 2) part ∙ shifted_half (y % 2 ^ suc a) l

      even : odd reg ≡ false
      even = odd-of false reg (ap (λ (z : ℕ). z % 2) part ∙ shifted_even (y % 2 ^ suc a) l)

      on : v / 2 ≡ y / 2 ^ suc a
      on = ap (λ (z : ℕ). z / 2) rest ∙ shr-shr y a 1 ∙ ap (λ (k : ℕ). y / 2 ^ k) (add-one a)

      go : ((shifted (suc w) (suc l) y ≡ 0) × (least_coefficients rows (shifted (suc w) (suc l) y) ≡ Some 0))
          ⊎ (least_coefficients rows (shifted (suc w) (suc l) y) ≡ None)
          → Outcome (least_coefficients rows reg) reg 0 (y % 2 ^ suc a * 2 ^ l)
      go (inl z) =
          let none : y % 2 ^ suc a * 2 ^ l ≡ 0 = sym half ∙ ap (λ (u : ℕ). u / 2) (same ∙ z.0) in
          subst (Outcome (least_coefficients rows reg) reg 0) (sym none)
          (outcome-found (least_coefficients rows reg) reg 0 (ap (least_coefficients rows) same ∙ z.1))
      go (inr z) =
          subst (Outcome (least_coefficients rows reg) reg 0) half
          (outcome-missing (least_coefficients rows reg) reg (ap (least_coefficients rows) same ∙ z) even)
