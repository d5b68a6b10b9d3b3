-- What the link needs of a code, as one record, and why a suitable table has it: the image of an error block gives back
-- that block, and a shifted image is 0 or the image of no block. Assumes nothing.
--
--   Corrects            the record
--   shifted_none        a shifted image that is an image is 0
--   suitable_corrects   a suitable table has it
use mathlib.Core.Path.{◌≡◌, refl, sym, ap, ◌∙◌, subst}
use mathlib.Core.Logic.{◌⊎◌, inl, inr}
use mathlib.Core.List.{List}
use Prim.Native.Nat.{ℕ, suc, ◌^◌, ◌≤◌, ◌<◌, zero-le}
use native.Mathlib.Omega.{arith}
use lib.ListN.{length}
use lib.Pow.{pow_pos}
use Rattle.std.specs.Prelude.{Option}
use Rattle.std.specs.Prelude.{Some, None}
use Rattle.span.specs.Word.{◌⊕◌, shifted}
use Rattle.span.specs.Combination.{combination, Below}
use Rattle.span.specs.Relation.{least_coefficients, IsLeast}
use Rattle.span.proofs.Word.{xor-eq, xor_self, xor_lt, shifted-zero}
use Rattle.span.proofs.Combination.{combination-zero, combination-xor, combination-lt}
use Rattle.span.proofs.Relation.{least-coefficients}
use Rattle.tables.specs.Code.{Suitable}
use Rattle.tables.proofs.Image.{alike}

-- The rows of a code of n symbols and span w + 1: those of the information, and the parity's, 1.
pub record Corrects (n w : ℕ) (rows : List ℕ) : Type 0 where
  pub image_lt : (e : ℕ) → combination rows e < 2 ^ suc w
  pub image_once : (a b : ℕ) → a < 2 ^ n → b < 2 ^ n → combination rows a ≡ combination rows b → a ≡ b
  pub image_found : (e : ℕ) → e < 2 ^ n → least_coefficients rows (combination rows e) ≡ Some e
  pub shifted_found : (l e : ℕ) → 1 ≤ l → l ≤ w → e < 2 ^ n
      → ((shifted (suc w) l (combination rows e) ≡ 0)
      × (least_coefficients rows (shifted (suc w) l (combination rows e)) ≡ Some 0))
      ⊎ (least_coefficients rows (shifted (suc w) l (combination rows e)) ≡ None)

module _ {n w : ℕ} {rows : List ℕ} (code : Corrects n w rows) where
  pub shifted_none : (l x y : ℕ) → 1 ≤ l → l ≤ w → x < 2 ^ n → y < 2 ^ n
      → combination rows y ≡ shifted (suc w) l (combination rows x) → shifted (suc w) l (combination rows x) ≡ 0
  shifted_none l x y from to hx hy e = go (code.shifted_found l x from to hx)
    where
      go : ((shifted (suc w) l (combination rows x) ≡ 0)
          × (least_coefficients rows (shifted (suc w) l (combination rows x)) ≡ Some 0))
          ⊎ (least_coefficients rows (shifted (suc w) l (combination rows x)) ≡ None)
          → shifted (suc w) l (combination rows x) ≡ 0
      go (inl z) = z.0
      go (inr z) =
          let p = code.image_found y hy in
          let q : least_coefficients rows (combination rows y) ≡ None = ap (least_coefficients rows) e ∙ z in
          let r : ◌≡◌ {A = ℕ} 0 1 = cc in
          absurd (omega arith)

module _ (w : ℕ) (rows : List ℕ) (some : 1 ≤ w) (suits : Suitable (suc w) rows) where
  least-is : (x : ℕ) (f : Option ℕ) → least_coefficients rows x ≡ f
      → IsLeast (λ (c : ℕ). combination rows c ≡ x) 0 (2 ^ length rows) f
  least-is x f e = subst (IsLeast (λ (c : ℕ). combination rows c ≡ x) 0 (2 ^ length rows)) e (least-coefficients rows x)

  -- the rows are independent: e1 = 0 is allowed in a clash
  rows-independent : (c : ℕ) → c < 2 ^ length rows → combination rows c ≡ 0 → c ≡ 0
  rows-independent c h e =
      alike (suc w) rows suits 1 c 0 (omega arith) (omega arith) h (pow_pos (length rows))
      (e ∙ sym (ap (shifted (suc w) 1) (combination-zero rows) ∙ shifted-zero (suc w) 1))

  same-image : (c e : ℕ) → c < 2 ^ length rows → e < 2 ^ length rows → combination rows c ≡ combination rows e → c ≡ e
  same-image c e hc he same =
      xor-eq c e (rows-independent (c ⊕ e) (xor_lt (length rows) c e hc he)
      (combination-xor rows c e ∙ ap (λ (x : ℕ). x ⊕ combination rows e) same ∙ xor_self (combination rows e)))

  suitable-found : (e : ℕ) → e < 2 ^ length rows → (f : Option ℕ)
      → least_coefficients rows (combination rows e) ≡ f → f ≡ Some e
  suitable-found e h (Some c) q =
      let l = least-is (combination rows e) (Some c) q in
      ap Some (same-image c e l.1 h l.2)
  suitable-found e h None q = absurd (least-is (combination rows e) None q e zero-le h refl)

  suitable-shifted : (l e : ℕ) → 1 ≤ l → l ≤ w → e < 2 ^ length rows → (f : Option ℕ)
      → least_coefficients rows (shifted (suc w) l (combination rows e)) ≡ f
      → ((shifted (suc w) l (combination rows e) ≡ 0) × (f ≡ Some 0)) ⊎ (f ≡ None)
  suitable-shifted l e from to h (Some c) q =
      let x = shifted (suc w) l (combination rows e) in
      let r = least-is x (Some c) q in
      let none = alike (suc w) rows suits l c e from (omega arith) r.1 h r.2 in
      inl (sym r.2 ∙ ap (combination rows) none ∙ combination-zero rows, ap Some none)
  suitable-shifted l e from to h None q = inr refl

  pub suitable_corrects : (n : ℕ) → length rows ≡ n → Below (suc w) rows → Corrects n w rows
  suitable_corrects n size below = record {
    image_lt = λ e. combination-lt (suc w) rows e below;
    image_once = λ a b ha hb. same-image a b (rw size ha) (rw size hb);
    image_found = λ e h. suitable-found e (rw size h) (least_coefficients rows (combination rows e)) refl;
    shifted_found = λ l e from to h.
        suitable-shifted l e from to (rw size h) (least_coefficients rows (shifted (suc w) l (combination rows e))) refl;
  }
