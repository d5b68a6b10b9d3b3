-- The least error block of a register, as the code finds it: by the least relation that ends in the register. Assumes
-- nothing.
--
--   error_found, error_missing   from the relation among rows and register
--   zero-found                   the register 0 is the image of 0
--   found_lt, found_image        an error block that was found is below 2^n, and has the register as its image
--   mark_clean, mark_parity, mark_corrected   the mark of an error block, by its value
--   verdict-found .. verdict-held   error, word that stays, and mark in the three cases of a register
use mathlib.Core.Path.{◌≡◌, refl, sym, ap, ◌∙◌, subst}
use mathlib.Core.Bool.{Bool, true, false, cond}
use mathlib.Core.Logic.{◌≢◌}
use mathlib.Core.List.{List, [], ◌∷◌, ◌++◌}
use Prim.Native.Nat.{ℕ, ◌+◌, ◌-◌, ◌/◌, ◌^◌, ◌≤◌, ◌<◌, zero-le}
use native.Mathlib.Omega.{arith}
use borrow.Author.Tests.{eq-eqb, ne_eqb}
use lib.Dec.{eqb}
use lib.ListN.{length, take, length-append}
use lib.Pow.{pow_pos, pow_mono}
use lib.Seq.{take_all}
use Rattle.std.specs.Prelude.{Option}
use Rattle.std.specs.Prelude.{Some, None}
use Rattle.span.specs.Word.{odd}
use Rattle.span.specs.Combination.{combination, counted}
use Rattle.span.specs.Relation.{least_relation, least_coefficients, raised, IsLeast}
use Rattle.span.proofs.Combination.{combination-zero}
use Rattle.span.proofs.Relation.{least-coefficients, least-unique, least-raised}
use Rattle.link.specs.declared.decode.Mark.{Mark}
use Rattle.link.specs.declared.decode.Mark.TheVariants.{Clean, Corrected, Parity, Doubtful, Held}
use Rattle.link.specs.Step.{error_of, kept_of, mark_found, mark_of}
use Rattle.link.proofs.Refusals.{picked, passed}

-- the words that count are the rows and the register
ended : (rows words : List ℕ) (n x : ℕ) → length rows ≡ n → n ≤ 16 → take (n + 1) words ≡ rows ++ (x ∷ [])
    → least_relation (counted (n + 1) words) n ≡ raised n (least_coefficients rows x)
ended rows words n x size few e =
    let long : length (rows ++ (x ∷ [])) ≤ 32 = (let l = length-append rows (x ∷ []) in omega arith) in
    ap (λ (ws : List ℕ). least_relation (take 32 ws) n) e
    ∙ ap (λ (ws : List ℕ). least_relation ws n) (take_all 32 (rows ++ (x ∷ [])) long)
    ∙ ap (least_relation (rows ++ (x ∷ []))) (sym size) ∙ least-raised rows x
    ∙ ap (λ (k : ℕ). raised k (least_coefficients rows x)) size

raised-found : (k c : ℕ) (f : Option ℕ) → raised k f ≡ Some c → (2 ^ k ≤ c) × (f ≡ Some (c - 2 ^ k))
raised-found k c (Some d) e =
    let same : 2 ^ k + d ≡ c = cc in
    let rest : d ≡ c - 2 ^ k = omega arith in
    (omega arith, ap Some rest)
raised-found k c None e = let z : ◌≡◌ {A = ℕ} 0 1 = cc in absurd (omega arith)

raised-missing : (k : ℕ) (f : Option ℕ) → raised k f ≡ None → f ≡ None
raised-missing k (Some d) e = let z : ◌≡◌ {A = ℕ} 0 1 = cc in absurd (omega arith)
raised-missing k None e = refl

module _ (rows words : List ℕ) (n x : ℕ) (size : length rows ≡ n) (few : n ≤ 16)
    (e : take (n + 1) words ≡ rows ++ (x ∷ [])) where
  pub error_found : (c : ℕ) → least_relation (counted (n + 1) words) n ≡ Some c
      → (2 ^ n ≤ c) × (least_coefficients rows x ≡ Some (c - 2 ^ n))
  error_found c h = raised-found n c (least_coefficients rows x) (sym (ended rows words n x size few e) ∙ h)

  pub error_missing : least_relation (counted (n + 1) words) n ≡ None → least_coefficients rows x ≡ None
  error_missing h = raised-missing n (least_coefficients rows x) (sym (ended rows words n x size few e) ∙ h)

pub zero-found : (rows : List ℕ) → least_coefficients rows 0 ≡ Some 0
zero-found rows =
    least-unique (λ (c : ℕ). combination rows c ≡ 0) 0 (2 ^ length rows) (least_coefficients rows 0) (Some 0)
    (least-coefficients rows 0)
    (zero-le, pow_pos (length rows), combination-zero rows, λ d a b q. zero-le)

module _ (rows : List ℕ) (x e : ℕ) (h : least_coefficients rows x ≡ Some e) where
  is-least : IsLeast (λ (c : ℕ). combination rows c ≡ x) 0 (2 ^ length rows) (Some e)
  is-least = subst (IsLeast (λ (c : ℕ). combination rows c ≡ x) 0 (2 ^ length rows)) h (least-coefficients rows x)

  pub found_lt : e < 2 ^ length rows
  found_lt = is-least.1

  pub found_image : combination rows e ≡ x
  found_image = is-least.2

-- an error block has 16 bits at most
pub error_lt : (rows : List ℕ) (x : ℕ) → length rows ≤ 16 → error_of (least_coefficients rows x) < 2 ^ 16
error_lt rows x h = go (least_coefficients rows x) refl
  where
    go : (f : Option ℕ) → least_coefficients rows x ≡ f → error_of f < 2 ^ 16
    go (Some e) q =
        let l = found_lt rows x e q in
        let m = pow_mono h in
        omega arith
    go None q = omega arith

-- ---- the mark of an error block that was found

module _ (weight e : ℕ) where
  pub mark_clean : e ≡ 0 → Clean ≡ mark_found weight e
  mark_clean none = picked (eqb e 0) Clean (cond (eqb e weight) (Parity e) (Corrected e)) (eq-eqb e 0 none)

  pub mark_parity : e ≢ 0 → e ≡ weight → Parity e ≡ mark_found weight e
  mark_parity some same =
      picked (eqb e weight) (Parity e) (Corrected e) (eq-eqb e weight same)
      ∙ passed (eqb e 0) Clean (cond (eqb e weight) (Parity e) (Corrected e)) (ne_eqb e 0 some)

  pub mark_corrected : e ≢ 0 → e ≢ weight → Corrected e ≡ mark_found weight e
  mark_corrected some other =
      passed (eqb e weight) (Parity e) (Corrected e) (ne_eqb e weight other)
      ∙ passed (eqb e 0) Clean (cond (eqb e weight) (Parity e) (Corrected e)) (ne_eqb e 0 some)

-- ---- error, word that stays, and mark

abbrev VerdictOf : ℕ → Option ℕ → ℕ → ℕ → ℕ → Mark → Type 0
VerdictOf weight f x error kept mark = (error ≡ error_of f) × ((kept ≡ kept_of f x) × (mark ≡ mark_of weight f x))

pub verdict-found : (weight : ℕ) (f : Option ℕ) (x e : ℕ) (mark : Mark) → f ≡ Some e → mark ≡ mark_found weight e
    → VerdictOf weight f x e 0 mark
verdict-found weight f x e mark h is =
    subst (λ (g : Option ℕ). VerdictOf weight g x e 0 mark) (sym h) (refl, (refl, is))

missing-mark : Bool → Mark
missing-mark b = cond b Doubtful Held

pub verdict-doubtful : (weight : ℕ) (f : Option ℕ) (x : ℕ) → f ≡ None → odd x ≡ true
    → VerdictOf weight f x 0 (x / 2) Doubtful
unfolding missing-mark
verdict-doubtful weight f x e o =
    subst (λ (g : Option ℕ). VerdictOf weight g x 0 (x / 2) Doubtful) (sym e) (refl, (refl, ap missing-mark (sym o)))

pub verdict-held : (weight : ℕ) (f : Option ℕ) (x : ℕ) → f ≡ None → odd x ≡ false
    → VerdictOf weight f x 0 (x / 2) Held
unfolding missing-mark
verdict-held weight f x e o =
    subst (λ (g : Option ℕ). VerdictOf weight g x 0 (x / 2) Held) (sym e) (refl, (refl, ap missing-mark (sym o)))
