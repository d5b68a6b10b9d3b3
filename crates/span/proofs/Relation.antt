-- What the search finds is the least there is, and the least is one. Assumes nothing.
use Rattle.std.proofs.Common.{◌≡◌, ℕ, zero, suc, ◌+◌, ◌-◌, ◌^◌, ◌<◌, ◌≤◌, Bool, true, false, cond, eqb, ◌⊎◌, List, []}
use Rattle.std.proofs.Common.{◌∷◌, ◌++◌, length, get_or, take, sym, refl, ap, ◌∙◌, subst, inl, inr, zero-le, le_trans}
use Rattle.std.proofs.Common.{le_refl, lt_of_lt_of_le, le_of_suc-le-suc, le_of_lt, eq-zero-or-pos, le_antisymm}
use Rattle.std.proofs.Common.{lt_of_not-le, add-one, arith, length-append, length-take-le, take-suc, pow_mono, eq-eqb}
use Rattle.std.proofs.Common.{eqb-true}
use mathlib.Core.Bool.{false≢true}
use native.Mathlib.Decide.{dec_lt}
use lib.Arith.{lt_of_le-ne}
use Rattle.std.specs.Prelude.{Option}
use Rattle.std.specs.Prelude.{Some, None}
use Rattle.span.specs.Word.{◌⊕◌}
use Rattle.span.specs.Combination.{combination, Member, Relation}
use Rattle.span.specs.Relation.{least_from, least_relation, least_coefficients, raised, IsLeast}
use Rattle.span.specs.Laws.{LeastRelation, LeastCoefficients, LeastUnique, LeastRaised, Membership}
use Rattle.span.specs.Laws.{Independence}
use Rattle.span.proofs.Word.{xor_comm, xor-eq, xor_self, pow-add-xor}
use Rattle.span.proofs.Combination.{combination-above, combination-take}

above : (P : ℕ → Type 0) (a d : ℕ) → (P a → ⊥) → a ≤ d → P d → suc a ≤ d
above P a d none h p = lt_of_le-ne h (λ (e : a ≡ d). none (subst P (sym e) p))

-- a number that does not pass may be left out at the start
least_skip : (P : ℕ → Type 0) (a b : ℕ) (r : Option ℕ) → (P a → ⊥) → IsLeast P (suc a) b r → IsLeast P a b r
least_skip P a b (Some c) none h = (le_of_lt h.0, h.1, h.2, λ d l u p. h.3 d (above P a d none l p) u p)
least_skip P a b None none h = λ d l u p. h d (above P a d none l p) u p

module _ (p : ℕ → Bool) (P : ℕ → Type 0) (sound : (c : ℕ) → p c ≡ true → P c)
    (complete : (c : ℕ) → P c → p c ≡ true) where
  least-here : (n a b : ℕ) → a < b → (s : Bool) → p a ≡ s → IsLeast P (suc a) b (least_from p (suc a) n)
      → IsLeast P a b (cond s (Some a) (least_from p (suc a) n))
  least-here n a b l true e rest = (le_refl a, l, sound a e, λ d u v q. u)
  least-here n a b l false e rest =
      least_skip P a b (least_from p (suc a) n) (λ q. let z : false ≡ true = sym e ∙ complete a q in false≢true z) rest

  least-from : (n a b : ℕ) → n ≡ b - a → IsLeast P a b (least_from p a n)
  unfolding least_from
  least-from zero a b e = λ d l u q. omega arith
  least-from (suc n) a b e = least-here n a b (omega arith) (p a) refl (least-from n (suc a) b (omega arith))

pub least-relation : LeastRelation
unfolding least_relation
least-relation ws f =
    least-from (λ c. eqb (combination ws c) 0) (λ (c : ℕ). combination ws c ≡ 0) (λ c. eqb-true (combination ws c) 0)
    (λ c. eq-eqb (combination ws c) 0) (2 ^ length ws - 2 ^ f) (2 ^ f) (2 ^ length ws) refl

pub least-coefficients : LeastCoefficients
unfolding least_coefficients
least-coefficients ws x =
    least-from (λ c. eqb (combination ws c) x) (λ (c : ℕ). combination ws c ≡ x) (λ c. eqb-true (combination ws c) x)
    (λ c. eq-eqb (combination ws c) x) (2 ^ length ws) 0 (2 ^ length ws) (omega arith)

pub least-unique : LeastUnique
least-unique P a b (Some c) (Some d) h k =
    ap Some (le_antisymm (h.3 d k.0 k.1 k.2) (k.3 c h.0 h.1 h.2))
least-unique P a b (Some c) None h k = absurd (k c h.0 h.1 h.2)
least-unique P a b None (Some d) h k = absurd (h d k.0 k.1 k.2)
least-unique P a b None None h k = refl

pub membership : Membership
membership ws x = (
  λ m e. refuted m (subst Least-of e (least-coefficients ws x)),
  λ ne. go (least_coefficients ws x) refl (least-coefficients ws x) ne,
)
  where
    Least-of : Option ℕ → Type 0
    Least-of = IsLeast (λ (c : ℕ). combination ws c ≡ x) 0 (2 ^ length ws)

    refuted : Member ws x → Least-of None → ⊥
    refuted m none = none m.0 zero-le m.1 m.2

    go : (r : Option ℕ) → least_coefficients ws x ≡ r → Least-of r → (least_coefficients ws x ≡ None → ⊥) → Member ws x
    go (Some c) e l ne = (c, l.1, l.2)
    go None e l ne = absurd (ne e)

pub independence : Independence
independence ws = (
  λ free. least-unique (Relation ws) 1 (2 ^ length ws) (least_relation ws 0) None (least-relation ws 0)
      (λ d l u e. let z = free d u e in omega arith),
  λ e c u q. go c u q (eq-zero-or-pos c) (subst (IsLeast (Relation ws) 1 (2 ^ length ws)) e (least-relation ws 0)),
)
  where
    go : (c : ℕ) → c < 2 ^ length ws → Relation ws c → (c ≡ 0) ⊎ (0 < c)
        → IsLeast (Relation ws) 1 (2 ^ length ws) None → c ≡ 0
    go c u q (inl z) none = z
    go c u q (inr p) none = absurd (none c p u q)

-- a relation that ends in the last word is that word's bit above coefficients of it
module _ (ws : List ℕ) (x : ℕ) where
  above-lt : (c : ℕ) → c < 2 ^ length ws → 2 ^ length ws + c < 2 ^ length (ws ++ (x ∷ []))
  above-lt c h = rw (length-append ws (x ∷ []), add-one (length ws)) (omega arith)

  pub lowered : (d : ℕ) → 2 ^ length ws ≤ d → d < 2 ^ length (ws ++ (x ∷ [])) → combination (ws ++ (x ∷ [])) d ≡ 0
      → (d - 2 ^ length ws < 2 ^ length ws) × (combination ws (d - 2 ^ length ws) ≡ x)
  lowered d l u e =
      let v : d < 2 ^ suc (length ws) = rw (length-append ws (x ∷ []), add-one (length ws)) at u in
      let w : d - 2 ^ length ws < 2 ^ length ws = omega arith in
      let split : 2 ^ length ws + (d - 2 ^ length ws) ≡ d = omega arith in (
        w,
        xor-eq (combination ws (d - 2 ^ length ws)) x
            (sym (combination-above ws x (d - 2 ^ length ws) w) ∙ ap (combination (ws ++ (x ∷ []))) split ∙ e),
      )

  raised-least : (r : Option ℕ) → IsLeast (λ (c : ℕ). combination ws c ≡ x) 0 (2 ^ length ws) r
      → IsLeast (λ (c : ℕ). combination (ws ++ (x ∷ [])) c ≡ 0) (2 ^ length ws) (2 ^ length (ws ++ (x ∷ [])))
      (raised (length ws) r)
  raised-least (Some c) h = (
    omega arith,
    above-lt c h.1,
    combination-above ws x c h.1 ∙ ap (λ (y : ℕ). y ⊕ x) h.2 ∙ xor_self x,
    λ d l u e. let t = lowered d l u e in let m = h.3 (d - 2 ^ length ws) zero-le t.0 t.1 in omega arith,
  )
  raised-least None h = λ d l u e. let t = lowered d l u e in h (d - 2 ^ length ws) zero-le t.0 t.1

  raised_is : least_relation (ws ++ (x ∷ [])) (length ws) ≡ raised (length ws) (least_coefficients ws x)
  raised_is =
      least-unique (λ (c : ℕ). combination (ws ++ (x ∷ [])) c ≡ 0) (2 ^ length ws) (2 ^ length (ws ++ (x ∷ [])))
      (least_relation (ws ++ (x ∷ [])) (length ws)) (raised (length ws) (least_coefficients ws x))
      (least-relation (ws ++ (x ∷ [])) (length ws)) (raised-least (least_coefficients ws x) (least-coefficients ws x))

pub least-raised : LeastRaised
least-raised = raised_is

-- ---- the search word by word

least-map : (P Q : ℕ → Type 0) (a b : ℕ) (r : Option ℕ) → ((c : ℕ) → c < b → P c → Q c) → ((c : ℕ) → c < b → Q c → P c)
    → IsLeast P a b r → IsLeast Q a b r
least-map P Q a b (Some c) to from h = (h.0, h.1, to c h.1 h.2, λ d l u q. h.3 d l u (from d u q))
least-map P Q a b None to from h = λ d l u q. h d l u (from d u q)

-- what is above the least does not matter
least-wider : (P : ℕ → Type 0) (a b b' c : ℕ) → b ≤ b' → IsLeast P a b (Some c) → IsLeast P a b' (Some c)
least-wider P a b b' c l h = (h.0, lt_of_lt_of_le h.1 l, h.2, λ d u v p. go d u p (dec_lt d b))
  where
    go : (d : ℕ) → a ≤ d → P d → Dec (d < b) → c ≤ d
    go d u p (yes w) = h.3 d u w p
    go d u p (no w) = let k = h.1 in omega arith

-- where there is none in a first stretch, the least of the next is the least of both
least-glue : (P : ℕ → Type 0) (a b c : ℕ) (r : Option ℕ) → a ≤ b → IsLeast P a b None → IsLeast P b c r
    → IsLeast P a c r
least-glue P a b c (Some x) l none h = (
  le_trans l h.0,
  h.1,
  h.2,
  λ d u v p. h.3 d (le_of_suc-le-suc (lt_of_not-le (λ (w : d < b). none d u w p))) v p,
)
least-glue P a b c None l none h = λ d u v p. h d (le_of_suc-le-suc (lt_of_not-le (λ (w : d < b). none d u w p))) v p

module _ (ws : List ℕ) (f i : ℕ) (h : i < length ws) (l : f ≤ i)
    (none : IsLeast (λ (c : ℕ). combination ws c ≡ 0) (2 ^ f) (2 ^ i) None) where
  -- relations from f up to the word i, by the coefficients of that word among those before it
  relation-turn : IsLeast (λ (c : ℕ). combination ws c ≡ 0) (2 ^ f) (2 ^ suc i)
      (raised i (least_coefficients (take i ws) (get_or ws i 0)))
  relation-turn =
      let us = take i ws in
      let r = least_coefficients us (get_or ws i 0) in
      least-glue (λ (c : ℕ). combination ws c ≡ 0) (2 ^ f) (2 ^ i) (2 ^ suc i) (raised i r) (pow_mono l) none
      (least-map (λ (c : ℕ). combination (take (suc i) ws) c ≡ 0) (λ (c : ℕ). combination ws c ≡ 0) (2 ^ i)
      (2 ^ suc i) (raised i r)
      (λ c u e. sym (combination-take ws (suc i) c u h) ∙ e)
      (λ c u e. combination-take ws (suc i) c u h ∙ e)
      (rw (← take-suc ws i 0 h, length-take-le (suc i) ws h, length-take-le i ws (le_of_lt h)) at
      (raised-least us (get_or ws i 0) r (least-coefficients us (get_or ws i 0)))))

  pub relation_found : (c : ℕ) → least_coefficients (take i ws) (get_or ws i 0) ≡ Some c
      → Some (c ⊕ 2 ^ i) ≡ least_relation ws f
  relation_found c e =
      let low : c < 2 ^ i =
      rw (length-take-le i ws (le_of_lt h)) at
      (subst (IsLeast (λ (d : ℕ). combination (take i ws) d ≡ get_or ws i 0) 0 (2 ^ length (take i ws))) e
      (least-coefficients (take i ws) (get_or ws i 0))).1
      in
      ap Some (xor_comm c (2 ^ i) ∙ sym (pow-add-xor i c low))
      ∙ least-unique (λ (c : ℕ). combination ws c ≡ 0) (2 ^ f) (2 ^ length ws) (Some (2 ^ i + c)) (least_relation ws f)
      (least-wider (λ (c : ℕ). combination ws c ≡ 0) (2 ^ f) (2 ^ suc i) (2 ^ length ws) (2 ^ i + c) (pow_mono h)
      (subst (λ (r : Option ℕ). IsLeast (λ (c : ℕ). combination ws c ≡ 0) (2 ^ f) (2 ^ suc i) (raised i r))
      e relation-turn))
      (least-relation ws f)

  pub relation_none : least_coefficients (take i ws) (get_or ws i 0) ≡ None
      → IsLeast (λ (c : ℕ). combination ws c ≡ 0) (2 ^ f) (2 ^ suc i) None
  relation_none e =
      subst (λ (r : Option ℕ). IsLeast (λ (c : ℕ). combination ws c ≡ 0) (2 ^ f) (2 ^ suc i) (raised i r)) e relation-turn

pub relation-missing : (ws : List ℕ) (f i : ℕ) → length ws ≤ i
    → IsLeast (λ (c : ℕ). combination ws c ≡ 0) (2 ^ f) (2 ^ i) None → None ≡ least_relation ws f
relation-missing ws f i l none =
    least-unique (λ (c : ℕ). combination ws c ≡ 0) (2 ^ f) (2 ^ length ws) None (least_relation ws f)
    (λ d u v e. none d u (lt_of_lt_of_le v (pow_mono l)) e) (least-relation ws f)
