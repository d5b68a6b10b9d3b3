-- A basis built from words reduces a further word to its least coefficients. Assumes nothing.
use Rattle.std.proofs.Common.{◌≡◌, ℕ, zero, suc, ◌+◌, ◌^◌, ◌<◌, ◌≤◌, min, Bool, true, false, cond, eqb, ◌≢◌, List, []}
use Rattle.std.proofs.Common.{◌∷◌, ◌++◌, length, get_or, take, drop, set, sym, refl, ap, ◌∙◌, subst, append-nil}
use Rattle.std.proofs.Common.{zero-le, le_refl, lt_of_le_of_lt, add-zero, le_of_lt, zero-add, add-one, arith}
use Rattle.std.proofs.Common.{length-append, length-set, take-append-drop, length-take-le, get_or-set_other, take-suc}
use Rattle.std.proofs.Common.{get_or-set_same, pow_mono, eq-eqb, ne_eqb, eqb-true}
use mathlib.Core.Path.{fun_ext}
use native.Mathlib.Decide.{dec_le}
use borrow.Author.Tests.{eqb-false}
use lib.Seq.{get_or-append_seam, append_snoc}
use Rattle.std.specs.Prelude.{Some, None}
use Rattle.span.specs.declared.eliminate.Basis.{Basis}
use Rattle.span.specs.declared.eliminate.Reduced.{Reduced}
use Rattle.span.specs.Word.{◌⊕◌, common_parity}
use Rattle.span.specs.Combination.{combination, Below}
use Rattle.span.specs.Relation.{least_relation, least_coefficients, IsLeast}
use Rattle.span.specs.Basis.{basis, reduced_by, reduced_to, reduction, answer}
use Rattle.span.specs.Elimination.{pivot, empty_basis, grown, joined, extended, basis_of}
use Rattle.span.specs.Laws.{ReducesLaw}
use Rattle.span.proofs.Word.{xor-twice, xor_lt, parity-pow}
use Rattle.span.proofs.Combination.{combination-lt, below_left}
use Rattle.span.proofs.Relation.{least-unique, least-coefficients, relation_found, relation_none}
use Rattle.span.proofs.Elimination.{pivot-bit, Reduces, start, pass, join, least_by_lem}

-- ---- one triple more

-- a basis with every list as long as its array
pub record Whole (b : Basis) : Type 0 where
  pub vectors : length b.vectors ≡ 32
  pub checks : length b.checks ≡ 32
  pub coefficients : length b.coefficients ≡ 32

same_step : (v v' h h' q q' : ℕ) (r r' : Reduced) → v ≡ v' → h ≡ h' → q ≡ q' → r ≡ r'
    → reduced_by v h q r ≡ reduced_by v' h' q' r'
same_step v v' h h' q q' r r' ev eh eq er = cc

module _ (i : ℕ) (b : Basis) (r : Reduced) where
  -- the old triples stay where they are
  grown-old : (n x : ℕ) → n ≤ b.size → reduced_to (grown i b r) n x ≡ reduced_to b n x
  unfolding reduced_to grown
  grown-old zero x h = refl
  grown-old (suc n) x h =
      let ne : n ≢ b.size = omega arith in
      same_step _ _ _ _ _ _ _ _
      (get_or-set_other b.vectors b.size n r.rest 0 ne)
      (get_or-set_other b.checks b.size n (2 ^ pivot r.rest) 0 ne)
      (get_or-set_other b.coefficients b.size n (r.coefficients ⊕ 2 ^ i) 0 ne)
      (grown-old n x (omega arith))

  grown-reduction : Whole b → b.size < 32 → (x : ℕ)
      → reduction (grown i b r) x ≡ reduced_by r.rest (2 ^ pivot r.rest) (r.coefficients ⊕ 2 ^ i) (reduction b x)
  unfolding reduction reduced_to grown
  grown-reduction w h x =
      let new : min (b.size + 1) 32 ≡ suc b.size = omega arith in
      let old : b.size ≡ min b.size 32 = omega arith in
      ap (λ (n : ℕ). reduced_to (grown i b r) n x) new
      ∙ same_step _ _ _ _ _ _ _ _
      (get_or-set_same b.vectors b.size r.rest 0 (rw w.vectors h))
      (get_or-set_same b.checks b.size (2 ^ pivot r.rest) 0 (rw w.checks h))
      (get_or-set_same b.coefficients b.size (r.coefficients ⊕ 2 ^ i) 0 (rw w.coefficients h))
      (grown-old b.size x (le_refl b.size) ∙ ap (λ (n : ℕ). reduced_to b n x) old)

  grown-whole : Whole b → Whole (grown i b r)
  unfolding grown
  grown-whole w =
      record {
        vectors = simp length-set w.vectors;
        checks = simp length-set w.checks;
        coefficients = simp length-set w.coefficients;
      }

-- ---- a basis built from words

pub record Built (ws : List ℕ) (b : Basis) : Type 0 where
  pub whole : Whole b
  pub size : b.size ≤ length ws
  pub reduces : Reduces ws (λ x. (reduction b x).rest) (λ x. (reduction b x).coefficients)

built-none : Built [] empty_basis
unfolding reduction reduced_to
built-none =
    record { whole = record { vectors = refl; checks = refl; coefficients = refl }; size = zero-le; reduces = start }

-- the one at the pivot of what is left is common to it and the check word, alone
check-odd : (x : ℕ) → x ≢ 0 → x < 2 ^ 64 → common_parity 64 x (2 ^ pivot x) ≡ true
check-odd x ne h =
    let t = pivot-bit x (omega arith) h in
    parity-pow 64 (pivot x) x t.0 ∙ t.1

module _ (ws : List ℕ) (b : Basis) (w : ℕ) (h : Built ws b) (room : length ws < 32) (bound : Below 64 ws)
    (w-bound : w < 2 ^ 64) where
  rest_lt : (reduction b w).rest < 2 ^ 64
  rest_lt =
      let c = (reduction b w).coefficients in
      subst (λ (x : ℕ). x < 2 ^ 64)
      (ap (λ (x : ℕ). combination ws c ⊕ x) (sym (h.reduces.decomposes w))
      ∙ xor-twice (combination ws c) (reduction b w).rest)
      (xor_lt 64 (combination ws c) w (combination-lt 64 ws c bound) w-bound)

  joined-some : (reduction b w).rest ≢ 0 → Built (ws ++ (w ∷ [])) (grown (length ws) b (reduction b w))
  unfolding grown reduced_by
  joined-some ne = record {
    whole = grown-whole (length ws) b (reduction b w) h.whole;
    size = rw (length-append ws (w ∷ [])) (omega (arith, h.size));
    reduces = subst (λ (f : ℕ → Reduced). Reduces (ws ++ (w ∷ [])) (λ x. (f x).rest) (λ x. (f x).coefficients))
        (sym (fun_ext (grown-reduction (length ws) b (reduction b w) h.whole (lt_of_le_of_lt h.size room))))
        (join ws (λ x. (reduction b x).rest) (λ x. (reduction b x).coefficients) h.reduces w ne
        (2 ^ pivot (reduction b w).rest)
        (check-odd (reduction b w).rest ne rest_lt));
  }

  joined-none : (reduction b w).rest ≡ 0 → Built (ws ++ (w ∷ [])) b
  joined-none z = record {
    whole = h.whole;
    size = rw (length-append ws (w ∷ [])) (omega (arith, h.size));
    reduces = pass ws (λ x. (reduction b x).rest) (λ x. (reduction b x).coefficients) h.reduces w z;
  }

  built-more : Built (ws ++ (w ∷ [])) (joined (length ws) b (reduction b w))
  unfolding joined
  built-more = go (eqb (reduction b w).rest 0) refl
    where
      go : (s : Bool) → eqb (reduction b w).rest 0 ≡ s
          → Built (ws ++ (w ∷ [])) (cond s b (grown (length ws) b (reduction b w)))
      go true e = joined-none (eqb-true (reduction b w).rest 0 e)
      go false e = joined-some (eqb-false (reduction b w).rest 0 e)

below-take : (N i : ℕ) (ws : List ℕ) → Below N ws → Below N (take i ws)
below-take N i ws h = below_left N (take i ws) (drop i ws) (rw (take-append-drop i ws) h)

built-from : (us ws : List ℕ) (b : Basis) → Built us b → length (us ++ ws) ≤ 32 → Below 64 (us ++ ws)
    → Built (us ++ ws) (extended (length us) b ws)
unfolding extended
built-from us [] b h room bound = rw (append-nil us) h
built-from us (w ∷ ws) b h room bound =
    let size : length (us ++ w ∷ ws) ≡ length us + suc (length ws) = length-append us (w ∷ ws) in
    rw (append_snoc us w ws, length-append us (w ∷ []), add-one (length us)) at
    (built-from (us ++ (w ∷ [])) ws (joined (length us) b (reduction b w))
    (built-more us b w h (omega arith) (below_left 64 us (w ∷ ws) bound)
    (subst (λ (x : ℕ). x < 2 ^ 64) (get_or-append_seam us w ws 0) (bound (length us) (omega arith))))
    (rw (append_snoc us w ws) room) (rw (append_snoc us w ws) bound))

pub built : (ws : List ℕ) → length ws ≤ 32 → Below 64 ws → Built ws (basis_of ws)
unfolding basis_of
built ws = built-from [] ws empty_basis built-none

pub reduces : ReducesLaw
unfolding answer
reduces ws room bound x =
    least-unique (λ (c : ℕ). combination ws c ≡ x) 0 (2 ^ length ws) (answer (reduction (basis_of ws) x))
    (least_coefficients ws x)
    (least_by_lem ws (λ y. (reduction (basis_of ws) y).rest) (λ y. (reduction (basis_of ws) y).coefficients)
    (built ws room bound).reduces x)
    (least-coefficients ws x)

extended-last : (us : List ℕ) (i : ℕ) (b : Basis) (w : ℕ)
    → extended i b (us ++ (w ∷ [])) ≡ joined (i + length us) (extended i b us) (reduction (extended i b us) w)
unfolding extended
extended-last [] i b w = ap (λ (k : ℕ). joined k b (reduction b w)) (sym (add-zero i))
extended-last (u ∷ us) i b w =
    let b' = joined i b (reduction b u) in
    extended-last us (suc i) b' w
    ∙ ap (λ (k : ℕ). joined k (extended (suc i) b' us) (reduction (extended (suc i) b' us) w)) (omega arith)

pub basis-last : (us : List ℕ) (w : ℕ)
    → basis_of (us ++ (w ∷ [])) ≡ joined (length us) (basis_of us) (reduction (basis_of us) w)
unfolding basis_of
basis-last us w =
    extended-last us 0 empty_basis w
    ∙ ap (λ (k : ℕ). joined k (basis_of us) (reduction (basis_of us) w)) (zero-add (length us))

pub answer-found : (r : Reduced) → r.rest ≡ 0 → answer r ≡ Some r.coefficients
unfolding answer
answer-found r e = rw (eq-eqb r.rest 0 e)

pub answer-missing : (r : Reduced) → (r.rest ≡ 0 → ⊥) → answer r ≡ None
unfolding answer
answer-missing r ne = rw (ne_eqb r.rest 0 ne)

-- ---- word by word

pub joined-passed : (i : ℕ) (b : Basis) (r : Reduced) → r.rest ≡ 0 → joined i b r ≡ b
unfolding joined
joined-passed i b r e = rw (eq-eqb r.rest 0 e)

-- the stores of the code
pub joined-stored : (i : ℕ) (b : Basis) (r : Reduced) (check one : ℕ) → (r.rest ≡ 0 → ⊥)
    → check ≡ 2 ^ pivot r.rest → one ≡ 2 ^ i
    → joined i b r
    ≡ basis (b.size + 1) (set b.vectors b.size r.rest) (set b.checks b.size check)
    (set b.coefficients b.size (r.coefficients ⊕ one))
unfolding joined grown
joined-stored i b r check one ne e f = rw (ne_eqb r.rest 0 ne, e, f)

-- one more word, in the terms of a loop over the words
module _ (ws : List ℕ) (room : length ws ≤ 32) (bound : Below 64 ws) (i : ℕ) (h : i < length ws) (b : Basis)
    (so_far : b ≡ basis_of (take i ws)) where
  size-taken : length (take i ws) ≡ i
  size-taken = length-take-le i ws (le_of_lt h)

  pub turn_basis : basis_of (take (i + 1) ws) ≡ joined i b (reduction b (get_or ws i 0))
  turn_basis = rw (so_far, add-one i, take-suc ws i 0 h, basis-last (take i ws) (get_or ws i 0), size-taken)

  turn-answer : answer (reduction b (get_or ws i 0)) ≡ least_coefficients (take i ws) (get_or ws i 0)
  turn-answer =
      rw so_far (reduces (take i ws) (rw size-taken (omega arith)) (below-take 64 i ws bound) (get_or ws i 0))

  module _ (f : ℕ) (none : IsLeast (λ (c : ℕ). combination ws c ≡ 0) (2 ^ f) (2 ^ i) None) where
    pub turn_found : f ≤ i → (reduction b (get_or ws i 0)).rest ≡ 0
        → Some ((reduction b (get_or ws i 0)).coefficients ⊕ 2 ^ i) ≡ least_relation ws f
    turn_found l e =
        let r = reduction b (get_or ws i 0) in
        relation_found ws f i h l none r.coefficients (sym turn-answer ∙ answer-found r e)

    pub turn_none : (f ≤ i → (reduction b (get_or ws i 0)).rest ≡ 0 → ⊥)
        → IsLeast (λ (c : ℕ). combination ws c ≡ 0) (2 ^ f) (2 ^ (i + 1)) None
    turn_none ne = rw (add-one i) (go (dec_le f i))
      where
        r : Reduced
        r = reduction b (get_or ws i 0)

        go : Dec (f ≤ i) → IsLeast (λ (c : ℕ). combination ws c ≡ 0) (2 ^ f) (2 ^ suc i) None
        go (yes l) =
            relation_none ws f i h l none (sym turn-answer ∙ answer-missing r (ne l))
        go (no l) = λ d u v e. let p : 2 ^ suc i ≤ 2 ^ f = pow_mono (omega arith) in omega arith
