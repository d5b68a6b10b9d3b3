-- What the crate proves of its definitions: the theorems that a reader checks against the papers. The file of `proofs/`
-- that is named for the definitions has the proof.
--
--   CommonOnes          the exclusive or over the places is the parity of the count of common ones
--   ShiftedLinear       shifting is linear
--   CombinationLinear   combination is linear in the coefficients
--   LeastRelation       what the search for a relation finds is one, and no smaller one is; where it finds none, there
--                       is none
--   LeastCoefficients   the same of the coefficients of a target
--   LeastUnique         there is only one least
--   LeastRaised         the least coefficients of a target are the least relation that ends in it
--   Membership          a target has least coefficients exactly if it is a combination of the words
--   Independence        there is no least relation from 0 exactly if the words are independent
--   ReducesLaw          a basis built from words answers, of any word, with its least coefficients
--   DimensionLaw        words below 2^N without a relation are at most N
--   Spanning            N of them span everything below 2^N
use Rattle.std.specs.Prelude.{◌≡◌, ℕ, ◌^◌, ◌<◌, ◌≤◌, ◌↔◌, List, [], ◌∷◌, ◌++◌, length, ◌≢◌, bit_and, count_ones}
use Rattle.std.specs.Prelude.{Option}
use Rattle.std.specs.Prelude.{None}
use Rattle.span.specs.Word.{◌⊕◌, odd, common_parity, shifted}
use Rattle.span.specs.Combination.{combination, Member, Relation, Independent, Below}
use Rattle.span.specs.Relation.{least_relation, least_coefficients, raised, IsLeast}
use Rattle.span.specs.Basis.{reduction, answer}
use Rattle.span.specs.Elimination.{basis_of}

-- 01, The code: "A sum of this kind is odd exactly if the count of common ones is odd."
abbrev pub CommonOnes : Type 0
CommonOnes = (k a b : ℕ) → a < 2 ^ k → common_parity k a b ≡ odd (count_ones (bit_and a b))

abbrev pub ShiftedLinear : Type 0
ShiftedLinear = (N l a b : ℕ) → shifted N l (a ⊕ b) ≡ shifted N l a ⊕ shifted N l b

abbrev pub CombinationLinear : Type 0
CombinationLinear = (ws : List ℕ) (c d : ℕ) → combination ws (c ⊕ d) ≡ combination ws c ⊕ combination ws d

abbrev pub LeastRelation : Type 0
LeastRelation = (ws : List ℕ) (f : ℕ) → IsLeast (Relation ws) (2 ^ f) (2 ^ length ws) (least_relation ws f)

abbrev pub LeastCoefficients : Type 0
LeastCoefficients =
    (ws : List ℕ) (x : ℕ) → IsLeast (λ (c : ℕ). combination ws c ≡ x) 0 (2 ^ length ws) (least_coefficients ws x)

abbrev pub LeastUnique : Type 1
LeastUnique = (P : ℕ → Type 0) (a b : ℕ) (r s : Option ℕ) → IsLeast P a b r → IsLeast P a b s → r ≡ s

abbrev pub LeastRaised : Type 0
LeastRaised =
    (ws : List ℕ) (x : ℕ) → least_relation (ws ++ (x ∷ [])) (length ws) ≡ raised (length ws) (least_coefficients ws x)

abbrev pub Membership : Type 0
Membership = (ws : List ℕ) (x : ℕ) → Member ws x ↔ (least_coefficients ws x ≢ None)

abbrev pub Independence : Type 0
Independence = (ws : List ℕ) → Independent ws ↔ (least_relation ws 0 ≡ None)

-- a basis has room for 32 words of 64 bits
abbrev pub ReducesLaw : Type 0
ReducesLaw =
    (ws : List ℕ) → length ws ≤ 32 → Below 64 ws → (x : ℕ) → answer (reduction (basis_of ws) x) ≡ least_coefficients ws x

abbrev pub DimensionLaw : Type 0
DimensionLaw = (N : ℕ) (ws : List ℕ) → Below N ws → Independent ws → length ws ≤ N

abbrev pub Spanning : Type 0
Spanning = (N : ℕ) (ws : List ℕ) → Below N ws → Independent ws → length ws ≡ N
    → (y : ℕ) → y < 2 ^ N → Member ws y
