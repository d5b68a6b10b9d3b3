-- Reduction at once: check words that test the word itself, so that no step waits for the one before.
--
--   crossed vs ds h i   the check word h, with each of the first i new check words ds added whose vector of vs has an
--                       odd count of common ones with h
--   dual_to vs hs i     the new check words of the first i triples, of 32; the others are 0
--   dual_checks b       the new check words of a basis
--   dual b              b with these in place of its check words
--   at_once_to b i x    x reduced by the first i triples of b, each of which tests x itself
--   at_once b x         x reduced by all triples of b, in that way
--   together ws i       the ones of the first i words of ws together
--   AtOnce              with the new check words that is the reduction, of every value of the struct
--   DualReduces         so that the basis of words answers with the least coefficients
--   least_by b ones x   what the basis says of a word
--   LeastBy             that is its least coefficients
--   Unmet               a word that has no one in common with the check words is left as it is
use Rattle.std.specs.Prelude.{◌≡◌, ℕ, zero, suc, ◌≤◌, min, cond, List, length, replicate, ◌==◌, bit_and, bit_or}
use Rattle.std.specs.Prelude.{slice_index, slice_set}
use Rattle.span.specs.declared.eliminate.Basis.{Basis}
use Rattle.span.specs.declared.eliminate.Reduced.{Reduced}
use Rattle.std.specs.Prelude.{Option}
use Rattle.std.specs.Prelude.{Some, None}
use Rattle.span.specs.Word.{◌⊕◌, sel, common_parity}
use Rattle.span.specs.Combination.{Below}
use Rattle.span.specs.Relation.{least_coefficients}
use Rattle.span.specs.Basis.{basis, reduction, answer}
use Rattle.span.specs.Elimination.{basis_of}

unfoldable pub crossed : List ℕ → List ℕ → ℕ → ℕ → ℕ
crossed vs ds h zero = h
crossed vs ds h (suc i) = crossed vs ds h i ⊕ sel (common_parity 64 (slice_index vs i) h) (slice_index ds i)

-- a check word sees what the triples before took from the word where it has an odd count of common ones with their
-- vectors: it takes up their tests
unfoldable pub dual_to : List ℕ → List ℕ → ℕ → List ℕ
dual_to vs hs zero = replicate 32 0
dual_to vs hs (suc i) = slice_set (dual_to vs hs i) i (crossed vs (dual_to vs hs i) (slice_index hs i) i)

unfoldable pub dual_checks : Basis → List ℕ
dual_checks b = dual_to b.vectors b.checks (min b.size 32)

unfoldable pub dual : Basis → Basis
dual b = basis b.size b.vectors (dual_checks b) b.coefficients

unfoldable pub at_once_to : Basis → ℕ → ℕ → Reduced
at_once_to b zero x = record { rest = x; coefficients = 0 }
at_once_to b (suc i) x =
    let s = common_parity 64 x (slice_index b.checks i) in
    let r = at_once_to b i x in
    record {
      rest = r.rest ⊕ sel s (slice_index b.vectors i);
      coefficients = r.coefficients ⊕ sel s (slice_index b.coefficients i);
    }

-- a basis has room for 32 triples: a greater size counts as 32
unfoldable pub at_once : Basis → ℕ → Reduced
at_once b x = at_once_to b (min b.size 32) x

unfoldable pub together : List ℕ → ℕ → ℕ
together ws zero = 0
together ws (suc i) = bit_or (together ws i) (slice_index ws i)

abbrev pub AtOnce : Type 0
AtOnce = (b : Basis) (x : ℕ) → at_once (dual b) x ≡ reduction b x

-- from `AtOnce` and `ReducesLaw`
abbrev pub DualReduces : Type 0
DualReduces =
    (ws : List ℕ) → length ws ≤ 32 → Below 64 ws → (x : ℕ)
    → answer (at_once (dual (basis_of ws)) x) ≡ least_coefficients ws x

-- A word that is 0 is the combination by 0, and one that has no one in common with `ones` is not reduced; of any other
-- the reduction says it.
unfoldable pub least_by : Basis → ℕ → ℕ → Option ℕ
least_by b ones x = cond (x == 0) (Some 0) (cond (bit_and x ones == 0) None (answer (at_once b x)))

-- with the ones of the check words the dual basis of words answers with the least coefficients
abbrev pub LeastBy : Type 0
LeastBy =
    (ws : List ℕ) → length ws ≤ 32 → Below 64 ws → (b : Basis) → b ≡ dual (basis_of ws) → (x : ℕ)
    → least_by b (together b.checks (min b.size 32)) x ≡ least_coefficients ws x

-- a word that has no one in common with the check words is left as it is, of every value of the struct
abbrev pub Unmet : Type 0
Unmet =
    (b : Basis) (x : ℕ) → bit_and x (together b.checks (min b.size 32)) ≡ 0
    → at_once b x ≡ record { rest = x; coefficients = 0 }
