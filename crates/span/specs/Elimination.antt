-- How a basis is filled from words: the elimination. Nothing here has to be believed: what a basis of words means is
-- `ReducesLaw` in `Laws`, which speaks of the search in `Relation`. The file is here because the contract of
-- `dual_basis` says the struct's whole value.
--
--   pivot v           the place of the one of a word that is nearest an end
--   empty_basis       the basis of no words
--   grown i b r       b with what is left of word i, reduced to r, as one more triple
--   joined i b r      b with word i, reduced to r, taken up
--   extended i b ws   b with the words ws taken up, the first of them word i
--   basis_of ws       the basis of a list of words
use Rattle.std.specs.Prelude.{ℕ, suc, ◌+◌, ◌-◌, ◌^◌, cond, List, [], ◌∷◌, replicate, ◌==◌, nat_le, slice_set}
use Rattle.std.specs.Int.Count.{count_leading_zeros, count_trailing_zeros}
use Rattle.span.specs.declared.eliminate.Basis.{Basis}
use Rattle.span.specs.declared.eliminate.Reduced.{Reduced}
use Rattle.span.specs.Word.{◌⊕◌}
use Rattle.span.specs.Basis.{basis, reduction}

-- 01, "leading and trailing zero counts pick pivots in the span layer": the smaller of the two counts picks
unfoldable pub pivot : ℕ → ℕ
pivot v =
    cond (nat_le (count_trailing_zeros 64 v) (count_leading_zeros 64 v)) (count_trailing_zeros 64 v)
    (63 - count_leading_zeros 64 v)

abbrev pub empty_basis : Basis
empty_basis = basis 0 (replicate 32 0) (replicate 32 0) (replicate 32 0)

-- what is left of word i joins as one more triple
unfoldable pub grown : ℕ → Basis → Reduced → Basis
grown i b r =
    basis (b.size + 1) (slice_set b.vectors b.size r.rest) (slice_set b.checks b.size (2 ^ pivot r.rest))
    (slice_set b.coefficients b.size (r.coefficients ⊕ 2 ^ i))

-- a word of which nothing is left is passed over
unfoldable pub joined : ℕ → Basis → Reduced → Basis
joined i b r = cond (r.rest == 0) b (grown i b r)

unfoldable pub extended : ℕ → Basis → List ℕ → Basis
extended i b [] = b
extended i b (w ∷ ws) = extended (suc i) (joined i b (reduction b w)) ws

unfoldable pub basis_of : List ℕ → Basis
basis_of ws = extended 0 empty_basis ws
