-- A basis by value, and what reducing a word by it gives, of every value of the struct.
--
--   basis n vs hs qs     the struct of size n with these vectors, check words and coefficients
--   reduced_by v h q r   one step of a reduction, by the triple of vector v, check word h and coefficients q
--   reduced_to b i x     x reduced by the first i triples of b
--   reduction b x        x reduced by all triples of b
--   answer r             what a reduction says of the word: its coefficients where nothing is left of it
use Rattle.std.specs.Prelude.{ℕ, zero, suc, min, cond, List, ◌==◌, slice_index}
use Rattle.span.specs.declared.eliminate.Basis.{Basis}
use Rattle.span.specs.declared.eliminate.Reduced.{Reduced}
use Rattle.std.specs.Prelude.{Option}
use Rattle.std.specs.Prelude.{Some, None}
use Rattle.span.specs.Word.{◌⊕◌, sel, common_parity}

abbrev pub basis : ℕ → List ℕ → List ℕ → List ℕ → Basis
basis n vs hs qs = record { size = n; vectors = vs; checks = hs; coefficients = qs }

-- a word is reduced by a triple exactly if it and the check word have an odd count of common ones
unfoldable pub reduced_by : ℕ → ℕ → ℕ → Reduced → Reduced
reduced_by v h q r =
    let s = common_parity 64 r.rest h in
    record { rest = r.rest ⊕ sel s v; coefficients = r.coefficients ⊕ sel s q }

unfoldable pub reduced_to : Basis → ℕ → ℕ → Reduced
reduced_to b zero x = record { rest = x; coefficients = 0 }
reduced_to b (suc i) x =
    reduced_by (slice_index b.vectors i) (slice_index b.checks i) (slice_index b.coefficients i) (reduced_to b i x)

-- a basis has room for 32 triples: a greater size counts as 32
unfoldable pub reduction : Basis → ℕ → Reduced
reduction b x = reduced_to b (min b.size 32) x

unfoldable pub answer : Reduced → Option ℕ
answer r = cond (r.rest == 0) (Some r.coefficients) None
