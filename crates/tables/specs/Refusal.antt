-- The refusal of several tests, in their order: of 1 to 9, and of 12 to 15.
--
--   first_of k bs   the number of the first test that applies, counted from k, or 0
use Rattle.std.specs.Prelude.{Bool, true, false, List, [], ◌∷◌, ℕ, suc}

-- "the first that applies"
unfoldable pub first_of : ℕ → List Bool → ℕ
first_of k [] = 0
first_of k (true ∷ ts) = k
first_of k (false ∷ ts) = first_of (suc k) ts
