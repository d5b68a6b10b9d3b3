-- The least relation among words: the one question that the layers above ask about rows.
--
--   least_from p a n          the least number that passes the test p, of the n numbers from a on
--   least_relation ws f       the least relation among ws from f: the least c with 2^f ≤ c < 2^k and combination c = 0,
--                             of k words
--   least_coefficients ws x   the least c below 2^k whose combination is x
--   raised k r                the coefficients of a target as a relation that ends in it
--   IsLeast P a b r           r is the least number from a to b − 1 of which P holds, or `None` where P holds of
--                             none
use Rattle.std.specs.Prelude.{ℕ, zero, suc, ◌+◌, ◌-◌, ◌^◌, ◌<◌, ◌≤◌, Bool, cond, List, length, nat_eq}
use Rattle.std.specs.Prelude.{Option}
use Rattle.std.specs.Prelude.{Some, None}
use Rattle.span.specs.Combination.{combination}

-- by ascending search
unfoldable pub least_from : (ℕ → Bool) → ℕ → ℕ → Option ℕ
least_from p a zero = None
least_from p a (suc n) = cond (p a) (Some a) (least_from p (suc a) n)

unfoldable pub least_relation : List ℕ → ℕ → Option ℕ
least_relation ws f = least_from (λ c. nat_eq (combination ws c) 0) (2 ^ f) (2 ^ length ws - 2 ^ f)

-- 01, a decoding step, line 3: "If some e has the register as image, the least such e is the error"
unfoldable pub least_coefficients : List ℕ → ℕ → Option ℕ
least_coefficients ws x = least_from (λ c. nat_eq (combination ws c) x) 0 (2 ^ length ws)

-- the coefficients c of a target, as the relation that ends in it: its word comes last, at bit k
abbrev pub raised : ℕ → Option ℕ → Option ℕ
raised k (Some c) = Some (2 ^ k + c)
raised k None = None

abbrev pub IsLeast : (ℕ → Type 0) → ℕ → ℕ → Option ℕ → Type 0
IsLeast P a b (Some c) = (a ≤ c) × (c < b) × P c × ((d : ℕ) → a ≤ d → d < b → P d → c ≤ d)
IsLeast P a b None = (d : ℕ) → a ≤ d → d < b → P d → ⊥
