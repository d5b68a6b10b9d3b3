-- Linear combinations over GF(2).
--
--   combination ws c   the exclusive or of the words of ws that c selects: word i, counted from 0, by bit i of c
--   Member ws x        x is a combination of the words
--   Relation ws c      c is a relation among the words: it combines them to 0
--   Independent ws     no number below 2^k but 0 is a relation among the k words
--   Below N ws         every word is below 2^N
--   counted n ws       the words of ws that count where n are asked for: the first n, at most 32
use Rattle.std.specs.Prelude.{◌≡◌, ℕ, ◌/◌, ◌^◌, ◌<◌, List, [], ◌∷◌, length, take, slice_index}
use Rattle.span.specs.Word.{◌⊕◌, odd, sel}

-- 000, eq. 6, and 01, The code: "the image of e is the exclusive or of the rows of its ones". Bits of c past the last
-- word select nothing.
unfoldable pub combination : List ℕ → ℕ → ℕ
combination [] c = 0
combination (w ∷ ws) c = sel (odd c) w ⊕ combination ws (c / 2)

abbrev pub Member : List ℕ → ℕ → Type 0
Member ws x = (c : ℕ) × (c < 2 ^ length ws) × (combination ws c ≡ x)

abbrev pub Relation : List ℕ → ℕ → Type 0
Relation ws c = combination ws c ≡ 0

abbrev pub Independent : List ℕ → Type 0
Independent ws = (c : ℕ) → c < 2 ^ length ws → Relation ws c → c ≡ 0

abbrev pub Below : ℕ → List ℕ → Type 0
Below N ws = (i : ℕ) → i < length ws → slice_index ws i < 2 ^ N

abbrev pub counted : ℕ → List ℕ → List ℕ
counted n ws = take 32 (take n ws)
