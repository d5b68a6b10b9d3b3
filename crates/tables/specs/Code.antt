-- 01, "The code", over the list of rows 1 to n, the last of them the parity's, and the decoding span N.
--
--   Block n e                  e is the number of a block of n symbols
--   weight j                   the weight of symbol j in a block's number
--   image rows e               the image of an error block
--   shifted_image N rows l e   the image of e shifted by l
--   Clashes N rows l e0 e1     what the triple of refusal 10 shows: l is a shift, e0 and e1 are blocks, e0 is not 0,
--                              and the image of e0 is that of e1 shifted by l
--   Unsuitable N rows          some triple shows it
--   Suitable N rows            none does
use Rattle.std.specs.Prelude.{◌≡◌, ◌≢◌, List, ℕ, ◌-◌, ◌^◌, ◌≤◌, ◌<◌, length}
use Rattle.span.specs.Word.{shifted}
use Rattle.span.specs.Combination.{combination}

-- "A code has n symbols (bits) in a block, n − 1 of them information, .. Symbol j has weight 2^(j−1) in a block's
-- number; symbol n is the parity."
abbrev pub Block : ℕ → ℕ → Type 0
Block n e = e < 2 ^ n

abbrev pub weight : ℕ → ℕ
weight j = 2 ^ (j - 1)

-- "For an error block e (below 2^n), the image of e is the exclusive or of the rows of its ones (000, eq. 6)." Bit
-- j − 1 of the number is symbol j, and selects row j.
unfoldable pub image : List ℕ → ℕ → ℕ
image rows e = combination rows e

-- "Shifted image by l: the image × 2^l, bits N and above dropped."
unfoldable pub shifted_image : ℕ → List ℕ → ℕ → ℕ → ℕ
shifted_image N rows l e = shifted N l (image rows e)

-- "A table is unsuitable if some l from 1 to N − 1, some e0 that is not zero, and some e1, zero allowed, have the image
-- of e0 equal to the image of e1 shifted by l. (001, eq. 21.8, with e1 = 0 added so that the rows are independent.)"
pub record Clashes (N : ℕ) (rows : List ℕ) (l e0 e1 : ℕ) : Type 0 where
  pub shift_from : 1 ≤ l
  pub shift_to : l < N
  pub first_some : e0 ≢ 0
  pub first_block : Block (length rows) e0
  pub second_block : Block (length rows) e1
  pub alike : image rows e0 ≡ shifted_image N rows l e1

abbrev pub Unsuitable : ℕ → List ℕ → Type 0
Unsuitable N rows = (l : ℕ) × (e0 : ℕ) × (e1 : ℕ) × Clashes N rows l e0 e1

abbrev pub Suitable : ℕ → List ℕ → Type 0
Suitable N rows = (l e0 e1 : ℕ) → Clashes N rows l e0 e1 → ⊥
