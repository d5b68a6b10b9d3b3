-- 01, "Made tables": tables from a triangle of bits (001, 21.15).
--
--   columns              the triangle's columns 2 to 16, a number each: place j at bit j − 1
--   upper cs n j i       what the first i columns of cs (columns 2 to i + 1) add to row j of the table for n
--   made_row cs n j      row j of the table for n from the columns cs
--   made_rows cs n i     rows 1 to i
--   triangle_rows cs n   rows 1 to n
--   Triangle cs          cs is a triangle: column k has places 1 to k − 1
--   made_table n m       the table that we make
--   making n m           what making answers: the table, or refusal 11
--   make_number e        01's number of a refusal: 11
--   made_numbers a       01's number of the answer: 0, or 11
--   Makes n m r          what `make` promises
use Rattle.std.specs.Prelude.{cond, ◌≡◌, List, [], ◌∷◌, ◌++◌, ℕ, zero, suc, ◌+◌, ◌-◌, ◌*◌, ◌^◌, ◌<◌, length, get_or}
use Rattle.std.specs.Prelude.{replicate, Result, Ok, Err}
use Rattle.span.specs.Word.{bit, digit}
use Rattle.tables.specs.declared.table.Table.{Table}
use Rattle.tables.specs.declared.make.MakeError.{MakeError}
use Rattle.tables.specs.declared.make.MakeError.TheVariants.{OutOfRange}
use Rattle.tables.specs.Table.{table, sizes_fit}

-- "Its columns 2 to 16 stand as a constant table; columns 2 to 5, from place 1 down, are 1; 1 1; 1 1 1; 1 0 1 1."
unfoldable pub columns : List ℕ
columns =
    1 ∷ 3 ∷ 7 ∷ 13 ∷ 17 ∷ 35 ∷ 71 ∷ 237 ∷ 433 ∷ 851 ∷ 1687 ∷ 2365 ∷ 5873 ∷ 9155 ∷ 26183 ∷ []

-- "and also bit n + k − 1 for each column k that has a one at place j": column i + 2 has index i, so its bit is
-- n + i + 1
unfoldable pub upper : List ℕ → ℕ → ℕ → ℕ → ℕ
upper cs n j zero = 0
upper cs n j (suc i) = upper cs n j i + digit (bit (j - 1) (get_or cs i 0)) * 2 ^ (n + i + 1)

-- "Row j has bit n − j, and also ..", for the columns 2 to n
unfoldable pub made_row : List ℕ → ℕ → ℕ → ℕ
made_row cs n j = 2 ^ (n - j) + upper cs n j (n - 1)

unfoldable pub made_rows : List ℕ → ℕ → ℕ → List ℕ
made_rows cs n zero = []
made_rows cs n (suc i) = made_rows cs n i ++ (made_row cs n (suc i) ∷ [])

abbrev pub triangle_rows : List ℕ → ℕ → List ℕ
triangle_rows cs n = made_rows cs n (n - 1) ++ (1 ∷ [])

-- "A triangle of bits fixes the table: its column k, for k from 2 to n, has places 1 to k − 1": column i + 2 has index
-- i
abbrev pub Triangle : List ℕ → Type 0
Triangle cs = (i : ℕ) → i < length cs → get_or cs i 0 < 2 ^ suc i

-- "For n in 2 to 16, N = 2n."
unfoldable pub made_table : ℕ → ℕ → Table
made_table n m = table n (2 * n) m (made_rows columns n (n - 1) ++ replicate (16 - n) 0)

-- refusal 11: "n or m is out of range." The span 2n of an n in range is in range, so that of the sizes only n and m are
-- tested: 2 stands for any span.
unfoldable pub making : ℕ → ℕ → Result Table MakeError
making n m = cond (sizes_fit n 2 m) (Ok (made_table n m)) (Err OutOfRange)

abbrev pub make_number : MakeError → ℕ
make_number OutOfRange = 11

abbrev pub made_numbers : Result Table MakeError → List ℕ
made_numbers (Ok t) = 0 ∷ []
made_numbers (Err e) = make_number e ∷ []

pub record Makes (n m : ℕ) (r : Result Table MakeError) : Type 0 where
  pub answer : r ≡ making n m
  pub numbers : made_numbers r ≡ cond (sizes_fit n 2 m) (0 ∷ []) (11 ∷ [])
