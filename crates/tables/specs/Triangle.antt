-- What the crate proves of made tables: of the triangle, and of what making answers.
--
--   OurTriangle    our columns are a triangle of all sizes to 16
--   MadeLaw        a made table has the sizes asked for and N = 2n, is fit and suitable, and has the rows of our
--                  triangle
--   MadeWholeLaw   its other rows are 0
--   MadeDepth      making with another depth changes only the depth
--   NestedRows     each row of the larger table is twice that of the smaller one and its bit of the new column
--   FillingLaw     a suitable table has exactly one column that makes the next one suitable
--   Forced         with our columns before it, a column makes its size suitable exactly if it is ours
--   Unique         a triangle all of whose sizes are suitable is ours
--   another, NotUnique   a triangle that is not ours whose size 5 is suitable: `Unique` needs the smaller sizes
use Rattle.std.specs.Prelude.{◌≡◌, true, ◌≢◌, ◌↔◌, List, [], ◌∷◌, ◌++◌, ℕ, suc, ◌+◌, ◌-◌, ◌*◌, ◌^◌, ◌≤◌, ◌<◌, length}
use Rattle.std.specs.Prelude.{get_or, take, Ok}
use Rattle.span.specs.Word.{bit, digit}
use Rattle.tables.specs.Code.{Suitable}
use Rattle.tables.specs.Table.{table, rows_of, fit, Whole}
use Rattle.tables.specs.declared.table.Table.{Table}
use Rattle.tables.specs.Made.{columns, made_row, triangle_rows, Triangle, making}

-- In `NestedRows` and `FillingLaw` the smaller table has n = suc (length cs) symbols, and the new column a is column
-- n + 1.

-- Row j, for j from 1 to n, is twice row j for n, plus its bit of column n + 1 at 2n + 1, the top bit of the larger
-- table. Row n for n is 1.
abbrev pub NestedRows : Type 0
NestedRows = (cs : List ℕ) → Triangle cs → (a j : ℕ) → 1 ≤ j → j ≤ suc (length cs)
    → made_row (cs ++ (a ∷ [])) (suc (suc (length cs))) j
    ≡ 2 * get_or (triangle_rows cs (suc (length cs))) (j - 1) 0 + digit (bit (j - 1) a) * 2 ^ (2 * suc (length cs) + 1)

-- "Once the table for n − 1 is suitable, exactly one filling of column n makes the table for n suitable": the theorem
-- of Berlekamp and Preparata (001, Problem 21.1), of every size from the table of one symbol on.
abbrev pub FillingLaw : Type 0
FillingLaw = (cs : List ℕ) → Triangle cs → Suitable (2 * suc (length cs)) (triangle_rows cs (suc (length cs)))
    → (a : ℕ) × (a < 2 ^ suc (length cs))
    × Suitable (2 * suc (suc (length cs))) (triangle_rows (cs ++ (a ∷ [])) (suc (suc (length cs))))
    × ((c : ℕ) → c < 2 ^ suc (length cs)
    → Suitable (2 * suc (suc (length cs))) (triangle_rows (cs ++ (c ∷ [])) (suc (suc (length cs)))) → c ≡ a)

-- "The team works out the rest and proves that each column is forced by those before it."
abbrev pub Forced : Type 0
Forced = (n : ℕ) → 2 ≤ n → n ≤ 16 → (c : ℕ) → c < 2 ^ (n - 1)
    → Suitable (2 * n) (triangle_rows (take (n - 2) columns ++ (c ∷ [])) n) ↔ (c ≡ get_or columns (n - 2) 0)

abbrev pub Unique : Type 0
Unique = (cs : List ℕ) → Triangle cs → length cs ≤ 15
    → ((n : ℕ) → 2 ≤ n → n ≤ suc (length cs) → Suitable (2 * n) (triangle_rows (take (n - 1) cs) n))
    → cs ≡ take (length cs) columns

-- "(Without that nesting it is not unique: at n = 5 another triangle serves.)" Its table for 5 is suitable, and its
-- columns are not ours; so one of its smaller tables is not suitable.
abbrev pub another : List ℕ
another = 1 ∷ 2 ∷ 5 ∷ 9 ∷ []

abbrev pub NotUnique : Type 0
NotUnique = Triangle another × Suitable (2 * 5) (triangle_rows another 5) × (another ≢ take 4 columns)

-- "Its columns 2 to 16 stand as a constant table", column k with places 1 to k − 1. "The triangle for n is the one for
-- n − 1 with column n added": that for n is the first n − 1 of them.
abbrev pub OurTriangle : Type 0
OurTriangle = (length columns ≡ 15) × ((n : ℕ) → n ≤ 16 → Triangle (take (n - 1) columns))

abbrev pub MadeLaw : Type 0
MadeLaw =
    (n m : ℕ) (t : Table) → making n m ≡ Ok t
    → (t.symbols ≡ n) × (t.span ≡ 2 * n) × (t.depth ≡ m) × (fit t ≡ true) × Suitable t.span (rows_of t)
    × (rows_of t ≡ triangle_rows (take (n - 1) columns) n)

-- as a table that was read is
abbrev pub MadeWholeLaw : Type 0
MadeWholeLaw = (n m : ℕ) (t : Table) → making n m ≡ Ok t → Whole t

abbrev pub MadeDepth : Type 0
MadeDepth = (n m m' : ℕ) (t t' : Table) → making n m ≡ Ok t → making n m' ≡ Ok t'
    → t' ≡ table t.symbols t.span m' t.rows
