-- Tables and runs as data, for what is computed.
--
--   table_with n N m rows       the table of these sizes and rows
--   Z m                         that of 01's examples, with m streams
--   calls t blocks              steps that are handed the table t and these blocks
--   answers_by answer memory s cs   what every call answers, refused or not, each on the memory that the one before it
--                                  left
--   sent_blocks, taken_blocks   the blocks of the steps that are not refused
--   delivers info mark          the answer that is a delivery
--   differing k xs ys           the places, counted from k, at which two lists of blocks differ
use Rattle.link.specs.Refusals.{Answer}
use Rattle.link.specs.declared.decode.Delivered.{Delivered}
use Rattle.std.specs.Prelude.{Option, cond, List, [], ◌∷◌, ◌++◌, map, ℕ, suc, ◌-◌, eqb, length, replicate, Some, Ok}
use Rattle.tables.specs.declared.table.Table.{Table}
use Rattle.tables.specs.Table.{table}
use Rattle.link.specs.declared.decode.Mark.{Mark}
use Rattle.link.specs.Runs.{Call, Sent, Taken}

-- n, N, m and the rows that count
abbrev pub table_with : ℕ → ℕ → ℕ → List ℕ → Table
table_with n N m rows = table n N m (rows ++ replicate (15 - length rows) 0)

-- ""Z" is n = 2, N = 4, row 10", and m is 1 there. Its images are 0, 10, 1, 11.
abbrev pub Z : ℕ → Table
Z m = table_with 2 4 m (10 ∷ [])

abbrev pub calls : Table → List ℕ → List Call
calls t blocks = map (λ (b : ℕ). record { table = t; block = b }) blocks

unfoldable pub answers_by : {X : Type 0} (answer : Table → List ℕ → ℕ → X) (memory : Table → List ℕ → ℕ → List ℕ)
    → List ℕ → List Call → List X
answers_by answer memory s [] = []
answers_by answer memory s (c ∷ cs) =
    answer c.table s c.block ∷ answers_by answer memory (memory c.table s c.block) cs

abbrev pub sent_blocks : List Sent → List ℕ
sent_blocks xs = map (λ (x : Sent). x.block) xs

abbrev pub taken_blocks : List Taken → List ℕ
taken_blocks xs = map (λ (x : Taken). x.block) xs

abbrev pub delivers : ℕ → Mark → Answer (Option Delivered)
delivers info mark = Ok (Some (record { info = info; mark = mark }))

unfoldable pub differing : ℕ → List ℕ → List ℕ → List ℕ
differing k [] ys = []
differing k (x ∷ xs) [] = []
differing k (x ∷ xs) (y ∷ ys) = cond (eqb x y) [] (k ∷ []) ++ differing (suc k) xs ys
