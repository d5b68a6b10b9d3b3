-- Rows of a handed table past n − 1 do not matter: 01 has "rows 1 to n − 1" in refusal 12, and the rows of symbols in a
-- step.
--
--   UnusedRows   tables with the same n, N, m and rows 1 to n − 1 have the same starts and the same steps
use Rattle.std.specs.Prelude.{◌≡◌, List, ℕ}
use Rattle.tables.specs.declared.table.Table.{Table}
use Rattle.tables.specs.Table.{SameTable}
use Rattle.link.specs.Start.{start_answer, start_memory}
use Rattle.link.specs.Coder.{code_answer, code_memory}
use Rattle.link.specs.Decoder.{decode_answer, decode_memory}

abbrev pub UnusedRows : Type 0
UnusedRows =
    (u t : Table) → SameTable u t → (words : ℕ) (s : List ℕ) (b : ℕ)
    → ((start_answer u words s ≡ start_answer t words s) × (start_memory u words s ≡ start_memory t words s))
    × ((code_answer u s b ≡ code_answer t s b) × (code_memory u s b ≡ code_memory t s b))
    × ((decode_answer u s b ≡ decode_answer t s b) × (decode_memory u s b ≡ decode_memory t s b))
