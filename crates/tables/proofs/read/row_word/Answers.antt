-- `tables::read::row_word`: each byte is the record's, or 0 past the end. Assumes nothing.
use Rattle.std.proofs.Common.{rules, ◌≡◌, ◌+◌, ◌<◌, get_or, ℕ, List, w64}
use mathlib.Core.Path.{◌∙◌}
use native.Mathlib.Omega.{arith}
use Rattle.std.specs.Int.{from_le_bytes}
use Rattle.tables.specs.Format.{word, row_word}
use Rattle.tables.proofs.read.row_word.Goals as goal

-- the library's number of eight bytes
same_number : (s bytes : List ℕ) → ((i : ℕ) → i < 8 → get_or bytes i 0 ≡ get_or s (i + 2) 0)
    → from_le_bytes w64 bytes ≡ row_word s
unfolding word
same_number s bytes f =
    rw (
      f 0 (omega arith),
      f 1 (omega arith),
      f 2 (omega arith),
      f 3 (omega arith),
      f 4 (omega arith),
      f 5 (omega arith),
      f 6 (omega arith),
      f 7 (omega arith),
    )
    (omega arith)

pub returns : goal.returns
returns c =
    c.from_le_bytes.ensures
    ∙ same_number c.args.rest.now c.from_fn.result (λ i h. let made = c.from_fn.ensures.items.at i 0 h in search rules)
