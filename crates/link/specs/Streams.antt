-- The streams apart: 01, "Each stream owns a part of the lent words that begins in its middle, and a step writes that
-- part, the turn and the fill only."
--
--   OtherStreams       a step leaves the length of the memory and the part of every stream but the turn's
use Rattle.std.specs.Prelude.{◌≡◌, ◌≢◌, List, ℕ, ◌<◌, length}
use Rattle.tables.specs.declared.table.Table.{Table}
use Rattle.link.specs.Memory.{turn_of, pending_at, part_of}
use Rattle.link.specs.Coder.{code_memory}
use Rattle.link.specs.Decoder.{decode_memory}

-- The memory has no words but the turn, the fill of a decoder, and the parts; a coder's part is its pending word.
abbrev pub OtherStreams : Type 0
OtherStreams =
    ((t : Table) (s : List ℕ) (b : ℕ)
    → (length (code_memory t s b) ≡ length s)
    × ((k : ℕ) → k < t.depth → k ≢ turn_of s → pending_at (code_memory t s b) k ≡ pending_at s k))
    × ((t : Table) (s : List ℕ) (r : ℕ)
    → (length (decode_memory t s r) ≡ length s)
    × ((k : ℕ) → k < t.depth → k ≢ turn_of s → part_of t (decode_memory t s r) k ≡ part_of t s k))
