-- 01, "Coder and decoder memory": the words that are lent, what starting sets them to, and what every step does to its
-- stream, the turn and the fill.
--
--   coder_words t, decoder_words t   how many words the coder's memory has, and the decoder's
--   turn_of s                        the turn
--   fill_of s, delay_of t            the fill, and where it is complete
--   pending_at s k                   the pending word of stream k in the coder's memory
--   stream_at t k, part_of t s k     where the part of stream k begins in the decoder's, and the part; it has N + 1 words
--   pending_of, syndrome_of, delayed_of   its words
--   delayed_bound t                  what a delayed block is below
--   started words                    the memory after a start
--   joining infos pending info       the word w of a step
--   next_pending w                   the pending word that it leaves
--   next_turn m turn, fill_next t fill   turn and fill after a step
--   pushed from y s                  the words of s from `from` on without the first of them, and y as the last
use Rattle.std.specs.Prelude.{cond, List, [], ◌∷◌, ◌++◌, ℕ, suc, ◌+◌, ◌-◌, ◌*◌, ◌/◌, ◌^◌, ltb, eqb, length, get_or}
use Rattle.std.specs.Prelude.{take, drop, replicate}
use Rattle.span.specs.Word.{◌⊕◌}
use Rattle.span.specs.Combination.{combination}
use Rattle.tables.specs.declared.table.Table.{Table}

-- "Lent memory is 64-bit words. Coder: 1 + m words, the turn and then one pending word a stream"
abbrev pub coder_words : Table → ℕ
coder_words t = 1 + t.depth

abbrev pub turn_of : List ℕ → ℕ
turn_of s = get_or s 0 0

abbrev pub pending_at : List ℕ → ℕ → ℕ
pending_at s k = get_or s (1 + k) 0

-- "Decoder: 2 + m × (N + 1) words, the turn, the fill, then for each stream its pending word (from received
-- information), its syndrome word, and N − 1 delayed information blocks, oldest first."
abbrev pub decoder_words : Table → ℕ
decoder_words t = 2 + t.depth * (t.span + 1)

abbrev pub fill_of : List ℕ → ℕ
fill_of s = get_or s 1 0

-- "Each stream owns a part of the lent words that begins in its middle"
abbrev pub stream_at : Table → ℕ → ℕ
stream_at t k = 2 + k * (t.span + 1)

abbrev pub part_of : Table → List ℕ → ℕ → List ℕ
part_of t s k = take (t.span + 1) (drop (stream_at t k) s)

abbrev pub pending_of : Table → List ℕ → ℕ → ℕ
pending_of t s k = get_or s (stream_at t k) 0

abbrev pub syndrome_of : Table → List ℕ → ℕ → ℕ
syndrome_of t s k = get_or s (stream_at t k + 1) 0

-- delayed block i of stream k, the oldest first
abbrev pub delayed_of : Table → List ℕ → ℕ → ℕ → ℕ
delayed_of t s k i = get_or s (stream_at t k + 2 + i) 0

-- a delayed block is information, and so below this
abbrev pub delayed_bound : Table → ℕ
delayed_bound t = 2 ^ (t.symbols - 1)

-- "Turn counts 0 to m − 1 and returns to 0."
abbrev pub next_turn : ℕ → ℕ → ℕ
next_turn m turn = cond (eqb (suc turn) m) 0 (suc turn)

-- "Fill grows to m × (N − 1) and stays."
abbrev pub delay_of : Table → ℕ
delay_of t = t.depth * (t.span - 1)

abbrev pub fill_next : Table → ℕ → ℕ
fill_next t fill = cond (ltb fill (delay_of t)) (fill + 1) fill

-- "Starting sets every word to zero."
abbrev pub started : ℕ → List ℕ
started words = replicate words 0

-- "the oldest delayed block of that stream leaves and the received information, uncorrected, joins as the youngest";
-- where there are no words from there on, nothing moves
unfoldable pub pushed : ℕ → ℕ → List ℕ → List ℕ
pushed from y s = cond (ltb from (length s)) (take from s ++ (drop (suc from) s ++ (y ∷ []))) s

-- "In every step, of coder or decoder, w is the exclusive or of the pending word of the turn's stream and the rows of
-- the ones in the block's information (for the decoder, as received)." The rows 1 to n − 1 of the information are a
-- list.
unfoldable pub joining : List ℕ → ℕ → ℕ → ℕ
joining infos pending info = pending ⊕ combination infos info

-- "Bit 0 of w is the parity, and w halved, its bit 0 dropped, is the new pending word."
abbrev pub next_pending : ℕ → ℕ
next_pending w = w / 2
