-- The decoder's step: the four lines of a decoding step (`Step`) on the words of the turn's stream.
--
--   decoder_joining, decoder_register, decoder_found   w, the register, and the error found
--   part_next, stream_replaced, decoder_next   the stream's part, the memory with it, and the memory after a step that is
--                                           taken
--   advanced              that memory, of the words that a step comes to
--   delivered, delivery   the record of a step that is taken, and its answer
--   decode_answer, decode_memory   answer and memory of any step
--   mark_number k, mark_error k   the number of a mark, and its e or 0
--   record_numbers, decode_numbers   the numbers of a record, and of an answer
--   decode_values t s r   the values of a step that is taken
--   Decodes               what `decode` promises
use Rattle.std.specs.Prelude.{◌≡◌, cond, List, [], ◌∷◌, ◌++◌, ℕ, ◌+◌, ltb, set, take, drop, Option, Some, None, Ok}
use Rattle.std.specs.Prelude.{Err}
use Rattle.tables.specs.declared.table.Table.{Table}
use Rattle.tables.specs.Table.{table}
use Rattle.link.specs.declared.decode.Mark.{Mark}
use Rattle.link.specs.declared.decode.Mark.TheVariants.{Clean, Held, Corrected, Doubtful, Parity}
use Rattle.link.specs.declared.decode.Delivered.{Delivered}
use Rattle.link.specs.Memory.{turn_of, fill_of, delay_of, stream_at, pending_of, syndrome_of, delayed_of, next_turn}
use Rattle.link.specs.Memory.{fill_next}
use Rattle.link.specs.Refusals.{Answer, decoder_fault, answered, leaves, call_numbers, refused, refusal_number}
use Rattle.link.specs.Step.{stream_joining, stream_register, stream_found, stream_next, stream_info, stream_mark}

unfoldable pub decoder_joining : Table → List ℕ → ℕ → ℕ
decoder_joining t s r = stream_joining t.symbols t.rows (pending_of t s (turn_of s)) r

unfoldable pub decoder_register : Table → List ℕ → ℕ → ℕ
decoder_register t s r =
    stream_register t.symbols t.span t.rows (pending_of t s (turn_of s)) (syndrome_of t s (turn_of s)) r

unfoldable pub decoder_found : Table → List ℕ → ℕ → Option ℕ
decoder_found t s r =
    stream_found t.symbols t.span t.rows (pending_of t s (turn_of s)) (syndrome_of t s (turn_of s)) r

-- "Each stream owns a part of the lent words that begins in its middle, and a step writes that part, the turn and the
-- fill only." The part after a step: pending word, syndrome word, and the delayed blocks: "the oldest delayed block of
-- that stream leaves and the received information, uncorrected, joins as the youngest"
unfoldable pub part_next : Table → List ℕ → ℕ → List ℕ
part_next t s r =
    let at = stream_at t (turn_of s) in
    stream_next t.symbols t.span t.rows (pending_of t s (turn_of s)) (syndrome_of t s (turn_of s))
    (drop (at + 3) (take (at + (t.span + 1)) s)) r

-- the memory with that part in its place
abbrev pub stream_replaced : Table → List ℕ → ℕ → List ℕ
stream_replaced t s r =
    let at = stream_at t (turn_of s) in
    take at s ++ (part_next t s r ++ drop (at + (t.span + 1)) s)

unfoldable pub decoder_next : Table → List ℕ → ℕ → List ℕ
decoder_next t s r = set (set (stream_replaced t s r) 1 (fill_next t (fill_of s))) 0 (next_turn t.depth (turn_of s))

-- the same of N, m, the two words of the stream and the block that joins
abbrev pub advanced : ℕ → ℕ → List ℕ → ℕ → ℕ → ℕ → List ℕ
advanced N m s pending syndrome young =
    let u = table 0 N m [] in
    let at = stream_at u (turn_of s) in
    set (set (take at s ++ ((pending ∷ syndrome ∷ (drop (at + 3) (take (at + (N + 1)) s) ++ (young ∷ [])))
    ++ drop (at + (N + 1)) s)) 1 (fill_next u (fill_of s))) 0 (next_turn m (turn_of s))

-- 4. "If fill was complete, the oldest delayed block, corrected by e, is delivered in a record with its mark; if not,
-- the answer is "nothing yet" and fill grows by one. Blocks from before the start are judged too."
unfoldable pub delivered : Table → List ℕ → ℕ → Delivered
delivered t s r = record {
  info =
      stream_info t.symbols t.span t.rows (pending_of t s (turn_of s)) (syndrome_of t s (turn_of s))
      (delayed_of t s (turn_of s) 0) r;
  mark = stream_mark t.symbols t.span t.rows (pending_of t s (turn_of s)) (syndrome_of t s (turn_of s)) r;
}

unfoldable pub delivery : Table → List ℕ → ℕ → Answer (Option Delivered)
delivery t s r = cond (ltb (fill_of s) (delay_of t)) (Ok None) (Ok (Some (delivered t s r)))

unfoldable pub decode_answer : Table → List ℕ → ℕ → Answer (Option Delivered)
decode_answer t s r = answered (decoder_fault t s r) (delivery t s r) refused

unfoldable pub decode_memory : Table → List ℕ → ℕ → List ℕ
decode_memory t s r = leaves (decoder_fault t s r) (decoder_next t s r) s

-- "Marks: clean ..; corrected, carrying e ..; doubtful ..; held", numbered as 02, CR 1: "0 nothing yet, 1 clean, 2
-- held, 3 corrected, 4 doubtful", and CR 4: "the batch entry has 5"
abbrev pub mark_number : Mark → ℕ
mark_number Clean = 1
mark_number Held = 2
mark_number (Corrected e) = 3
mark_number Doubtful = 4
mark_number (Parity e) = 5

abbrev pub mark_error : Mark → ℕ
mark_error Clean = 0
mark_error Held = 0
mark_error (Corrected e) = e
mark_error Doubtful = 0
mark_error (Parity e) = e

-- "delivered in a record with its mark": information, mark, and e or 0
abbrev pub record_numbers : Delivered → List ℕ
record_numbers d = d.info ∷ mark_number d.mark ∷ mark_error d.mark ∷ []

abbrev pub decode_numbers : Answer (Option Delivered) → List ℕ
decode_numbers (Ok (Some d)) = 0 ∷ record_numbers d
decode_numbers (Ok None) = 0 ∷ 0 ∷ 0 ∷ 0 ∷ []
decode_numbers (Err e) = refusal_number e ∷ []

-- "if not, the answer is "nothing yet""
abbrev pub decode_values : Table → List ℕ → ℕ → List ℕ
decode_values t s r = cond (ltb (fill_of s) (delay_of t)) (0 ∷ 0 ∷ 0 ∷ []) (record_numbers (delivered t s r))

pub record Decodes (t : Table) (before : List ℕ) (received : ℕ) (r : Answer (Option Delivered)) (after : List ℕ) : Type 0 where
  pub answer : r ≡ decode_answer t before received
  pub memory : after ≡ decode_memory t before received
  pub numbers : decode_numbers r ≡ call_numbers (decoder_fault t before received) (decode_values t before received)
