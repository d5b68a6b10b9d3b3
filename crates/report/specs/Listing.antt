-- 01, "The listing program reads n, m (a byte each), then received blocks of two bytes, low first, and uses the made
-- table. It prints a header, then one line a delivery .. The header comes first in any case."
--
--   Listed                what was printed, the memory, the number of the next delivery, and whether the program stopped
--   prefixed bs l         the same, printed after bs
--   block_of low high     a received block
--   answer_text, answer_number, answer_stops   what one answer does
--   answer_next k a       the two of them as what the loop goes on with, or stops at
--   Printed k a before after next   what a call that prints it does to the lines, and answers
--   listed_after a s k rest   an answer listed, and then the rest
--   listed t s k bs       the bytes bs listed, from the memory s and the number k on
--   made_listing a bs     the bytes bs listed with the made table, or refusal 11
--   listing bs            all that the program prints of the input bs
--   continued t l bs      the bytes bs listed after l
--   PartsLaw              listing even parts one after the other is listing the whole
--   part_room k bytes room      whether the lines of a part of so many bytes have room, and the numbers from k on
--   part_listed t s k bs room   what a call that lists a part does, with `room` bytes for the lines
--   listed_next l         the number of the next delivery, and whether the program stops, as a call answers them
--   Lists l out r memory end next   what such a call leaves and answers
use Rattle.std.specs.Prelude.{Option, ◌≡◌, Bool, true, false, ◌&&◌, cond, List, [], ◌∷◌, ◌++◌, ℕ, ◌+◌, ◌*◌, ◌/◌, ◌%◌, ◌^◌}
use Rattle.std.specs.Prelude.{◌≤◌, leb, length, Some, None, Result, Ok, Err}
use Rattle.std.specs.declared.ops.ControlFlow.{ControlFlow}
use Rattle.std.specs.declared.ops.ControlFlow.TheVariants.{Continue, Break}
use Rattle.tables.specs.declared.table.Table.{Table}
use Rattle.tables.specs.declared.make.MakeError.{MakeError}
use Rattle.tables.specs.Made.{making, make_number}
use Rattle.link.specs.declared.decode.Delivered.{Delivered}
use Rattle.link.specs.Refusals.{Answer, refusal_number}
use Rattle.link.specs.Memory.{started, decoder_words}
use Rattle.link.specs.Decoder.{decode_answer, decode_memory}
use Rattle.report.specs.Text.{header_line, line_of, refused_line, odd_line}
use Rattle.report.specs.declared.text.Lines.{Lines}
use Rattle.report.specs.Writing.{Wrote, Pushes, longest}

pub record Listed : Type 0 where
  pub text : List ℕ
  pub memory : List ℕ
  pub number : ℕ
  pub stopped : Bool

abbrev pub prefixed : List ℕ → Listed → Listed
prefixed bs l = record { text = bs ++ l.text; memory = l.memory; number = l.number; stopped = l.stopped }

-- "received blocks of two bytes, low first"
abbrev pub block_of : ℕ → ℕ → ℕ
block_of low high = low + 256 * high

-- What an answer prints where the next delivery has the number k, the number of the delivery after it, and whether the
-- program stops: "one line a delivery: number from 0"; "nothing yet" prints nothing and has no number; "A refusal
-- prints one line .. and stops".
abbrev pub answer_text : ℕ → Answer (Option Delivered) → List ℕ
answer_text k (Ok (Some d)) = line_of k d
answer_text k (Ok None) = []
answer_text k (Err e) = refused_line (refusal_number e)

abbrev pub answer_number : ℕ → Answer (Option Delivered) → ℕ
answer_number k (Ok (Some d)) = k + 1
answer_number k (Ok None) = k
answer_number k (Err e) = k

abbrev pub answer_stops : Answer (Option Delivered) → Bool
answer_stops (Ok (Some d)) = false
answer_stops (Ok None) = false
answer_stops (Err e) = true

abbrev pub answer_next : ℕ → Answer (Option Delivered) → ControlFlow ℕ ℕ
answer_next k a = cond (answer_stops a) (Break (answer_number k a)) (Continue (answer_number k a))

-- the answer's bytes are written at the end of the lines, and no more than a line
pub record Printed (k : ℕ) (a : Answer (Option Delivered)) (before after : Lines) (next : ControlFlow ℕ ℕ) : Type 0 where
  pub pushed : Pushes (answer_text k a) before after
  pub counted : next ≡ answer_next k a
  pub short : after.end ≤ before.end + longest

-- an answer listed: s is the memory after its step, and `rest k` is what is listed after it if the next delivery has
-- the number k
abbrev pub listed_after : Answer (Option Delivered) → List ℕ → ℕ → (ℕ → Listed) → Listed
listed_after a s k rest =
    cond (answer_stops a) (record { text = answer_text k a; memory = s; number = answer_number k a; stopped = true })
    (prefixed (answer_text k a) (rest (answer_number k a)))

-- "an odd last byte prints `odd byte`"
unfoldable pub listed : Table → List ℕ → ℕ → List ℕ → Listed
listed t s k [] = record { text = []; memory = s; number = k; stopped = false }
listed t s k (b ∷ []) = record { text = odd_line; memory = s; number = k; stopped = true }
listed t s k (low ∷ high ∷ bs) =
    let r = block_of low high in
    let after = decode_memory t s r in
    listed_after (decode_answer t s r) after k (λ next. listed t after next bs)

-- refusal 11 is one of making the table; a made table is fit, and its decoder starts with zeros
abbrev pub made_listing : Result Table MakeError → List ℕ → List ℕ
made_listing (Ok t) bs = (listed t (started (decoder_words t)) 0 bs).text
made_listing (Err e) bs = refused_line (make_number e)

-- "The header comes first in any case"; "under two bytes, the header only"
unfoldable pub listing : List ℕ → List ℕ
listing [] = header_line
listing (n ∷ []) = header_line
listing (n ∷ m ∷ bs) = header_line ++ made_listing (making n m) bs

-- what has stopped lists no more
abbrev pub continued : Table → Listed → List ℕ → Listed
continued t l bs = cond l.stopped l (prefixed l.text (listed t l.memory l.number bs))

abbrev pub PartsLaw : Type 0
PartsLaw =
    (t : Table) (s : List ℕ) (k : ℕ) (before after : List ℕ) → length before % 2 ≡ 0
    → listed t s k (before ++ after) ≡ continued t (listed t s k before) after

-- What a call that lists a part does: for every block, and an odd byte, the longest line must have room, and the
-- numbers must stay below 2^64. Otherwise the call lists nothing, and says that it stopped.
unfoldable pub part_room : ℕ → ℕ → ℕ → Bool
part_room k bytes room = leb k (2 ^ 63) && leb (longest * (bytes / 2 + 1)) room

unfoldable pub part_listed : Table → List ℕ → ℕ → List ℕ → ℕ → Listed
part_listed t s k bs room =
    cond (part_room k (length bs) room) (listed t s k bs) (record { text = []; memory = s; number = k; stopped = true })

abbrev pub listed_next : Listed → ControlFlow ℕ ℕ
listed_next l = cond l.stopped (Break l.number) (Continue l.number)

-- the listing l is written from the start of `out` on, and its memory, number and stop are those that are left and
-- answered
pub record Lists (l : Listed) (out r memory : List ℕ) (end : ℕ) (next : ControlFlow ℕ ℕ) : Type 0 where
  pub wrote : Wrote out 0 l.text r end
  pub left : memory ≡ l.memory
  pub counted : next ≡ listed_next l
