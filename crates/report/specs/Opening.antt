-- The opening of the listing program: what it prints before the first delivery, the table, and the decoder started.
-- With `listed`, which lists the blocks in parts, that is the whole listing.
--
--   Opening                 what is printed, and the table, or none where the program stopped
--   opened_made a           after the header: the made table, or refusal 11
--   headed o                the same after the header
--   opened bs               the opening of an input whose first two bytes, or all that it has, are bs
--   memory_words            the longest memory of a decoder of a made table
--   started_in t s          s with a decoder started in its first words
--   decoder_of t            the table, the words of its decoder, and the number of the first delivery
--   opened_decoder, opened_memory   the decoder, and the memory; none, and as it was, where the program stopped
--   opening_room words bytes      whether so many words for the memory, and so many bytes for the lines, are room
--   opened_within words bytes bs what a call does that has them
--   Opens o s s' out out' r what such a call leaves and answers
--   joined parts            the parts of an input, joined
--   whole_blocks parts      no part ends in the middle of a block, unless no byte follows
--   parts_listed t l parts the parts listed one after the other, after l
--   nothing_listed t        a decoder started, and nothing listed
--   after_opening o parts   what the parts print, if the opening has not stopped
--   ListingLaw              the opening, and then the parts, are the listing of the input
--   ProgramRoom             with the program's buffers `opening` and `part` have the room that `ListingLaw` takes for
--                           granted
use Rattle.std.specs.Prelude.{◌≡◌, Bool, false, ◌&&◌, cond, ◌⊎◌, List, [], ◌∷◌, ◌++◌, ℕ, ◌+◌, ◌*◌, ◌%◌, ◌^◌, ◌≤◌}
use Rattle.std.specs.Prelude.{◌<◌, leb, length, drop, Option, None, Some, Result, Ok, Err}
use Rattle.std.specs.Option.{option_map}
use Rattle.tables.specs.declared.table.Table.{Table}
use Rattle.tables.specs.declared.make.MakeError.{MakeError}
use Rattle.tables.specs.Made.{making, make_number}
use Rattle.link.specs.Memory.{started, decoder_words}
use Rattle.report.specs.declared.opening.Opened.{Opened}
use Rattle.report.specs.declared.opening.Decoder.{Decoder}
use Rattle.report.specs.Text.{header_line, refused_line}
use Rattle.report.specs.Writing.{Wrote, longest}
use Rattle.report.specs.Listing.{Listed, listed, continued, listing, part_listed}

pub record Opening : Type 0 where
  pub text : List ℕ
  pub table : Option Table

-- 11. "n or m is out of range", of making
abbrev pub opened_made : Result Table MakeError → Opening
opened_made (Ok t) = record { text = []; table = Some t }
opened_made (Err e) = record { text = refused_line (make_number e); table = None }

abbrev pub headed : Opening → Opening
headed o = record { text = header_line ++ o.text; table = o.table }

-- "The header comes first in any case"; "under two bytes, the header only"
unfoldable pub opened : List ℕ → Opening
opened [] = record { text = header_line; table = None }
opened (n ∷ []) = record { text = header_line; table = None }
opened (n ∷ m ∷ bs) = headed (opened_made (making n m))

-- 2 + m × (N + 1), where m is at most 64, and N at most 2 × 16
abbrev pub memory_words : ℕ
memory_words = 2 + 64 * 33

abbrev pub started_in : Table → List ℕ → List ℕ
started_in t s = started (decoder_words t) ++ drop (decoder_words t) s

abbrev pub decoder_of : Table → Decoder
decoder_of t = record { table = t; words = decoder_words t; number = 0 }

abbrev pub opened_decoder : Opening → Option Decoder
opened_decoder o = option_map decoder_of o.table

abbrev pub opened_memory : Opening → List ℕ → List ℕ
opened_memory o s = elim o.table [ None ↦ s | Some t ↦ started_in t s ]

-- for the longest memory, and for the header and a refusal
unfoldable pub opening_room : ℕ → ℕ → Bool
opening_room words bytes = leb memory_words words && leb (2 * longest) bytes

-- where there is no room, nothing is written, and the program is to stop
unfoldable pub opened_within : ℕ → ℕ → List ℕ → Opening
opened_within words bytes bs =
    cond (opening_room words bytes) (opened bs) (record { text = []; table = None })

pub record Opens (o : Opening) (s s' out out' : List ℕ) (r : Opened) : Type 0 where
  pub wrote : Wrote out 0 o.text out' r.end
  pub decoder : r.decoder ≡ opened_decoder o
  pub memory : s' ≡ opened_memory o s

-- "then received blocks of two bytes", as they are read: part by part

abbrev pub joined : List (List ℕ) → List ℕ
joined [] = []
joined (p ∷ ps) = p ++ joined ps

abbrev pub whole_blocks : List (List ℕ) → Type 0
whole_blocks [] = Unit {0}
whole_blocks (p ∷ ps) = ((length p % 2 ≡ 0) ⊎ (joined ps ≡ [])) × whole_blocks ps

abbrev pub parts_listed : Table → Listed → List (List ℕ) → Listed
parts_listed t l [] = l
parts_listed t l (p ∷ ps) = parts_listed t (continued t l p) ps

abbrev pub nothing_listed : Table → Listed
nothing_listed t = record { text = []; memory = started (decoder_words t); number = 0; stopped = false }

abbrev pub after_opening : Opening → List (List ℕ) → List ℕ
after_opening o parts = elim o.table [ None ↦ [] | Some t ↦ (parts_listed t (nothing_listed t) parts).text ]

-- in whatever parts the input is read, if none ends in the middle of a block while bytes follow
abbrev pub ListingLaw : Type 0
ListingLaw =
    (sizes : List ℕ) (parts : List (List ℕ)) → (length sizes ≡ 2) ⊎ ((length sizes < 2) × (joined parts ≡ []))
    → whole_blocks parts
    → listing (sizes ++ joined parts) ≡ (opened sizes).text ++ after_opening (opened sizes) parts

-- the sizes that `main` has: 2,114 words and 86 bytes for the opening, and 65,536 bytes for the lines of a part of at
-- most 2,048; no run has 2^63 deliveries
abbrev pub ProgramRoom : Type 0
ProgramRoom =
    ((sizes : List ℕ) → opened_within 2114 86 sizes ≡ opened sizes)
    × ((t : Table) (s : List ℕ) (k : ℕ) (bs : List ℕ) → k ≤ 2 ^ 63 → length bs ≤ 2048
    → part_listed t s k bs 65536 ≡ listed t s k bs)
