-- From a clean memory no guard is needed: bursts from place 1 on are all corrected, and no mark is doubtful. (000,
-- III.B: correction of a burst's last block "completely clears the decoder of erroneous symbols and the decoder is
-- ready to accept the beginning of a new burst".)
--
--   Clean t coder decoder   no stream's syndrome word has a one, and coder and decoder have the same pending words,
--                           stream by stream in turn
--   Undisturbed t decoder taken p   the answer at a place too early for a block that was taken: a block of the first
--                                   memory leaves as it was
--   EachPlace               what is answered at each place
--   CleanLaw                the theorem
--   CleanSeparated          the same without a choice of bursts
--   Tells answer info error   the answer delivers this information, not doubtful, and its mark tells this error
--   CleanMarks              past m × (N − 1) the mark tells the error of the block that is delivered
--   StartedClean            it applies to started memories
use Rattle.link.specs.Refusals.{Answer}
use Rattle.link.specs.declared.decode.Delivered.{Delivered}
use Rattle.std.specs.Prelude.{Option, ◌≡◌, true, ◌≢◌, ◌⊎◌, List, ℕ, ◌+◌, ◌-◌, ◌/◌, ◌%◌, ◌≤◌, ◌<◌, length, Some, None, Ok}
use Rattle.span.specs.Word.{◌⊕◌}
use Rattle.tables.specs.declared.table.Table.{Table}
use Rattle.tables.specs.Table.{fit}
use Rattle.link.specs.declared.decode.Mark.{Mark}
use Rattle.link.specs.declared.decode.Mark.TheVariants.{Doubtful}
use Rattle.link.specs.Memory.{started, coder_words, turn_of, decoder_words, pending_at, delay_of, pending_of}
use Rattle.link.specs.Memory.{syndrome_of, delayed_of}
use Rattle.link.specs.Decoder.{mark_error}
use Rattle.link.specs.Runs.{Call, Sent, Taken, sent_by, taken_by, sent_at, taken_at}
use Rattle.link.specs.Recovery.{Wrong, BurstsWithin, Separated, Sure, Recovered, Running}

-- The stream that has its turn d places on is stream turn + d mod m; the coder's turn need not be the decoder's. The
-- delayed blocks may be any, and so may the fill.
pub record Clean (t : Table) (coder decoder : List ℕ) : Type 0 where
  pub coder_turn : turn_of coder < t.depth
  pub decoder_turn : turn_of decoder < t.depth
  pub syndrome : (k : ℕ) → k < t.depth → syndrome_of t decoder k ≡ 0
  pub pending : (d : ℕ) → d < t.depth
      → pending_of t decoder ((turn_of decoder + d) % t.depth) ≡ pending_at coder ((turn_of coder + d) % t.depth)

-- Place p has the stream turn + (p − 1) mod m, and before it (p − 1) div m blocks of that stream have left: the next is
-- delivered, if anything is. "Blocks from before the start are judged too": they count as right.
abbrev pub Undisturbed : Table → List ℕ → List Taken → ℕ → Type 0
Undisturbed t decoder taken p =
    ((taken_at taken p).answer ≡ Ok None)
    ⊎ Sure (taken_at taken p).answer
    (delayed_of t decoder ((turn_of decoder + (p - 1)) % t.depth) ((p - 1) / t.depth))

-- For every place at which a block is taken: past m × (N − 1) the step delivers what was sent m × (N − 1) blocks back;
-- up to there, nothing yet, or a block that stood in the memory, as it was. No mark is doubtful.
abbrev pub EachPlace : Table → List ℕ → List Sent → List Taken → Type 0
EachPlace t decoder sent taken =
    (p : ℕ) → 1 ≤ p → p ≤ length taken
    → (delay_of t < p → Recovered sent taken (delay_of t) p) × (p ≤ delay_of t → Undisturbed t decoder taken p)

abbrev pub CleanLaw : Type 0
CleanLaw =
    (t : Table) (coder decoder : List ℕ) (cs ds : List Call) → Running t coder decoder cs ds → Clean t coder decoder
    → BurstsWithin t.depth (delay_of t) (sent_by coder cs) (taken_by decoder ds)
    → EachPlace t decoder (sent_by coder cs) (taken_by decoder ds)

-- The same where no burst is chosen: any two wrong places stand as two of one burst, or of two bursts, would.
abbrev pub CleanSeparated : Type 0
CleanSeparated =
    (t : Table) (coder decoder : List ℕ) (cs ds : List Call) → Running t coder decoder cs ds → Clean t coder decoder
    → Separated (Wrong (sent_by coder cs) (taken_by decoder ds)) t.depth (delay_of t) (length (taken_by decoder ds))
    → EachPlace t decoder (sent_by coder cs) (taken_by decoder ds)

-- `Sure`, and e of the mark, 0 where it has none, is the error
abbrev pub Tells : Answer (Option Delivered) → ℕ → ℕ → Type 0
Tells answer info error =
    (mark : Mark) × (answer ≡ Ok (Some (record { info = info; mark = mark }))) × (mark ≢ Doubtful)
    × (mark_error mark ≡ error)

-- With the same premises each mark tells how its block was taken: corrected or parity, with its error block as e, where
-- it was wrong, and otherwise clean or held, since e of corrected and of parity is never 0 (`MarksLaw`).
abbrev pub CleanMarks : Type 0
CleanMarks =
    (t : Table) (coder decoder : List ℕ) (cs ds : List Call) →
    let sent = sent_by coder cs in
    let taken = taken_by decoder ds in
    Running t coder decoder cs ds → Clean t coder decoder
    → Separated (Wrong sent taken) t.depth (delay_of t) (length taken)
    → (p : ℕ) → delay_of t < p → p ≤ length taken →
    let q = p - delay_of t in
    Tells (taken_at taken p).answer (sent_at sent q).info ((taken_at taken q).block ⊕ (sent_at sent q).block)

-- "Starting sets every word to zero."
abbrev pub StartedClean : Type 0
StartedClean = (t : Table) → fit t ≡ true → Clean t (started (coder_words t)) (started (decoder_words t))
