-- Demand 3, recovery: 01, "After a fade". One claim about the whole list of decoder steps.
--
--   Origin t             t is an accepted or a made table
--   Right, Wrong sent taken p   taken block p is sent block p, and is not
--   Stretch              a first and a last place
--   Burst wrong long count b   a stretch of at most `long` places, none past `count`, that begins and ends with a wrong
--                        one
--   Apart gap b bs       at least `gap` places lie between b and the first of bs
--   Chosen wrong long gap count bs   bursts in order, so far apart
--   Within p bs          place p lies in one of them
--   Bursts wrong long gap count   bursts can be so chosen that every wrong place lies in one
--   RightFirst, BurstsWithin   the premises on what is right and what is wrong
--   Running              those on the table and the lists of steps
--   FadesWith, Fades     all the premises
--   Sure answer info     the answer delivers this information, with a mark other than doubtful
--   Recovered sent taken delay p   what the step at place p answers
--   RecoveryLaw          the theorem
--   RecoveryLater        it holds from any later point of a run on, whatever damage came before
--   DoubtfulLaw          a doubtful mark beyond the guard says that the premise on bursts was broken
--   Separated wrong long gap count   two wrong places lie in one stretch of `long`, or have the gap between them
--   BurstsSeparated      wrong places that lie in bursts so chosen are so separated
--   RecoveryAnyMemory    the theorem from any memory, and without a choice of bursts
--   short_guard t        2 × m × (N − 2)
--   RecoveryShortGuard   the same after that many right blocks
use Rattle.link.specs.Refusals.{Answer}
use Rattle.link.specs.declared.decode.Delivered.{Delivered}
use Rattle.std.specs.Prelude.{Option, ◌≡◌, ◌≢◌, ◌⊎◌, List, [], ◌∷◌, ℕ, ◌+◌, ◌-◌, ◌*◌, ◌≤◌, ◌<◌, length, Some, Ok}
use Rattle.tables.specs.declared.table.Table.{Table}
use Rattle.tables.specs.Reading.{reading}
use Rattle.tables.specs.Made.{making}
use Rattle.link.specs.declared.decode.Mark.{Mark}
use Rattle.link.specs.declared.decode.Mark.TheVariants.{Doubtful}
use Rattle.link.specs.Formed.{CoderFormed, DecoderFormed}
use Rattle.link.specs.Memory.{delay_of}
use Rattle.link.specs.Runs.{Call, Sent, Taken, sent_by, taken_by, sent_at, taken_at, CoderTables, DecoderTables}
use Rattle.link.specs.Runs.{coder_after, decoder_after}

-- "An accepted table is one that reading returned, with the sizes and rows of the records read; a made table is one
-- that making returned, with the n and m asked for and the rows given above."
abbrev pub Origin : Table → Type 0
Origin t =
    ((bytes : List ℕ) × (reading bytes ≡ Ok t)) ⊎ ((n : ℕ) × (m : ℕ) × (making n m ≡ Ok t))

-- "Place p is right if taken block p equals sent block p, otherwise wrong."
abbrev pub Right : List Sent → List Taken → ℕ → Type 0
Right sent taken p = (taken_at taken p).block ≡ (sent_at sent p).block

abbrev pub Wrong : List Sent → List Taken → ℕ → Type 0
Wrong sent taken p = (taken_at taken p).block ≢ (sent_at sent p).block

-- "A burst is a stretch of at most m places that begins and ends with a wrong one (one place may be both)."
pub record Stretch : Type 0 where
  pub first : ℕ
  pub last : ℕ

pub record Burst (wrong : ℕ → Type 0) (long count : ℕ) (b : Stretch) : Type 0 where
  pub from : 1 ≤ b.first
  pub order : b.first ≤ b.last
  pub short : b.last < b.first + long
  pub inside : b.last ≤ count
  pub begins : wrong b.first
  pub ends : wrong b.last

-- "between a chosen one and the next lie at least m × (N − 1) places, all right": all right, since every wrong place
-- lies in a chosen one
abbrev pub Apart : ℕ → Stretch → List Stretch → Type 0
Apart gap b [] = Unit {0}
Apart gap b (c ∷ bs) = b.last + gap < c.first

abbrev pub Chosen : (ℕ → Type 0) → ℕ → ℕ → ℕ → List Stretch → Type 0
Chosen wrong long gap count [] = Unit {0}
Chosen wrong long gap count (b ∷ bs) = Burst wrong long count b × Apart gap b bs × Chosen wrong long gap count bs

abbrev pub Within : ℕ → List Stretch → Type 0
Within p [] = ⊥
Within p (b ∷ bs) = ((b.first ≤ p) × (p ≤ b.last)) ⊎ Within p bs

-- "Bursts can be chosen so that every wrong place lies in a chosen one, and between a chosen one and the next lie at
-- least m × (N − 1) places"
pub record Bursts (wrong : ℕ → Type 0) (long gap count : ℕ) : Type 0 where
  pub chosen : List Stretch
  pub apart : Chosen wrong long gap count chosen
  pub covered : (p : ℕ) → 1 ≤ p → p ≤ count → wrong p → Within p chosen

-- "Places 1 to 2 × m × (N − 1) are right", here places 1 to `right`
abbrev pub RightFirst : ℕ → List Sent → List Taken → Type 0
RightFirst right sent taken = (p : ℕ) → 1 ≤ p → p ≤ right → p ≤ length taken → Right sent taken p

-- bursts of at most `long` places, at least `gap` right ones between, hold every wrong place
abbrev pub BurstsWithin : ℕ → ℕ → List Sent → List Taken → Type 0
BurstsWithin long gap sent taken = Bursts (Wrong sent taken) long gap (length taken)

-- What 01 asks of the two lists of steps. Nothing is asked of either memory here: a step that is not refused has passed
-- refusals 12 to 15 by itself.
pub record Running (t : Table) (coder decoder : List ℕ) (cs ds : List Call) : Type 0 where
  -- an accepted or a made table
  pub origin : Origin t
  -- "each step that is not refused uses the decoder's table"
  pub coder_tables : CoderTables t coder cs
  pub decoder_tables : DecoderTables t decoder ds
  -- "at least as many blocks are sent as taken"
  pub enough : length (taken_by decoder ds) ≤ length (sent_by coder cs)

-- The premises of demand 3, with guard, length of a burst and gap as numbers.
pub record FadesWith (right long gap : ℕ) (t : Table) (coder decoder : List ℕ) (cs ds : List Call) : Type 0 where
  pub running : Running t coder decoder cs ds
  -- "A running coder is a list of coder steps on a memory of its own, from any well-formed one on, a started one among
  -- them."
  pub coder_formed : CoderFormed t coder
  -- from any well-formed memory; it need not have been started, and its turn need not be the coder's
  pub decoder_formed : DecoderFormed t decoder
  pub guard : RightFirst right (sent_by coder cs) (taken_by decoder ds)
  pub bursts : BurstsWithin long gap (sent_by coder cs) (taken_by decoder ds)

-- "Places 1 to 2 × m × (N − 1) are right"; bursts "of at most m places", "between a chosen one and the next lie at
-- least m × (N − 1) places"
abbrev pub Fades : Table → List ℕ → List ℕ → List Call → List Call → Type 0
Fades t = FadesWith (2 * delay_of t) t.depth (delay_of t) t

-- "that step's answer is a record whose information equals the information sent in block p − m × (N − 1), with a mark
-- other than doubtful"
abbrev pub Sure : Answer (Option Delivered) → ℕ → Type 0
Sure answer info = (mark : Mark) × (answer ≡ Ok (Some (record { info = info; mark = mark }))) × (mark ≢ Doubtful)

abbrev pub Recovered : List Sent → List Taken → ℕ → ℕ → Type 0
Recovered sent taken delay p = Sure (taken_at taken p).answer (sent_at sent (p - delay)).info

-- "Then for each p above 2 × m × (N − 1) at which a block is taken"
abbrev pub RecoveryLaw : Type 0
RecoveryLaw =
    (t : Table) (coder decoder : List ℕ) (cs ds : List Call) → Fades t coder decoder cs ds
    → (p : ℕ) → 2 * delay_of t < p → p ≤ length (taken_by decoder ds)
    → Recovered (sent_by coder cs) (taken_by decoder ds) (delay_of t) p

-- "from any well-formed one on": cs0 and ds0 come before, cs and ds after: places count from the end of cs0 and of ds0
-- on. What was taken before is any damage, and the two need not have equally many places.
abbrev pub RecoveryLater : Type 0
RecoveryLater =
    (t : Table) (coder decoder : List ℕ) (cs0 ds0 cs ds : List Call)
    → CoderFormed t coder → DecoderFormed t decoder → CoderTables t coder cs0 → DecoderTables t decoder ds0 →
    let sent = sent_by (coder_after coder cs0) cs in
    let taken = taken_by (decoder_after decoder ds0) ds in
    Running t (coder_after coder cs0) (decoder_after decoder ds0) cs ds → RightFirst (2 * delay_of t) sent taken
    → BurstsWithin t.depth (delay_of t) sent taken
    → (p : ℕ) → 2 * delay_of t < p → p ≤ length taken → Recovered sent taken (delay_of t) p

-- "with a mark other than doubtful": so, where all else is as asked for, a doubtful mark past the guard says that
-- bursts were longer or closer
abbrev pub DoubtfulLaw : Type 0
DoubtfulLaw =
    (t : Table) (coder decoder : List ℕ) (cs ds : List Call) →
    let sent = sent_by coder cs in
    let taken = taken_by decoder ds in
    CoderFormed t coder → DecoderFormed t decoder → Running t coder decoder cs ds
    → RightFirst (2 * delay_of t) sent taken
    → (p info : ℕ) → 2 * delay_of t < p → p ≤ length taken
    → (taken_at taken p).answer ≡ Ok (Some (record { info = info; mark = Doubtful }))
    → BurstsWithin t.depth (delay_of t) sent taken → ⊥

-- Two wrong places are fewer than `long` places from one another, or more than `gap`. Bursts so chosen give it; here
-- none is chosen.
abbrev pub Separated : (ℕ → Type 0) → ℕ → ℕ → ℕ → Type 0
Separated wrong long gap count =
    (p q : ℕ) → 1 ≤ p → p < q → q ≤ count → wrong p → wrong q → (q < p + long) ⊎ (p + gap < q)

abbrev pub BurstsSeparated : Type 1
BurstsSeparated =
    (wrong : ℕ → Type 0) (long gap count : ℕ) → Bursts wrong long gap count → Separated wrong long gap count

-- Stronger than RecoveryLaw: the memories are any lists of words, well-formed or not, and any two wrong places stand as
-- two of one burst, or of two bursts, would.
abbrev pub RecoveryAnyMemory : Type 0
RecoveryAnyMemory =
    (t : Table) (coder decoder : List ℕ) (cs ds : List Call) → Running t coder decoder cs ds
    → RightFirst (2 * delay_of t) (sent_by coder cs) (taken_by decoder ds)
    → Separated (Wrong (sent_by coder cs) (taken_by decoder ds)) t.depth (delay_of t) (length (taken_by decoder ds))
    → (p : ℕ) → 2 * delay_of t < p → p ≤ length (taken_by decoder ds)
    → Recovered (sent_by coder cs) (taken_by decoder ds) (delay_of t) p

-- Beyond 01, and beyond Massey's "2g consecutive error-free blocks are always sufficient" (000, VI; g is m × (N − 1)):
-- 2 × m fewer right blocks are enough for the same places, with every table. One fewer still is not enough for all
-- tables: Z shows it (`ShortGuardSharp`). Here too the memories are any.
abbrev pub short_guard : Table → ℕ
short_guard t = 2 * (t.depth * (t.span - 2))

abbrev pub RecoveryShortGuard : Type 0
RecoveryShortGuard =
    (t : Table) (coder decoder : List ℕ) (cs ds : List Call) → Running t coder decoder cs ds
    → RightFirst (short_guard t) (sent_by coder cs) (taken_by decoder ds)
    → Separated (Wrong (sent_by coder cs) (taken_by decoder ds)) t.depth (delay_of t) (length (taken_by decoder ds))
    → (p : ℕ) → 2 * delay_of t < p → p ≤ length (taken_by decoder ds)
    → Recovered (sent_by coder cs) (taken_by decoder ds) (delay_of t) p
