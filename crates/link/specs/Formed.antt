-- Well-formed memories (01, "A state is well-formed if 14 would refuse it for no stream"): a start makes one, and the
-- steps keep it.
--
--   CoderFormed t s, DecoderFormed t s   the memory is well-formed
--   NeverMalformed malformed t s   14 would refuse it for no stream: whichever stream has its turn
--   FormedExactly      that is what well-formed means
--   FormedSteps        no step on a well-formed memory is refused for 13 or 14
--   StartedFormed      a started memory is well-formed
--   FormedKept         a step that is taken keeps a well-formed memory well-formed
--   FormedThroughout   and so does a run whose taken steps use that table, whatever else is handed to it and refused
use Rattle.std.specs.Prelude.{◌≡◌, Bool, true, false, ◌≢◌, ◌↔◌, List, ℕ, ◌-◌, ◌^◌, ◌≤◌, ◌<◌, length, set}
use Rattle.tables.specs.declared.table.Table.{Table}
use Rattle.tables.specs.Table.{fit, SameTable}
use Rattle.link.specs.Memory.{coder_words, decoder_words, turn_of, fill_of, delay_of, pending_at, pending_of}
use Rattle.link.specs.Memory.{syndrome_of}
use Rattle.link.specs.Memory.{delayed_of, delayed_bound, started}
use Rattle.link.specs.Refusals.{coder_malformed, decoder_malformed, coder_fault, decoder_fault}
use Rattle.link.specs.Coder.{coder_next}
use Rattle.link.specs.Decoder.{decoder_next}
use Rattle.link.specs.Runs.{Call, CoderTables, DecoderTables, coder_after, decoder_after}

-- it has the length that 13 asks for, and no word of any stream is one that 14 refuses
pub record CoderFormed (t : Table) (s : List ℕ) : Type 0 where
  pub size : length s ≡ coder_words t
  pub turn : turn_of s < t.depth
  pub pending : (k : ℕ) → k < t.depth → pending_at s k < 2 ^ (t.span - 1)

pub record DecoderFormed (t : Table) (s : List ℕ) : Type 0 where
  pub size : length s ≡ decoder_words t
  pub turn : turn_of s < t.depth
  pub fill : fill_of s ≤ delay_of t
  pub pending : (k : ℕ) → k < t.depth → pending_of t s k < 2 ^ (t.span - 1)
  pub syndrome : (k : ℕ) → k < t.depth → syndrome_of t s k < 2 ^ (t.span - 1)
  pub delayed : (k i : ℕ) → k < t.depth → i < t.span - 1 → delayed_of t s k i < delayed_bound t

-- with its own turn, and with the turn of each stream in its place
pub record NeverMalformed (malformed : Table → List ℕ → Bool) (t : Table) (s : List ℕ) : Type 0 where
  pub now : malformed t s ≡ false
  pub others : (k : ℕ) → k < t.depth → malformed t (set s 0 k) ≡ false

abbrev pub FormedExactly : Type 0
FormedExactly =
    (t : Table) (s : List ℕ)
    → (CoderFormed t s ↔ ((length s ≡ coder_words t) × NeverMalformed coder_malformed t s))
    × (DecoderFormed t s ↔ ((length s ≡ decoder_words t) × NeverMalformed decoder_malformed t s))

abbrev pub FormedSteps : Type 0
FormedSteps =
    (t : Table) (s : List ℕ) (b : ℕ)
    → (CoderFormed t s → (coder_fault t s b ≢ 13) × (coder_fault t s b ≢ 14))
    × (DecoderFormed t s → (decoder_fault t s b ≢ 13) × (decoder_fault t s b ≢ 14))

-- "from any well-formed one on, a started one among them"
abbrev pub StartedFormed : Type 0
StartedFormed =
    (t : Table) → fit t ≡ true → CoderFormed t (started (coder_words t)) × DecoderFormed t (started (decoder_words t))

-- 14 looks at the turn's stream only, so a taken step says little of the others; but it leaves them as they were.
abbrev pub FormedKept : Type 0
FormedKept = (t u : Table) → SameTable u t → (s : List ℕ) (b : ℕ)
    → (CoderFormed t s → coder_fault u s b ≡ 0 → CoderFormed t (coder_next u s b))
    × (DecoderFormed t s → decoder_fault u s b ≡ 0 → DecoderFormed t (decoder_next u s b))

abbrev pub FormedThroughout : Type 0
FormedThroughout = (t : Table) (s : List ℕ) (cs : List Call)
    → (CoderFormed t s → CoderTables t s cs → CoderFormed t (coder_after s cs))
    × (DecoderFormed t s → DecoderTables t s cs → DecoderFormed t (decoder_after s cs))
