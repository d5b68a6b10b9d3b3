-- 02, CR 1, blocks by the batch: "one call that takes a lent list of blocks, for coder and for decoder".
--
--   Batch               what a batch comes to: the entries filled, and the memory after it
--   ended s, entered es s rest   a batch that takes no block; one whose first call has the entries es: with none it
--                       ends
--   batch entries memory room s bs   the single calls of the blocks bs, one after another, while there is room
--   code_entries a, decode_entry m i, decode_entries a   the entry of a single call's answer; none of a refusal
--   code_batch, decode_batch   the batches of coder and of decoder
--   Fills               what `fill_coded` and `fill_decoded` promise, and what C calls
--   FillsPart           what `code_batch` and `decode_batch` promise
--   Judges              what a decoder's batch takes a register to say: error, syndrome word and mark
--   followed, Reached   entries and then those of another batch; where a batch has come to after some of its blocks
--   EntryLaw            a call that is not refused has one entry: the coded block; the information in its low 16
--                       bits, and above them the mark
use Rattle.link.specs.declared.decode.Delivered.{Delivered}
use Rattle.std.specs.Prelude.{Option, ◌≡◌, List, [], ◌∷◌, ◌++◌, ℕ, zero, suc, ◌+◌, ◌-◌, ◌*◌, ◌/◌, ◌%◌, ◌^◌, ◌≤◌, ◌<◌, length}
use Rattle.std.specs.Prelude.{get_or, take, drop, Some, None, Ok, Err}
use Rattle.tables.specs.declared.table.Table.{Table}
use Rattle.tables.specs.Table.{rows_of}
use Rattle.link.specs.declared.decode.Verdict.{Verdict}
use Rattle.link.specs.Refusals.{Answer, coder_fault, decoder_fault}
use Rattle.link.specs.Step.{found, error_of, kept_of, mark_of}
use Rattle.link.specs.Coder.{coded_block, code_answer, code_memory}
use Rattle.link.specs.Decoder.{decode_answer, decode_memory, mark_number, decode_values}

-- "The answer is the filled part of the lent output, one entry a block taken."
pub record Batch : Type 0 where
  pub entries : List ℕ
  pub memory : List ℕ

abbrev pub ended : List ℕ → Batch
ended s = record { entries = []; memory = s }

-- a call has at most one entry (`EntryLaw`)
abbrev pub entered : List ℕ → List ℕ → Batch → Batch
entered [] s rest = ended s
entered (e ∷ es) s rest = record { entries = e ∷ rest.entries; memory = rest.memory }

-- "Memory and entries equal those of single calls": each gets the memory as the last left it. A batch ends where no
-- block is left, where the output is full, and before a call that would be refused.
unfoldable pub batch : (entries memory : List ℕ → ℕ → List ℕ) → ℕ → List ℕ → List ℕ → Batch
batch entries memory room s [] = ended s
batch entries memory zero s (b ∷ bs) = ended s
batch entries memory (suc room) s (b ∷ bs) = entered (entries s b) s (batch entries memory room (memory s b) bs)

-- "The coder's entry is the coded block."
abbrev pub code_entries : Answer ℕ → List ℕ
code_entries (Ok c) = c ∷ []
code_entries (Err e) = []

-- "Entries are 32-bit numbers. .. The decoder's entry has the information in its low 16 bits (0 for nothing yet) and
-- above them the mark: 0 nothing yet, 1 clean, 2 held, 3 corrected, 4 doubtful." CR 4: parity "has 5".
abbrev pub decode_entry : ℕ → ℕ → ℕ
decode_entry mark info = mark * 2 ^ 16 + info

abbrev pub decode_entries : Answer (Option Delivered) → List ℕ
decode_entries (Ok (Some d)) = decode_entry (mark_number d.mark) d.info ∷ []
decode_entries (Ok None) = decode_entry 0 0 ∷ []
decode_entries (Err e) = []

unfoldable pub code_batch : Table → ℕ → List ℕ → List ℕ → Batch
code_batch t room s infos = batch (λ s b. code_entries (code_answer t s b)) (code_memory t) room s infos

unfoldable pub decode_batch : Table → ℕ → List ℕ → List ℕ → Batch
decode_batch t room s blocks = batch (λ s r. decode_entries (decode_answer t s r)) (decode_memory t) room s blocks

-- The count of blocks taken, every word of the memory, and every entry of the output: "output past the filled part
-- keeps what it held".
pub record Fills (b : Batch) (out : List ℕ) (taken : ℕ) (after out' : List ℕ) : Type 0 where
  pub count : taken ≡ length b.entries
  pub memory : after ≡ b.memory
  pub output : out' ≡ b.entries ++ drop (length b.entries) out

-- Of a call that returns the filled part itself. The rest of the output is not said here: a `&mut` that goes into the
-- result has no last value in a contract. `Fills` says it, of the functions that these call and then only cut.
pub record FillsPart (b : Batch) (part after : List ℕ) : Type 0 where
  pub entries : part ≡ b.entries
  pub memory : after ≡ b.memory

-- 01, a decoding step, line 3 and the mark: no promise of a public function is made of it
pub record Judges (t : Table) (x : ℕ) (v : Verdict) : Type 0 where
  pub error : v.error ≡ error_of (found (rows_of t) x)
  pub kept : v.kept ≡ kept_of (found (rows_of t) x) x
  pub mark : v.mark ≡ mark_of (2 ^ (t.symbols - 1)) (found (rows_of t) x) x

-- What a batch comes to is the first i entries of the output, and then what a batch of the blocks that are left comes
-- to; the output past them is as it was. No promise of a public function is made of it.
abbrev pub followed : List ℕ → Batch → Batch
followed es b = record { entries = es ++ b.entries; memory = b.memory }

pub record Reached (rest : ℕ → List ℕ → List ℕ → Batch) (before bs out : List ℕ) (i : ℕ) (s out' : List ℕ) : Type 0
  where
    pub left : i ≤ length bs
    pub room : i ≤ length out
    pub size : length out' ≡ length out
    pub comes : rest (length out) before bs ≡ followed (take i out') (rest (length out - i) s (drop i bs))
    pub past : drop i out' ≡ drop i out

-- "Entries are 32-bit numbers": a call that is not refused has one, the coded block, or the information and the mark of
-- a step that is taken, which are the first two of `decode_values`
abbrev pub EntryLaw : Type 0
EntryLaw =
    ((t : Table) (s : List ℕ) (b : ℕ) → coder_fault t s b ≡ 0
    → (code_entries (code_answer t s b) ≡ coded_block t s b ∷ []) × (coded_block t s b < 2 ^ 32))
    × ((t : Table) (s : List ℕ) (r : ℕ) → decoder_fault t s r ≡ 0
    → (e : ℕ) × (decode_entries (decode_answer t s r) ≡ e ∷ []) × (e < 2 ^ 32)
    × (e % 2 ^ 16 ≡ get_or (decode_values t s r) 0 0) × (e / 2 ^ 16 ≡ get_or (decode_values t s r) 1 0))
