-- 02, CR 1: where a batch ends, and what batches are together. A batch is a run of single calls, and so what holds of
-- every run (`Runs`), recovery among it, holds of any mixture of batches and single calls.
--
--   singly t bs       the single calls of the blocks bs with the table t
--   coded_by s cs, decoded_by s ds   the entries of single calls, one after another
--   Ends              where single calls would come to an end: the output full, or the next one refused
--   Shorter           a batch takes fewer blocks than it is handed exactly where they do
--   BatchRun          a batch is the run of the blocks that it took
--   Single            entry and memory of a single call are those of the batch of its block
--   Handed            what a batch is handed
--   filled, after     the entries of a list of batches, and the memory after them
--   calls_of          their single calls, those that were taken
--   coder_batch, decoder_batch   a batch of the coder and of the decoder, as handed
--   Mixture           a list of batches is the run of their single calls
--   RecoveryBatches   demand 3 of any mixture of batches and single calls
--   GuardEndBatches     what the last m calls of the guard answer, of the same
use Rattle.std.specs.Prelude.{◌≡◌, ◌≢◌, ◌↔◌, ◌⊎◌, List, [], ◌∷◌, ◌++◌, map, ℕ, ◌-◌, ◌*◌, ◌/◌, ◌%◌, ◌^◌, ◌≤◌, ◌<◌}
use Rattle.std.specs.Prelude.{length, get_or, take, Err}
use Rattle.link.specs.declared.refusal.Refusal.{Refusal}
use Rattle.tables.specs.declared.table.Table.{Table}
use Rattle.link.specs.declared.decode.Mark.{Mark}
use Rattle.link.specs.declared.decode.Mark.TheVariants.{Doubtful}
use Rattle.link.specs.Memory.{delay_of}
use Rattle.link.specs.Coder.{code_answer, code_memory}
use Rattle.link.specs.Decoder.{decode_answer, decode_memory, mark_number}
use Rattle.link.specs.Runs.{Call, run, sent_by, taken_by, sent_at, coder_after, decoder_after}
use Rattle.link.specs.Recovery.{Fades}
use Rattle.link.specs.Batch.{Batch, code_entries, decode_entries, code_batch, decode_batch}

abbrev pub singly : Table → List ℕ → List Call
singly t [] = []
singly t (b ∷ bs) = record { table = t; block = b } ∷ singly t bs

abbrev pub coded_by : List ℕ → List Call → List ℕ
coded_by = run code_memory (λ t s b. code_entries (code_answer t s b))

abbrev pub decoded_by : List ℕ → List Call → List ℕ
decoded_by = run decode_memory (λ t s r. decode_entries (decode_answer t s r))

-- Single calls have taken the first k blocks, each of them, and there was room for these; "with a block still to take,
-- the output is full or the next single call would be refused".
pub record Ends (filled_by : List ℕ → List ℕ) (refused : List ℕ → ℕ → Type 0) (room : ℕ) (bs : List ℕ) (k : ℕ)
    : Type 0 where
  pub taken : length (filled_by (take k bs)) ≡ k
  pub fits : k ≤ room
  pub left : k < length bs
  pub why : (k ≡ room) ⊎ refused (take k bs) (get_or bs k 0)

-- "The part is shorter than the input exactly if, with a block still to take, the output is full or the next single
-- call would be refused." It has k entries then.
abbrev pub Shorter : Type 0
Shorter =
    ((t : Table) (room : ℕ) (s bs : List ℕ) (k : ℕ)
    → ((length (code_batch t room s bs).entries ≡ k) × (k < length bs))
    ↔ Ends (λ l. coded_by s (singly t l))
    (λ l b. (e : Refusal) × (code_answer t (coder_after s (singly t l)) b ≡ Err e)) room bs k)
    × ((t : Table) (room : ℕ) (s bs : List ℕ) (k : ℕ)
    → ((length (decode_batch t room s bs).entries ≡ k) × (k < length bs))
    ↔ Ends (λ l. decoded_by s (singly t l))
    (λ l r. (e : Refusal) × (decode_answer t (decoder_after s (singly t l)) r ≡ Err e)) room bs k)

-- "one entry a block taken": none of these calls is refused, since each has its entry
abbrev pub BatchRun : Type 0
BatchRun =
    ((t : Table) (room : ℕ) (s bs : List ℕ) →
    let b = code_batch t room s bs in
    let cs = singly t (take (length b.entries) bs) in
    (length b.entries ≤ length bs) × (length b.entries ≤ room) × (b.entries ≡ coded_by s cs)
    × (b.memory ≡ coder_after s cs))
    × ((t : Table) (room : ℕ) (s bs : List ℕ) →
    let b = decode_batch t room s bs in
    let ds = singly t (take (length b.entries) bs) in
    (length b.entries ≤ length bs) × (length b.entries ≤ room) × (b.entries ≡ decoded_by s ds)
    × (b.memory ≡ decoder_after s ds))

-- with room for one entry; refused, it has none, and leaves the memory
abbrev pub Single : Type 0
Single =
    ((t : Table) (s : List ℕ) (b : ℕ)
    → code_batch t 1 s (b ∷ []) ≡ record { entries = code_entries (code_answer t s b); memory = code_memory t s b })
    × ((t : Table) (s : List ℕ) (r : ℕ)
    → decode_batch t 1 s (r ∷ []) ≡ record { entries = decode_entries (decode_answer t s r); memory = decode_memory t s r })

-- Batches one after another, each with the memory as the last left it: a single call is one of them (`Single`).
pub record Handed : Type 0 where
  pub table : Table
  pub blocks : List ℕ
  pub room : ℕ

abbrev pub coder_batch : List ℕ → Handed → Batch
coder_batch s h = code_batch h.table h.room s h.blocks

abbrev pub decoder_batch : List ℕ → Handed → Batch
decoder_batch s h = decode_batch h.table h.room s h.blocks

unfoldable pub filled : (List ℕ → Handed → Batch) → List ℕ → List Handed → List ℕ
filled one s [] = []
filled one s (h ∷ hs) = (one s h).entries ++ filled one (one s h).memory hs

unfoldable pub after : (List ℕ → Handed → Batch) → List ℕ → List Handed → List ℕ
after one s [] = s
after one s (h ∷ hs) = after one (one s h).memory hs

unfoldable pub calls_of : (List ℕ → Handed → Batch) → List ℕ → List Handed → List Call
calls_of one s [] = []
calls_of one s (h ∷ hs) =
    singly h.table (take (length (one s h).entries) h.blocks) ++ calls_of one (one s h).memory hs

-- and its entries are the blocks sent, one a block taken
abbrev pub Mixture : Type 0
Mixture =
    (s : List ℕ) (hs : List Handed)
    →
    let cs = calls_of coder_batch s hs in
    let ds = calls_of decoder_batch s hs in
    ((filled coder_batch s hs ≡ coded_by s cs) × (after coder_batch s hs ≡ coder_after s cs)
    × (filled coder_batch s hs ≡ map (λ x. x.block) (sent_by s cs)))
    × ((filled decoder_batch s hs ≡ decoded_by s ds) × (after decoder_batch s hs ≡ decoder_after s ds)
    × (length (filled decoder_batch s hs) ≡ length (taken_by s ds)))

-- `RecoveryLaw`, read off the entries: entry p, counted from 1, is that of taken block p. A batch ends before a call that
-- would be refused; a refused single call may stand anywhere, and has no entry (`Single`).
abbrev pub RecoveryBatches : Type 0
RecoveryBatches =
    (t : Table) (coder decoder : List ℕ) (hs gs : List Handed) →
    let cs = calls_of coder_batch coder hs in
    Fades t coder decoder cs (calls_of decoder_batch decoder gs)
    → (p : ℕ) → 2 * delay_of t < p → p ≤ length (filled decoder_batch decoder gs)
    →
    let e = get_or (filled decoder_batch decoder gs) (p - 1) 0 in
    (mark : Mark) × (e % 2 ^ 16 ≡ (sent_at (sent_by coder cs) (p - delay_of t)).info) × (e / 2 ^ 16 ≡ mark_number mark)
    × (mark ≢ Doubtful)

-- `GuardEnd`, read off the entries: 1 is clean, and 5 is parity
abbrev pub GuardEndBatches : Type 0
GuardEndBatches =
    (t : Table) (coder decoder : List ℕ) (hs gs : List Handed) →
    let cs = calls_of coder_batch coder hs in
    Fades t coder decoder cs (calls_of decoder_batch decoder gs)
    → (p : ℕ) → 2 * delay_of t - t.depth < p → p ≤ 2 * delay_of t → p ≤ length (filled decoder_batch decoder gs)
    →
    let e = get_or (filled decoder_batch decoder gs) (p - 1) 0 in
    (e % 2 ^ 16 ≡ (sent_at (sent_by coder cs) (p - delay_of t)).info) × ((e / 2 ^ 16 ≡ 1) ⊎ (e / 2 ^ 16 ≡ 5))
