-- Demand 2, Massey's code over runs of steps: what the pending words and the syndrome words compute is 000's code.
-- Taken place p of a run from a started memory, counted from 0, is block p div m of stream p mod m, so that block b of
-- stream r is place r + b × m.
--
--   sum_over from count f                the exclusive or of f from, f (from + 1), ..: `count` of them
--   row_of rows j, symbol j x            row j, and symbol j of a block
--   ago x b k                            block b − k of a stream; blocks before the start are zero
--   convolution last N rows x b          the sum of 000, eq. 1, over rows 1 to `last`, at block b of the stream x
--   past x b                             the blocks before block b alone
--   past_sum last N rows x b k           what they add to that sum at block b + k, term by term
--   HoldsPast last N rows x b word       bit k of the word is what they add to it, for every k
--   stream m r at                        stream r of m, of what stands at the places of a run
--   info_sent, block_sent, block_taken   information and block sent at a place, and block taken
--   pending_sent, pending_taken          pending word of the turn's stream before the step there, of coder and of decoder
--   raw_entry                            the raw term of a step
--   raw_at, register_at, found_at        raw term, register and what was found there
--   ParityLaw                            000, eq. 1
--   Syndrome                             the raw terms, whatever was received
--   SyndromeErrors                       000, eq. 3
--   RegisterLaw                          the register holds the last N raw terms since the word was last cleared
--   ErrorFound                           what is found is the least error block that has the register as its image, or none
--   Pending, PendingReceived             what a bit of a pending word is, of coder and of decoder
--   DeliveryLaw                          which block a delivery is of, from any memory
--   Waiting                              until the fill is complete nothing is delivered
use Rattle.std.specs.Prelude.{◌≡◌, ◌↔◌, Bool, false, cond, ◌&&◌, ◌⊎◌, List, ℕ, zero, suc, ◌+◌, ◌-◌, ◌*◌, ◌^◌, ◌≤◌}
use Rattle.std.specs.Prelude.{◌<◌, leb, ltb, length, get_or, Option, Some, None, Ok}
use Rattle.std.specs.Bool.{xor}
use Rattle.span.specs.Word.{◌⊕◌, bit}
use Rattle.tables.specs.declared.table.Table.{Table}
use Rattle.tables.specs.Table.{rows_of, info_rows}
use Rattle.link.specs.Step.{information, parity, raw_term, error_of, mark_of}
use Rattle.link.specs.Marks.{NoError, LeastError}
use Rattle.link.specs.Memory.{started, coder_words, turn_of, decoder_words, pending_at, fill_of, delay_of, pending_of}
use Rattle.link.specs.Refusals.{coder_fault, decoder_fault}
use Rattle.link.specs.Coder.{code_memory}
use Rattle.link.specs.Decoder.{decoder_joining, decoder_register, decoder_found, decode_memory}
use Rattle.link.specs.Runs.{Call, Sent, Taken, run, sent_by, taken_by, sent_at, taken_at, CoderTables, DecoderTables}
use Rattle.link.specs.Runs.{placed}

-- ---- the convolution of one stream

unfoldable pub sum_over : ℕ → ℕ → (ℕ → Bool) → Bool
sum_over from zero f = false
sum_over from (suc count) f = xor (f from) (sum_over (suc from) count f)

-- 01, The code: "Symbol j has weight 2^(j−1) in a block's number". Rows and symbols count from 1.
abbrev pub row_of : List ℕ → ℕ → ℕ
row_of rows j = get_or rows (j - 1) 0

abbrev pub symbol : ℕ → ℕ → Bool
symbol j x = bit (j - 1) x

-- "Blocks before the start are zero."
abbrev pub ago : (ℕ → ℕ) → ℕ → ℕ → ℕ
ago x b k = cond (leb k b) (x (b - k)) 0

-- "In one stream the parity of block t is the exclusive or, over j and k, of bit k of row j and symbol j of block
-- t − k." Here t is b; j goes from 1 to `last`, which is n − 1 for the information and n with the parity, and k from 0
-- to N − 1.
unfoldable pub convolution : ℕ → ℕ → List ℕ → (ℕ → ℕ) → ℕ → Bool
convolution last N rows x b = sum_over 1 last (λ j. sum_over 0 N (λ k. bit k (row_of rows j) && symbol j (ago x b k)))

-- 01, "bit k of a pending word is what past blocks add to the parity k steps after the next one". The next block is b,
-- so that this is the sum at block b + k of the blocks before b alone; and it is the terms of these, block b − i with
-- bit k + i. At k above N − 2 it is zero.
abbrev pub past : (ℕ → ℕ) → ℕ → ℕ → ℕ
past x b c = cond (ltb c b) (x c) 0

unfoldable pub past_sum : ℕ → ℕ → List ℕ → (ℕ → ℕ) → ℕ → ℕ → Bool
past_sum last N rows x b k =
    sum_over 1 last (λ j. sum_over 1 (N - 1) (λ i. bit (k + i) (row_of rows j) && symbol j (ago x b i)))

abbrev pub HoldsPast : ℕ → ℕ → List ℕ → (ℕ → ℕ) → ℕ → ℕ → Type 0
HoldsPast last N rows x b word =
    (k : ℕ) → (bit k word ≡ convolution last N rows (past x b) (b + k)) × (bit k word ≡ past_sum last N rows x b k)

-- ---- streams of a run

-- "Blocks are dealt in turn to m separate streams (000, III.A)."
abbrev pub stream : {X : Type 0} → ℕ → ℕ → (ℕ → X) → ℕ → X
stream m r at b = at (r + b * m)

-- of the place counted from 0, as blocks of a stream are; `sent_at` and `taken_at` count from 1
abbrev pub info_sent : List Sent → ℕ → ℕ
info_sent xs p = (sent_at xs (suc p)).info

abbrev pub block_sent : List Sent → ℕ → ℕ
block_sent xs p = (sent_at xs (suc p)).block

abbrev pub block_taken : List Taken → ℕ → ℕ
block_taken xs p = (taken_at xs (suc p)).block

-- the words of the memory before a step that is not refused
abbrev pub pending_sent : List ℕ → List Call → ℕ → ℕ
pending_sent s cs p = get_or (run code_memory (placed coder_fault (λ t s b. pending_at s (turn_of s))) s cs) p 0

abbrev pub pending_taken : List ℕ → List Call → ℕ → ℕ
pending_taken s ds p = get_or (run decode_memory (placed decoder_fault (λ t s r. pending_of t s (turn_of s))) s ds) p 0

-- 01, a decoding step, lines 1 to 3, at a step that is not refused
abbrev pub raw_entry : Table → List ℕ → ℕ → Bool
raw_entry t s r = raw_term (decoder_joining t s r) t.symbols r

abbrev pub raw_at : List ℕ → List Call → ℕ → Bool
raw_at s ds p = get_or (run decode_memory (placed decoder_fault raw_entry) s ds) p false

abbrev pub register_at : List ℕ → List Call → ℕ → ℕ
register_at s ds p = get_or (run decode_memory (placed decoder_fault decoder_register) s ds) p 0

abbrev pub found_at : List ℕ → List Call → ℕ → Option ℕ
found_at s ds p = get_or (run decode_memory (placed decoder_fault decoder_found) s ds) p None

-- ---- the theorems, of every list of calls, refused ones anywhere in it

-- 000, eq. 1: the parity is the convolution of the information, and "the first b − 1 encoded sequences coincide with
-- the b − 1 information sequences".
abbrev pub ParityLaw : Type 0
ParityLaw =
    (t : Table) (cs : List Call) →
    let memory = started (coder_words t) in
    let sent = sent_by memory cs in
    CoderTables t memory cs → (r b : ℕ) → r < t.depth → r + b * t.depth < length sent →
    let info = stream t.depth r (info_sent sent) in
    let block = stream t.depth r (block_sent sent) in
    (parity t.symbols (block b) ≡ convolution (t.symbols - 1) t.span (info_rows t) info b)
    × (information t.symbols (block b) ≡ info b)

-- 000, II.B: the syndrome "is formed by subtracting the received parity sequence .. from the parity sequence formed by
-- encoding the received information sequences". It is the same sum over all n symbols of whatever was received, row n
-- being 1. A table by value has room for 15 rows, so that it holds rows 1 to n − 1.
abbrev pub Syndrome : Type 0
Syndrome =
    (t : Table) (ds : List Call) →
    let memory = started (decoder_words t) in
    let taken = taken_by memory ds in
    t.symbols - 1 ≤ length t.rows → DecoderTables t memory ds → (r b : ℕ) → r < t.depth
    → r + b * t.depth < length taken
    → stream t.depth r (raw_at memory ds) b
    ≡ convolution t.symbols t.span (rows_of t) (stream t.depth r (block_taken taken)) b

-- 000, eq. 3, "which shows that the syndrome sequence depends only on the error sequences": where a started coder sent
-- the blocks, it is that sum of the error blocks, taken ⊕ sent.
abbrev pub SyndromeErrors : Type 0
SyndromeErrors =
    (t : Table) (cs ds : List Call) →
    let sent = sent_by (started (coder_words t)) cs in
    let memory = started (decoder_words t) in
    let taken = taken_by memory ds in
    t.symbols - 1 ≤ length t.rows → CoderTables t (started (coder_words t)) cs → DecoderTables t memory ds
    → length taken ≤ length sent
    → (r b : ℕ) → r < t.depth → r + b * t.depth < length taken
    → stream t.depth r (raw_at memory ds) b
    ≡ convolution t.symbols t.span (rows_of t) (stream t.depth r (λ p. block_taken taken p ⊕ block_sent sent p)) b

-- 01, a decoding step: "2. The register is the syndrome word with the raw term as bit N − 1. 3. If some e has the
-- register as image, .. the syndrome word becomes 0. Otherwise .. the word is the register halved". So the register of
-- block b has the raw term of block b − k as bit N − 1 − k, for k from 0 to N − 1, as far back as block c and 0 before:
-- where nothing was found at blocks c to b − 1, and block c is the first of the stream or comes after one at which the
-- word was cleared.
abbrev pub RegisterLaw : Type 0
RegisterLaw =
    (t : Table) (ds : List Call) →
    let memory = started (decoder_words t) in
    DecoderTables t memory ds → (r b c : ℕ) → r < t.depth → r + b * t.depth < length (taken_by memory ds) → c ≤ b →
    let raw = stream t.depth r (raw_at memory ds) in
    let register = stream t.depth r (register_at memory ds) in
    let found = stream t.depth r (found_at memory ds) in
    (c ≡ 0) ⊎ ((e : ℕ) × (found (c - 1) ≡ Some e)) → ((d : ℕ) → c ≤ d → d < b → found d ≡ None)
    → (register b < 2 ^ t.span)
    × ((k : ℕ) → k < t.span → bit (t.span - 1 - k) (register b) ≡ cond (leb (c + k) b) (raw (b - k)) false)

-- 01, line 3: "If some e has the register as image, the least such e is the error": at every taken place, from any
-- memory. So `DeliveryLaw` removes that error, and its mark is that of `MarksLaw`.
abbrev pub ErrorFound : Type 0
ErrorFound =
    (t : Table) (memory : List ℕ) (ds : List Call) → DecoderTables t memory ds
    → (p : ℕ) → p < length (taken_by memory ds) →
    let register = register_at memory ds p in
    let found = found_at memory ds p in
    ((e : ℕ) → (found ≡ Some e) ↔ LeastError (rows_of t) register e)
    × ((found ≡ None) ↔ NoError (rows_of t) register)

-- 01, Coder and decoder memory: "one pending word a stream; bit k of a pending word is what past blocks add to the
-- parity k steps after the next one". It is the word before the step that block b is handed to.
abbrev pub Pending : Type 0
Pending =
    (t : Table) (cs : List Call) →
    let memory = started (coder_words t) in
    let sent = sent_by memory cs in
    CoderTables t memory cs → (r b : ℕ) → r < t.depth → r + b * t.depth < length sent →
    let info = stream t.depth r (info_sent sent) in
    let pending = stream t.depth r (pending_sent memory cs) in
    HoldsPast (t.symbols - 1) t.span (info_rows t) info b (pending b)

-- the decoder's "pending word (from received information)"
abbrev pub PendingReceived : Type 0
PendingReceived =
    (t : Table) (ds : List Call) →
    let memory = started (decoder_words t) in
    let taken = taken_by memory ds in
    DecoderTables t memory ds → (r b : ℕ) → r < t.depth → r + b * t.depth < length taken →
    let info = stream t.depth r (λ p. information t.symbols (block_taken taken p)) in
    let pending = stream t.depth r (pending_taken memory ds) in
    HoldsPast (t.symbols - 1) t.span (info_rows t) info b (pending b)

-- 01, "the oldest delayed block of that stream leaves and the received information, uncorrected, joins as the youngest,
-- so a delivery is of the block taken m × (N − 1) calls before", and "the oldest delayed block, corrected by e, is
-- delivered in a record with its mark": at every taken place above m × (N − 1), counted from 1, from any first memory.
abbrev pub DeliveryLaw : Type 0
DeliveryLaw =
    (t : Table) (memory : List ℕ) (ds : List Call) →
    let taken = taken_by memory ds in
    DecoderTables t memory ds → (p : ℕ) → delay_of t < p → p ≤ length taken →
    let register = register_at memory ds (p - 1) in
    let found = found_at memory ds (p - 1) in
    (taken_at taken p).answer
    ≡ Ok (Some (record {
      info = information t.symbols (taken_at taken (p - delay_of t)).block ⊕ information t.symbols (error_of found);
      mark = mark_of (2 ^ (t.symbols - 1)) found register;
    }))

-- 01, "if not, the answer is "nothing yet" and fill grows by one": from any memory, by its fill; from a started one,
-- whose fill is 0, at the first m × (N − 1) taken places.
abbrev pub Waiting : Type 0
Waiting =
    (t : Table) (memory : List ℕ) (ds : List Call) →
    let taken = taken_by memory ds in
    DecoderTables t memory ds → (p : ℕ) → 1 ≤ p → p ≤ length taken → fill_of memory + (p - 1) < delay_of t
    → (taken_at taken p).answer ≡ Ok None
