-- In the guard the syndrome word runs empty, whatever it was: 000, VI. So what its last m calls deliver is right
-- already, and is marked clean or parity. The converse is not said, and does not hold: earlier calls may be marked so
-- too, and that tells nothing. `GuardLaw` and `GuardEndStream` ask nothing of bursts or memories.
--
--   syndrome_entry, syndromes_by s ds   the syndrome word of the turn's stream, before a step and before each step that
--                                     is taken
--   syndrome_at xs p     entry p of such a list, counted from 1
--   GuardLaw             after N − 1 + i right blocks of a stream it is below 2^(N−1−i)
--   Settled t sent taken p   the information delivered is right, and the mark is clean or parity
--   GuardEndAfter past   so every place of the guard after `past` answers
--   GuardEnd             so its last m places answer
--   GuardEndStream       so any place answers that ends 2 × (N − 1) right blocks of its stream
use Rattle.std.specs.Prelude.{◌≡◌, ◌⊎◌, ℕ, ◌+◌, ◌-◌, ◌*◌, ◌^◌, ◌≤◌, ◌<◌, List, length, get_or, Some, Ok}
use Rattle.tables.specs.declared.table.Table.{Table}
use Rattle.link.specs.declared.decode.Mark.{Mark}
use Rattle.link.specs.declared.decode.Mark.TheVariants.{Clean, Parity}
use Rattle.link.specs.Memory.{turn_of, syndrome_of, delay_of}
use Rattle.link.specs.Refusals.{decoder_fault}
use Rattle.link.specs.Decoder.{decode_memory}
use Rattle.link.specs.Runs.{Call, Sent, Taken, run, sent_by, taken_by, sent_at, taken_at, placed}
use Rattle.link.specs.Recovery.{Right, Running, Fades}

abbrev pub syndrome_entry : Table → List ℕ → ℕ → ℕ
syndrome_entry t s r = syndrome_of t s (turn_of s)

abbrev pub syndromes_by : List ℕ → List Call → List ℕ
syndromes_by = run decode_memory (placed decoder_fault syndrome_entry)

abbrev pub syndrome_at : List ℕ → ℕ → ℕ
syndrome_at xs p = get_or xs (p - 1) 0

-- The blocks of place p's stream before it stand at p − m, p − 2m and so on; the last N − 1 + i of them are right.
-- Massey's case is i = N − 1: "it follows .. that any error digit affects the syndrome sequence for at most N − 1 time
-- units following the error", and "2g consecutive error-free blocks are always sufficient". The word is halved or
-- cleared on the way, and either serves.
abbrev pub GuardLaw : Type 0
GuardLaw =
    (t : Table) (coder decoder : List ℕ) (cs ds : List Call) → Running t coder decoder cs ds
    → (p i : ℕ) → i ≤ t.span - 1 → (t.span - 1 + i) * t.depth < p → p ≤ length (taken_by decoder ds)
    → ((k : ℕ) → 1 ≤ k → k ≤ t.span - 1 + i → Right (sent_by coder cs) (taken_by decoder ds) (p - k * t.depth))
    → syndrome_at (syndromes_by decoder ds) p < 2 ^ (t.span - 1 - i)

-- "the information is already right, and the mark is clean or parity": it is that sent in block p − m × (N − 1)
abbrev pub Settled : Table → List Sent → List Taken → ℕ → Type 0
Settled t sent taken p =
    (mark : Mark)
    × ((taken_at taken p).answer ≡ Ok (Some (record { info = (sent_at sent (p - delay_of t)).info; mark = mark })))
    × ((mark ≡ Clean) ⊎ (mark ≡ Parity (2 ^ (t.symbols - 1))))

-- "under demand 3's premises, the user who waited out the double guard (its first 2 × m × (N − 1) blocks)"
abbrev pub GuardEndAfter : (Table → ℕ) → Type 0
GuardEndAfter past =
    (t : Table) (coder decoder : List ℕ) (cs ds : List Call) → Fades t coder decoder cs ds
    → (p : ℕ) → past t < p → p ≤ 2 * delay_of t → p ≤ length (taken_by decoder ds)
    → Settled t (sent_by coder cs) (taken_by decoder ds) p

-- 02, CR 4: "in the last m calls that take a block of that guard"
abbrev pub GuardEnd : Type 0
GuardEnd = GuardEndAfter (λ t. 2 * delay_of t - t.depth)

-- Stronger: at any place of a run that ends 2 × (N − 1) right blocks of its own stream. Nothing is asked of the blocks
-- after it (the run may end there), of those before them, of other streams, or of the memories.
abbrev pub GuardEndStream : Type 0
GuardEndStream =
    (t : Table) (coder decoder : List ℕ) (cs ds : List Call) → Running t coder decoder cs ds
    → (p : ℕ) → (2 * (t.span - 1) - 1) * t.depth < p → p ≤ length (taken_by decoder ds)
    → ((k : ℕ) → k < 2 * (t.span - 1) → Right (sent_by coder cs) (taken_by decoder ds) (p - k * t.depth))
    → Settled t (sent_by coder cs) (taken_by decoder ds) p
