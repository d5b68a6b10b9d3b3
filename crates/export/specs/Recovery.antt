-- Demand 3 and the end of the guard as C sees them (01, "After a fade"; 02, CR 4). `burst_code` is called on one
-- memory, `burst_decode` on another, again and again. What is claimed is claimed of the structs that they answer. With
-- batches mixed in, `RecoveryBatches` of `link` has it, of the entries.
--
--   Called A           a call: what it is handed, the struct of type A that it answers, and what it leaves
--   CodeCall, DecodeCall   one of `burst_code`, and one of `burst_decode`
--   Chain promises s cs   each of the calls cs keeps its promise, the first on the memory s, the next on what it left
--   CodeCalls, DecodeCalls   chains of `burst_code`, and of `burst_decode`
--   handed cs          the tables and blocks that the calls are handed
--   unrefused number cs   the calls whose answer has refusal number 0
--   sent_calls, taken_calls   those of a coder, and of a decoder
--   SentTold          a coder's are 01's sent blocks, in order
--   TakenTold         a decoder's are 01's taken blocks, and their structs the numbers of those answers
--   info_at cs p, answer_at ds p   the information handed to the p-th of the one, and the struct of the p-th of the other
--   RecoveryTold      demand 3
--   GuardEndTold     the end of the guard
--   Chained            for any tables and blocks some chain of calls is handed exactly these
--   OriginTold        the tables that `burst_read` and `burst_make` give back are those that demand 3 is about
use Rattle.std.specs.Prelude.{◌≡◌, cond, ◌≢◌, ◌⊎◌, List, [], ◌∷◌, map, ℕ, ◌-◌, ◌*◌, ◌^◌, ◌≤◌, ◌<◌, eqb, length, get_or}
use Rattle.tables.specs.declared.table.Table.{Table}
use Rattle.link.specs.Memory.{delay_of}
use Rattle.link.specs.Decoder.{decode_numbers}
use Rattle.link.specs.Runs.{Call, sent_by, taken_by}
use Rattle.link.specs.Recovery.{Origin, Fades}
use Rattle.export.specs.declared.reading.BurstReading.{BurstReading}
use Rattle.export.specs.declared.coded.BurstCoded.{BurstCoded}
use Rattle.export.specs.declared.decoded.BurstDecoded.{BurstDecoded}
use Rattle.export.specs.Numbers.{table_of}
use Rattle.export.specs.Answers.{decoded_of}
use Rattle.export.specs.Promises.{Reads, MakesTable, CodesBy, DecodesBy}

pub record Called (A : Type 0) : Type 0 where
  -- the numbers of a table, and a block
  pub numbers : List ℕ
  pub block : ℕ
  pub answer : A
  -- the memory after the call
  pub after : List ℕ

abbrev pub CodeCall : Type 0
CodeCall = Called BurstCoded

abbrev pub DecodeCall : Type 0
DecodeCall = Called BurstDecoded

-- "Each step gets the memory as the last left it, nothing else writes it"
abbrev pub Chain : {A : Type 0} → (Table → List ℕ → ℕ → A → List ℕ → Type 0) → List ℕ → List (Called A) → Type 0
Chain promises s [] = Unit {0}
Chain promises s (c ∷ cs) =
    promises (table_of c.numbers) s c.block c.answer c.after × Chain promises c.after cs

-- what the two functions promise of each call (`Promises`)
abbrev pub CodeCalls : List ℕ → List CodeCall → Type 0
CodeCalls = Chain CodesBy

abbrev pub DecodeCalls : List ℕ → List DecodeCall → Type 0
DecodeCalls = Chain DecodesBy

abbrev pub handed : {A : Type 0} → List (Called A) → List Call
handed [] = []
handed (c ∷ cs) = record { table = table_of c.numbers; block = c.block } ∷ handed cs

-- "A refused step may stand anywhere in either list, whatever it is refused for. It has no place in the count."
unfoldable pub unrefused : {A : Type 0} → (A → ℕ) → List (Called A) → List (Called A)
unrefused number [] = []
unrefused number (c ∷ cs) = cond (eqb (number c.answer) 0) (c ∷ unrefused number cs) (unrefused number cs)

abbrev pub sent_calls : List CodeCall → List CodeCall
sent_calls = unrefused (λ (a : BurstCoded). a.refused)

abbrev pub taken_calls : List DecodeCall → List DecodeCall
taken_calls = unrefused (λ (a : BurstDecoded). a.refused)

-- "Sent block p is the answer of the p-th coder step that is not refused; the information sent in it is what that step
-- was handed."
abbrev pub SentTold : Type 0
SentTold =
    (s : List ℕ) (cs : List CodeCall) → CodeCalls s cs
    → sent_by s (handed cs)
    ≡ map (λ c. record { table = table_of c.numbers; info = c.block; block = c.answer.block }) (sent_calls cs)

-- "Taken block p is what the p-th decoder step that is not refused was handed."
abbrev pub TakenTold : Type 0
TakenTold =
    (s : List ℕ) (ds : List DecodeCall) → DecodeCalls s ds →
    let taken = taken_by s (handed ds) in
    (map (λ x. x.table) taken ≡ map (λ d. table_of d.numbers) (taken_calls ds))
    × (map (λ x. x.block) taken ≡ map (λ d. d.block) (taken_calls ds))
    × (map (λ x. decoded_of (decode_numbers x.answer)) taken ≡ map (λ d. d.answer) (taken_calls ds))

-- "Both lists count from 1"; past the end zeros
abbrev pub info_at : List CodeCall → ℕ → ℕ
info_at cs p = get_or (map (λ c. c.block) (sent_calls cs)) (p - 1) 0

abbrev pub answer_at : List DecodeCall → ℕ → BurstDecoded
answer_at ds p = get_or (map (λ d. d.answer) (taken_calls ds)) (p - 1) (decoded_of [])

-- "Then for each p above 2 × m × (N − 1) at which a block is taken, that step's answer is a record whose information
-- equals the information sent in block p − m × (N − 1), with a mark other than doubtful": marks have the numbers 1 to
-- 5, 4 is doubtful, and 0 would be nothing yet. The premises are 01's (`Fades`).
abbrev pub RecoveryTold : Type 0
RecoveryTold =
    (t : Table) (coder decoder : List ℕ) (cs : List CodeCall) (ds : List DecodeCall)
    → CodeCalls coder cs → DecodeCalls decoder ds → Fades t coder decoder (handed cs) (handed ds)
    → (p : ℕ) → 2 * delay_of t < p → p ≤ length (taken_calls ds) →
    let a = answer_at ds p in
    (a.refused ≡ 0) × (a.info ≡ info_at cs (p - delay_of t)) × (1 ≤ a.mark) × (a.mark ≤ 5) × (a.mark ≢ 4)

-- "in the last m calls that take a block of that guard the information is already right, and the mark is clean or
-- parity": 1, or 5 with the error 2^(n−1)
abbrev pub GuardEndTold : Type 0
GuardEndTold =
    (t : Table) (coder decoder : List ℕ) (cs : List CodeCall) (ds : List DecodeCall)
    → CodeCalls coder cs → DecodeCalls decoder ds → Fades t coder decoder (handed cs) (handed ds)
    → (p : ℕ) → 2 * delay_of t - t.depth < p → p ≤ 2 * delay_of t → p ≤ length (taken_calls ds) →
    let a = answer_at ds p in
    (a.refused ≡ 0) × (a.info ≡ info_at cs (p - delay_of t))
    × (((a.mark ≡ 1) × (a.error ≡ 0)) ⊎ ((a.mark ≡ 5) × (a.error ≡ 2 ^ (t.symbols - 1))))

-- any memory and any tables and blocks, those of the run that meets every premise (`WitnessLaw` of `link`) among them
abbrev pub Chained : Type 0
Chained =
    (s : List ℕ) (cs : List Call)
    → ((ds : List CodeCall) × CodeCalls s ds × (handed ds ≡ cs))
    × ((ds : List DecodeCall) × DecodeCalls s ds × (handed ds ≡ cs))

-- "An accepted table is one that reading returned ..; a made table is one that making returned": each with number 0
abbrev pub OriginTold : Type 0
OriginTold =
    ((bytes : List ℕ) (r : BurstReading) (before after : List ℕ) → Reads bytes r before after → r.refused ≡ 0
    → Origin (table_of after))
    × ((n m : ℕ) (before : List ℕ) (r : ℕ) (after : List ℕ) → MakesTable n m before r after → r ≡ 0
    → Origin (table_of after))
