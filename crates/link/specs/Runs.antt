-- Runs of steps: each step gets the memory as the last left it (01, "After a fade").
--
--   CallOf T, Call         what a step is handed: a table, or what stands for it, and a block
--   Sent, Taken            what is kept of a coder step, and of a decoder step, that is not refused
--   sent_of, taken_of      the same of an answer; nothing of a refusal
--   run memory kept s cs   what is kept of the calls cs, in order, from the memory s on
--   sent_by s cs, taken_by s ds   of the calls of `code` and of `decode`
--   ran memory s cs        the memory after all the calls
--   coder_after s cs, decoder_after s ds   that of the coder and that of the decoder
--   placed fault entry     something told of each step that is not refused
--   sent_at xs p, taken_at xs p   entry p of such a list, counted from 1; past its end none_sent and none_taken
--   CoderTables, DecoderTables   each step that is not refused uses a table that is the same as t
--   RefusedSkipped         a run with a refused call in it is the run without it
--   RunAppend              a run over two lists is one over the first, and then one over the second from the memory
--                          after it
use Rattle.link.specs.declared.decode.Delivered.{Delivered}
use Rattle.std.specs.Prelude.{Option, ◌≡◌, cond, ◌≢◌, List, [], ◌∷◌, ◌++◌, ℕ, ◌-◌, ◌≤◌, eqb, length, get_or, Some, None, Ok}
use Rattle.std.specs.Prelude.{Err}
use Rattle.tables.specs.declared.table.Table.{Table}
use Rattle.tables.specs.Table.{zero_table, SameTable}
use Rattle.link.specs.Refusals.{Answer, coder_fault, decoder_fault}
use Rattle.link.specs.Coder.{code_answer, code_memory}
use Rattle.link.specs.Decoder.{decode_answer, decode_memory}

-- stations whose code is fixed have no table: they are handed nothing in its place
pub record CallOf (T : Type 0) : Type 0 where
  pub table : T
  pub block : ℕ

abbrev pub Call : Type 0
Call = CallOf Table

-- "Sent block p is the answer of the p-th coder step that is not refused; the information sent in it is what that step
-- was handed."
pub record Sent : Type 0 where
  pub table : Table
  pub info : ℕ
  pub block : ℕ

abbrev pub sent_of : Table → ℕ → Answer ℕ → List Sent
sent_of t b (Ok c) = record { table = t; info = b; block = c } ∷ []
sent_of t b (Err e) = []

-- "Taken block p is what the p-th decoder step that is not refused was handed."
pub record Taken : Type 0 where
  pub table : Table
  pub block : ℕ
  pub answer : Answer (Option Delivered)

abbrev pub taken_of : Table → ℕ → Answer (Option Delivered) → List Taken
taken_of t r (Ok (Some d)) = record { table = t; block = r; answer = Ok (Some d) } ∷ []
taken_of t r (Ok None) = record { table = t; block = r; answer = Ok None } ∷ []
taken_of t r (Err e) = []

-- "Each step gets the memory as the last left it, nothing else writes it". "A refused step may stand anywhere in either
-- list, whatever it is refused for. It has no place in the count."
unfoldable pub run : {T X : Type 0} (memory : T → List ℕ → ℕ → List ℕ) (kept : T → List ℕ → ℕ → List X)
    → List ℕ → List (CallOf T) → List X
run memory kept s [] = []
run memory kept s (c ∷ cs) = kept c.table s c.block ++ run memory kept (memory c.table s c.block) cs

-- answer and memory are those that `code` and `decode` promise (`Codes`, `Decodes`)
abbrev pub sent_by : List ℕ → List Call → List Sent
sent_by = run code_memory (λ t s b. sent_of t b (code_answer t s b))

abbrev pub taken_by : List ℕ → List Call → List Taken
taken_by = run decode_memory (λ t s r. taken_of t r (decode_answer t s r))

unfoldable pub ran : {T : Type 0} (memory : T → List ℕ → ℕ → List ℕ) → List ℕ → List (CallOf T) → List ℕ
ran memory s [] = s
ran memory s (c ∷ cs) = ran memory (memory c.table s c.block) cs

abbrev pub coder_after : List ℕ → List Call → List ℕ
coder_after = ran code_memory

abbrev pub decoder_after : List ℕ → List Call → List ℕ
decoder_after = ran decode_memory

abbrev pub placed : {T X : Type 0} → (T → List ℕ → ℕ → ℕ) → (T → List ℕ → ℕ → X)
    → T → List ℕ → ℕ → List X
placed fault entry t s b = cond (eqb (fault t s b) 0) (entry t s b ∷ []) []

-- past the end of a list
abbrev pub none_sent : Sent
none_sent = record { table = zero_table; info = 0; block = 0 }

abbrev pub none_taken : Taken
none_taken = record { table = zero_table; block = 0; answer = Ok None }

-- "Both lists count from 1"
abbrev pub sent_at : List Sent → ℕ → Sent
sent_at xs p = get_or xs (p - 1) none_sent

abbrev pub taken_at : List Taken → ℕ → Taken
taken_at xs p = get_or xs (p - 1) none_taken

-- "each step that is not refused uses the decoder's table"
abbrev pub CoderTables : Table → List ℕ → List Call → Type 0
CoderTables t s cs = (p : ℕ) → 1 ≤ p → p ≤ length (sent_by s cs) → SameTable (sent_at (sent_by s cs) p).table t

abbrev pub DecoderTables : Table → List ℕ → List Call → Type 0
DecoderTables t s ds = (p : ℕ) → 1 ≤ p → p ≤ length (taken_by s ds) → SameTable (taken_at (taken_by s ds) p).table t

abbrev pub RunAppend : Type 1
RunAppend =
    (T X : Type 0) (memory : T → List ℕ → ℕ → List ℕ) (kept : T → List ℕ → ℕ → List X) (s : List ℕ)
    (cs cs' : List (CallOf T))
    → (run memory kept s (cs ++ cs') ≡ run memory kept s cs ++ run memory kept (ran memory s cs) cs')
    × (ran memory s (cs ++ cs') ≡ ran memory (ran memory s cs) cs')

-- "It writes no lent word, so a sequence goes on as if the call had not come."
abbrev pub RefusedSkipped : Type 0
RefusedSkipped =
    (s : List ℕ) (cs : List Call) (c : Call) (cs' : List Call)
    → (coder_fault c.table (coder_after s cs) c.block ≢ 0
    → (sent_by s (cs ++ (c ∷ cs')) ≡ sent_by s (cs ++ cs')) × (coder_after s (cs ++ (c ∷ cs')) ≡ coder_after s (cs ++ cs')))
    × (decoder_fault c.table (decoder_after s cs) c.block ≢ 0
    → (taken_by s (cs ++ (c ∷ cs')) ≡ taken_by s (cs ++ cs'))
    × (decoder_after s (cs ++ (c ∷ cs')) ≡ decoder_after s (cs ++ cs')))
