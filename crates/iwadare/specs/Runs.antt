-- Runs of steps: each step gets the memory as the last left it, and a refused one stands anywhere in the list (01,
-- "After a fade"). A step is handed a block alone, since these stations have no table.
--
--   Sent, Taken         what is kept of a coder step, and of a decoder step, that is not refused
--   sent_of, taken_of   the same of an answer; nothing of a refusal
--   handed blocks       the blocks as calls
--   sent_by s bs, taken_by s rs   what is kept of the steps that are handed these blocks, in order, from the memory s on
--   coder_after s bs, decoder_after s rs   the memory after all of them
--   sent_at xs p, taken_at xs p   entry p of such a list, counted from 1; past its end none_sent and none_taken
--   IwadareRefusedSkipped   a run with a refused step in it is the run without it
--   bit_sent xs q, bit_taken xs q   bit q of what is sent and of what is taken, counted from 1
use Rattle.link.specs.Refusals.{Answer}
use Rattle.std.specs.Prelude.{Option, ◌≡◌, Bool, ◌≢◌, List, [], ◌∷◌, ◌++◌, map, ℕ, ◌+◌, ◌-◌, ◌/◌, ◌%◌, get_or, Some, None, Ok}
use Rattle.std.specs.Prelude.{Err}
use Rattle.span.specs.Word.{bit}
use Rattle.link.specs.Runs.{CallOf, run, ran}
use Rattle.iwadare.specs.Refusals.{coder_fault, decoder_fault}
use Rattle.iwadare.specs.Coder.{code_answer, code_memory}
use Rattle.iwadare.specs.Decoder.{decode_answer, decode_memory}

pub record Sent : Type 0 where
  pub info : ℕ
  pub block : ℕ

abbrev pub sent_of : ℕ → Answer ℕ → List Sent
sent_of b (Ok c) = record { info = b; block = c } ∷ []
sent_of b (Err e) = []

pub record Taken : Type 0 where
  pub block : ℕ
  pub answer : Answer (Option ℕ)

abbrev pub taken_of : ℕ → Answer (Option ℕ) → List Taken
taken_of r (Ok (Some info)) = record { block = r; answer = Ok (Some info) } ∷ []
taken_of r (Ok None) = record { block = r; answer = Ok None } ∷ []
taken_of r (Err e) = []

-- nothing stands in the table's place
abbrev pub handed : List ℕ → List (CallOf (Unit {0}))
handed blocks = map (λ (b : ℕ). record { table = tt; block = b }) blocks

abbrev pub sent_by : List ℕ → List ℕ → List Sent
sent_by s bs = run (λ none. code_memory) (λ none s b. sent_of b (code_answer s b)) s (handed bs)

abbrev pub taken_by : List ℕ → List ℕ → List Taken
taken_by s rs = run (λ none. decode_memory) (λ none s r. taken_of r (decode_answer s r)) s (handed rs)

abbrev pub coder_after : List ℕ → List ℕ → List ℕ
coder_after s bs = ran (λ none. code_memory) s (handed bs)

abbrev pub decoder_after : List ℕ → List ℕ → List ℕ
decoder_after s rs = ran (λ none. decode_memory) s (handed rs)

abbrev pub none_sent : Sent
none_sent = record { info = 0; block = 0 }

abbrev pub none_taken : Taken
none_taken = record { block = 0; answer = Ok None }

abbrev pub sent_at : List Sent → ℕ → Sent
sent_at xs p = get_or xs (p - 1) none_sent

abbrev pub taken_at : List Taken → ℕ → Taken
taken_at xs p = get_or xs (p - 1) none_taken

-- 01: "It writes no lent word, so a sequence goes on as if the call had not come."
abbrev pub IwadareRefusedSkipped : Type 0
IwadareRefusedSkipped =
    (s bs : List ℕ) (b : ℕ) (bs' : List ℕ)
    → (coder_fault (coder_after s bs) b ≢ 0
    → (sent_by s (bs ++ (b ∷ bs')) ≡ sent_by s (bs ++ bs')) × (coder_after s (bs ++ (b ∷ bs')) ≡ coder_after s (bs ++ bs')))
    × (decoder_fault (decoder_after s bs) b ≢ 0
    → (taken_by s (bs ++ (b ∷ bs')) ≡ taken_by s (bs ++ bs'))
    × (decoder_after s (bs ++ (b ∷ bs')) ≡ decoder_after s (bs ++ bs')))

-- "three symbols, numbered 0 and 1 (information) and 2 (parity), sent in that order": symbol s of block p is bit
-- 3 × (p − 1) + s + 1, so that bit q is symbol (q − 1) mod 3 of block (q − 1) div 3 + 1
abbrev pub bit_sent : List Sent → ℕ → Bool
bit_sent xs q = bit ((q - 1) % 3) (sent_at xs ((q - 1) / 3 + 1)).block

abbrev pub bit_taken : List Taken → ℕ → Bool
bit_taken xs q = bit ((q - 1) % 3) (taken_at xs ((q - 1) / 3 + 1)).block
