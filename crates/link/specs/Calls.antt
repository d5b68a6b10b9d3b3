-- Demand 1, of the promises of starts and steps: what a call that is refused answers and leaves, and what is not
-- refused.
--
--   RefusedCalls   a refused call has the number of the first reason that applies, and leaves every lent word as it
--                  was
--   TakenCalls     where no reason applies a call is not refused
--   MemoryWords    how many words are lent at most
use Rattle.link.specs.declared.decode.Delivered.{Delivered}
use Rattle.std.specs.Prelude.{Option, ⊤, ◌≡◌, true, List, ℕ, ◌≤◌, Ok, Err}
use Rattle.tables.specs.declared.table.Table.{Table}
use Rattle.tables.specs.Table.{fit}
use Rattle.link.specs.Memory.{coder_words, decoder_words, started}
use Rattle.link.specs.declared.refusal.Refusal.{Refusal}
use Rattle.link.specs.Refusals.{Answer, start_fault, coder_fault, decoder_fault, refusal_number}
use Rattle.link.specs.Start.{Starts}
use Rattle.link.specs.Coder.{coded_block, coder_next, Codes}
use Rattle.link.specs.Decoder.{delivery, decoder_next, Decodes}

-- "A refusal returns its number .. It writes no lent word, so a sequence goes on as if the call had not come."
abbrev pub RefusedCalls : Type 0
RefusedCalls =
    ((t : Table) (words : ℕ) (s : List ℕ) (r : Answer ⊤) (s' : List ℕ) → Starts t words s r s'
    → (e : Refusal) → r ≡ Err e
    → (refusal_number e ≡ start_fault t words s) × (12 ≤ refusal_number e) × (refusal_number e ≤ 13) × (s' ≡ s))
    × ((t : Table) (s : List ℕ) (b : ℕ) (r : Answer ℕ) (s' : List ℕ) → Codes t s b r s'
    → (e : Refusal) → r ≡ Err e
    → (refusal_number e ≡ coder_fault t s b) × (12 ≤ refusal_number e) × (refusal_number e ≤ 15) × (s' ≡ s))
    × ((t : Table) (s : List ℕ) (b : ℕ) (r : Answer (Option Delivered)) (s' : List ℕ) → Decodes t s b r s'
    → (e : Refusal) → r ≡ Err e
    → (refusal_number e ≡ decoder_fault t s b) × (12 ≤ refusal_number e) × (refusal_number e ≤ 15) × (s' ≡ s))

-- which shuts out a call "that always declines", one "that writes no word", and one that answers "one constant block"
abbrev pub TakenCalls : Type 0
TakenCalls =
    ((t : Table) (words : ℕ) (s : List ℕ) (r : Answer ⊤) (s' : List ℕ) → Starts t words s r s'
    → start_fault t words s ≡ 0 → (r ≡ Ok tt) × (s' ≡ started words))
    × ((t : Table) (s : List ℕ) (b : ℕ) (r : Answer ℕ) (s' : List ℕ) → Codes t s b r s'
    → coder_fault t s b ≡ 0 → (r ≡ Ok (coded_block t s b)) × (s' ≡ coder_next t s b))
    × ((t : Table) (s : List ℕ) (b : ℕ) (r : Answer (Option Delivered)) (s' : List ℕ) → Decodes t s b r s'
    → decoder_fault t s b ≡ 0 → (r ≡ delivery t s b) × (s' ≡ decoder_next t s b))

-- "1 + m words", "2 + m × (N + 1) words"
abbrev pub MemoryWords : Type 0
MemoryWords = (t : Table) → fit t ≡ true → (coder_words t ≤ 65) × (decoder_words t ≤ 4162)
