-- Demand 1, of the promises of starts and steps: what a call that is refused answers and leaves, and what is not
-- refused.
--
--   IwadareRefusedCalls   a refused call has the number of the first reason that applies, and leaves every lent word
--                         as it was
--   IwadareTakenCalls     where no reason applies a call is not refused
--   IwadareBelow          a coded block is below 8, and what is delivered below 4
use Rattle.std.specs.Prelude.{Option, ⊤, ◌≡◌, List, ℕ, ◌≤◌, ◌<◌, Ok, Err}
use Rattle.link.specs.declared.refusal.Refusal.{Refusal}
use Rattle.link.specs.declared.refusal.Refusal.TheVariants.{WrongLength}
use Rattle.link.specs.Refusals.{Answer, refusal_number}
use Rattle.link.specs.Memory.{started}
use Rattle.link.specs.Start.{length_fault, StartsWords}
use Rattle.iwadare.specs.Memory.{delayed_bound, received_bound}
use Rattle.iwadare.specs.Refusals.{coder_fault, decoder_fault}
use Rattle.iwadare.specs.Coder.{coded_block, coder_next, Codes}
use Rattle.iwadare.specs.Decoder.{delivered, delivery, decoder_next, Decodes}

abbrev pub IwadareRefusedCalls : Type 0
IwadareRefusedCalls =
    ((words : ℕ) (s : List ℕ) (r : Answer ⊤) (s' : List ℕ) → StartsWords words s r s'
    → (e : Refusal) → r ≡ Err e → (refusal_number e ≡ length_fault words s) × (e ≡ WrongLength) × (s' ≡ s))
    × ((s : List ℕ) (b : ℕ) (r : Answer ℕ) (s' : List ℕ) → Codes s b r s'
    → (e : Refusal) → r ≡ Err e
    → (refusal_number e ≡ coder_fault s b) × (13 ≤ refusal_number e) × (refusal_number e ≤ 15) × (s' ≡ s))
    × ((s : List ℕ) (b : ℕ) (r : Answer (Option ℕ)) (s' : List ℕ) → Decodes s b r s'
    → (e : Refusal) → r ≡ Err e
    → (refusal_number e ≡ decoder_fault s b) × (13 ≤ refusal_number e) × (refusal_number e ≤ 15) × (s' ≡ s))

abbrev pub IwadareTakenCalls : Type 0
IwadareTakenCalls =
    ((words : ℕ) (s : List ℕ) (r : Answer ⊤) (s' : List ℕ) → StartsWords words s r s'
    → length_fault words s ≡ 0 → (r ≡ Ok tt) × (s' ≡ started words))
    × ((s : List ℕ) (b : ℕ) (r : Answer ℕ) (s' : List ℕ) → Codes s b r s'
    → coder_fault s b ≡ 0 → (r ≡ Ok (coded_block s b)) × (s' ≡ coder_next s b))
    × ((s : List ℕ) (b : ℕ) (r : Answer (Option ℕ)) (s' : List ℕ) → Decodes s b r s'
    → decoder_fault s b ≡ 0 → (r ≡ delivery s b) × (s' ≡ decoder_next s b))

abbrev pub IwadareBelow : Type 0
IwadareBelow =
    ((s : List ℕ) (b : ℕ) → coder_fault s b ≡ 0 → coded_block s b < received_bound)
    × ((s : List ℕ) (r : ℕ) → decoder_fault s r ≡ 0 → delivered s r < delayed_bound)
