-- 02, CR 6: "Both symbols of a block are delivered together, without a mark, when the eighteenth block after it is
-- taken; before that the answer is "nothing yet"." Which block a delivery is of, over runs from any memory.
--
--   register_at s rs p   the 13 terms of the step at place p, counted from 1
--   IwadareWaiting       until the fill is complete nothing is delivered
--   IwadareDelivery      past the eighteenth place the block 18 back is delivered as received, with its two flips
use Rattle.std.specs.Prelude.{◌≡◌, List, ℕ, ◌+◌, ◌-◌, ◌≤◌, ◌<◌, length, get_or, Some, None, Ok}
use Rattle.span.specs.Word.{◌⊕◌, sel}
use Rattle.link.specs.Step.{information}
use Rattle.link.specs.Runs.{run, placed}
use Rattle.iwadare.specs.Memory.{delay, fill_of}
use Rattle.iwadare.specs.Refusals.{decoder_fault}
use Rattle.iwadare.specs.Decoder.{register_of, flips_symbol1, flips_symbol0, decode_memory}
use Rattle.iwadare.specs.Runs.{handed, taken_by, taken_at}

abbrev pub register_at : List ℕ → List ℕ → ℕ → ℕ
register_at s rs p =
    get_or (run (λ none. decode_memory) (placed (λ none. decoder_fault) (λ none. register_of)) s (handed rs)) (p - 1) 0

-- from any memory, by its fill; from a started one, whose fill is 0, at the first 18 taken places
abbrev pub IwadareWaiting : Type 0
IwadareWaiting =
    (memory rs : List ℕ) →
    let taken = taken_by memory rs in
    (p : ℕ) → 1 ≤ p → p ≤ length taken → fill_of memory + (p - 1) < delay → (taken_at taken p).answer ≡ Ok None

-- "Symbol 1 of the block 15 back is flipped", which for the block taken at place p − 18 is at place p − 3; "Symbol 0 of
-- the block 18 back" at place p itself.
abbrev pub IwadareDelivery : Type 0
IwadareDelivery =
    (memory rs : List ℕ) →
    let taken = taken_by memory rs in
    (p : ℕ) → delay < p → p ≤ length taken
    → (taken_at taken p).answer
    ≡ Ok (Some
    (information 3 (taken_at taken (p - delay)).block ⊕ sel (flips_symbol1 (register_at memory rs (p - 3))) 2
    ⊕ sel (flips_symbol0 (register_at memory rs p)) 1))
