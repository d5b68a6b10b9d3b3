-- Beyond 02: after a fade of any length these stations recover by themselves, as ours do. 18 right blocks make the two
-- pending words the same, since what differed has left them; 12 more leave no term of the syndrome. (001, 21.2.2: "if a
-- decoding error is followed by n[m + (λ + 2)n − 1] − 1 error-free bits, the syndrome will be cleared and error
-- propagation terminated"; that is 95 bits here, and 30 blocks have 90.)
--
--   guard                18 + 12
--   RightFirst right sent taken   places 1 to `right` are right
--   RecoveryAfter right past long gap   past place `past` every delivery is right, if the first `right` blocks are, and
--                        bursts keep to the rule
--   IwadareRecovery      from any memories, after the guard, every delivery is right while bursts keep to the rule
--   guard_end_at         21
--   GuardEndAfter past   while all blocks are right, so is every delivery past that place
--   IwadareGuardEnd      from place 22 on
use Rattle.std.specs.Prelude.{◌≡◌, List, ℕ, ◌+◌, ◌≤◌, ◌<◌, length}
use Rattle.iwadare.specs.Runs.{Sent, Taken, sent_by, taken_by, sent_at, taken_at}
use Rattle.iwadare.specs.Correction.{BitBursts, Corrected}

abbrev pub guard : ℕ
guard = 18 + 12

abbrev pub RightFirst : ℕ → List Sent → List Taken → Type 0
RightFirst right sent taken =
    (p : ℕ) → 1 ≤ p → p ≤ right → p ≤ length taken → (taken_at taken p).block ≡ (sent_at sent p).block

-- Nothing is asked of the memories: from one that is not well-formed no step is taken, and a refused one leaves it as
-- it was (`Formed` says which are). Coder and decoder need not have been started, nor together.
abbrev pub RecoveryAfter : ℕ → ℕ → ℕ → ℕ → Type 0
RecoveryAfter right past long gap =
    (coder decoder bs rs : List ℕ) →
    let sent = sent_by coder bs in
    let taken = taken_by decoder rs in
    length taken ≤ length sent → RightFirst right sent taken → BitBursts long gap sent taken
    → (p : ℕ) → past < p → p ≤ length taken → Corrected sent taken p

abbrev pub IwadareRecovery : Type 0
IwadareRecovery = RecoveryAfter guard guard 10 56

-- No flip comes past place 18, and a block may be flipped 15 places after its own: so block 4 and those after it are
-- delivered as they were received.
abbrev pub guard_end_at : ℕ
guard_end_at = 21

abbrev pub GuardEndAfter : ℕ → Type 0
GuardEndAfter past =
    (coder decoder bs rs : List ℕ) →
    let sent = sent_by coder bs in
    let taken = taken_by decoder rs in
    length taken ≤ length sent
    → (p : ℕ) → past < p → p ≤ length taken → RightFirst p sent taken → Corrected sent taken p

abbrev pub IwadareGuardEnd : Type 0
IwadareGuardEnd = GuardEndAfter guard_end_at
