-- How far 01's numbers go: recovery fails with guard and begin of the claim both one place less, with a gap one place
-- less, and with bursts one place longer. The guard alone may be 2 × m places less (`RecoveryShortGuard`), and fails
-- with one less than that. The last m places of the whole guard are right and marked clean or parity (`GuardEnd`); the
-- place before them may be marked otherwise. Runs on Z (n = 2, N = 4, row 10, m = 1; m × (N − 1) is 3), the coder
-- started and sending zeros, show it: at place 6, after five right ones, a mark is doubtful; with the gap, the length
-- and the short guard wrong information is delivered; and at place 5 of a guard of six a mark is held. All else is as
-- recovery asks for it.
--
--   RecoveryAfter right past long gap   recovery with other numbers in place of 01's: guard, the last place before the
--                                       claim, length of a burst and gap
--   RecoveryWith right long gap the claim begins where the guard ends
--   GuardSharp, GapSharp, LengthSharp   it fails with one of the three replaced by the next one; claim and guard
--                                       move together
--   ShortGuardSharp, GuardEndSharp     the short guard and the end of the guard fail with one place less
use Rattle.std.specs.Prelude.{ℕ, ◌+◌, ◌-◌, ◌*◌, ◌≤◌, ◌<◌, List, length}
use Rattle.tables.specs.declared.table.Table.{Table}
use Rattle.link.specs.Memory.{delay_of}
use Rattle.link.specs.Runs.{Call, sent_by, taken_by}
use Rattle.link.specs.Recovery.{FadesWith, Recovered, short_guard}
use Rattle.link.specs.Guard.{GuardEndAfter}

-- Each number is told of a table.
abbrev pub RecoveryAfter : (Table → ℕ) → (Table → ℕ) → (Table → ℕ) → (Table → ℕ) → Type 0
RecoveryAfter right past long gap =
    (t : Table) (coder decoder : List ℕ) (cs ds : List Call)
    → FadesWith (right t) (long t) (gap t) t coder decoder cs ds
    → (p : ℕ) → past t < p → p ≤ length (taken_by decoder ds)
    → Recovered (sent_by coder cs) (taken_by decoder ds) (delay_of t) p

abbrev pub RecoveryWith : (Table → ℕ) → (Table → ℕ) → (Table → ℕ) → Type 0
RecoveryWith right long gap = RecoveryAfter right right long gap

abbrev pub GuardSharp : Type 0
GuardSharp = RecoveryWith (λ t. 2 * delay_of t - 1) (λ t. t.depth) (λ t. delay_of t) → ⊥

abbrev pub GapSharp : Type 0
GapSharp = RecoveryWith (λ t. 2 * delay_of t) (λ t. t.depth) (λ t. delay_of t - 1) → ⊥

abbrev pub LengthSharp : Type 0
LengthSharp = RecoveryWith (λ t. 2 * delay_of t) (λ t. t.depth + 1) (λ t. delay_of t) → ⊥

-- the claim of RecoveryLaw, after one right place less than RecoveryShortGuard asks for
abbrev pub ShortGuardSharp : Type 0
ShortGuardSharp = RecoveryAfter (λ t. short_guard t - 1) (λ t. 2 * delay_of t) (λ t. t.depth) (λ t. delay_of t) → ⊥

-- T12's fifth call
abbrev pub GuardEndSharp : Type 0
GuardEndSharp = GuardEndAfter (λ t. 2 * delay_of t - t.depth - 1) → ⊥
