-- How far the numbers 10, 56 and 30 go (02's 9 bits are fewer). With bursts of at most 11 bits correction and recovery
-- do not hold, whatever the gap. With 55 right bits between they do not hold either, of single wrong bits too. Recovery
-- after 29 right blocks does not hold past place 30, of single wrong bits too. And the end of the guard does not hold
-- past place 20.
--
-- One run refutes each; in all four the coder is started and sends zeros. On a started decoder: 30 right blocks, blocks
-- 4 7 7 7 1, and 18 right ones; and 30 right blocks, block 1, 17 right ones, and block 4. On one with the fill 18, the
-- pending word 2^17 and zeros: 29 right blocks, block 4, and three right ones. On one with the pending word 2^17 + 2^5:
-- 21 right blocks, of which the last delivers what was flipped at the eighteenth.
--
--   IwadareLengthSharp, IwadareGapSharp   correction and recovery fail with one bit more in a burst, and with one
--                                         fewer between
--   IwadareGuardSharp                     recovery fails after one right block fewer
--   IwadareGuardEndSharp                  the end of the guard does not come one place earlier
use Rattle.std.specs.Prelude.{ℕ, ◌≤◌}
use Rattle.iwadare.specs.Correction.{CorrectionWith}
use Rattle.iwadare.specs.Recovery.{guard, RecoveryAfter, GuardEndAfter}

abbrev pub IwadareLengthSharp : Type 0
IwadareLengthSharp = (gap : ℕ) → (CorrectionWith 11 gap → ⊥) × (RecoveryAfter guard guard 11 gap → ⊥)

abbrev pub IwadareGapSharp : Type 0
IwadareGapSharp =
    (long : ℕ) → 1 ≤ long → (CorrectionWith long 55 → ⊥) × (RecoveryAfter guard guard long 55 → ⊥)

-- the claim begins where that of recovery does
abbrev pub IwadareGuardSharp : Type 0
IwadareGuardSharp = (long gap : ℕ) → 1 ≤ long → RecoveryAfter 29 guard long gap → ⊥

abbrev pub IwadareGuardEndSharp : Type 0
IwadareGuardEndSharp = GuardEndAfter 20 → ⊥
