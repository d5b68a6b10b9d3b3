-- The door: all that a user of these stations needs to read, each theorem stated in the file that is named. What the
-- functions promise of one call is `StartsWords` of `link`, `Codes` and `Decodes` (`Coder`, `Decoder`).
--
--   Iwadare, IwadareLaw   the theorems
use Rattle.iwadare.specs.Calls.{IwadareRefusedCalls, IwadareTakenCalls}
use Rattle.iwadare.specs.Runs.{IwadareRefusedSkipped}
use Rattle.iwadare.specs.Formed.{IwadareStartedFormed, IwadareFormedSteps, IwadareFormedThroughout}
use Rattle.iwadare.specs.Taps.{IwadareParity, IwadareSyndrome, IwadareSyndromeErrors}
use Rattle.iwadare.specs.Delivery.{IwadareWaiting, IwadareDelivery}
use Rattle.iwadare.specs.Correction.{IwadareCorrection, IwadareCorrectionTen}
use Rattle.iwadare.specs.Recovery.{IwadareRecovery, IwadareGuardEnd}

pub record Iwadare : Type 0 where
  -- a refused call leaves every lent word as it was, and where no reason applies a call is not refused; on a memory
  -- that was started, and then written by steps alone, steps are refused for 15 only
  pub refused_calls : IwadareRefusedCalls
  pub taken_calls : IwadareTakenCalls
  pub refused_skipped : IwadareRefusedSkipped
  pub started_formed : IwadareStartedFormed
  pub formed_steps : IwadareFormedSteps
  pub formed_throughout : IwadareFormedThroughout
  -- the two generators; which block is delivered, and when
  pub parity : IwadareParity
  pub syndrome : IwadareSyndrome
  pub syndrome_errors : IwadareSyndromeErrors
  pub waiting : IwadareWaiting
  pub delivery : IwadareDelivery
  -- what is corrected: 02's 9 bits, and 10; and recovery, from any memories, with the end of its guard
  pub correction : IwadareCorrection
  pub correction_ten : IwadareCorrectionTen
  pub recovery : IwadareRecovery
  pub guard_end : IwadareGuardEnd

abbrev pub IwadareLaw : Type 0
IwadareLaw = Iwadare
