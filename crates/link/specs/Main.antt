-- The door: all that a user of coder and decoder needs to read, each theorem stated in the file that is named. What the
-- functions promise of one call is `Starts`, `Codes` and `Decodes` (`Start`, `Coder`, `Decoder`), and of a batch
-- `Fills` and `FillsPart` (`Batch`).
--
--   Link, LinkLaw   the theorems
use Rattle.link.specs.Calls.{RefusedCalls, TakenCalls}
use Rattle.link.specs.Marks.{MarksLaw}
use Rattle.link.specs.Formed.{StartedFormed}
use Rattle.link.specs.Massey.{ParityLaw, SyndromeErrors, DeliveryLaw, Waiting}
use Rattle.link.specs.Recovery.{RecoveryLaw, RecoveryShortGuard}
use Rattle.link.specs.Guard.{GuardEnd}
use Rattle.link.specs.Clean.{CleanLaw, CleanMarks, StartedClean}
use Rattle.link.specs.Batches.{Shorter, BatchRun, RecoveryBatches, GuardEndBatches}
use Rattle.link.specs.Sums.{NoneRefusedLaw, CodedFormsAdd, RawTermsAdd, DeliveriesNeedNotAdd}
use Rattle.link.specs.Reach.{ImpulseResponse, OneBitReach}

pub record Link : Type 0 where
  -- demand 1: a refused call leaves every lent word as it was, and where no reason applies a call is not refused
  pub refused_calls : RefusedCalls
  pub taken_calls : TakenCalls
  -- demand 2: the parity is Massey's eq. 1, the syndrome his eq. 3; what is delivered, and what its mark tells
  pub parity : ParityLaw
  pub syndrome : SyndromeErrors
  pub waiting : Waiting
  pub delivery : DeliveryLaw
  pub marks : MarksLaw
  -- demand 3: after a fade, of any well-formed memories; what the last m calls of the guard answer (02, CR 4); recovery
  -- again, of the same places, after 2 × m fewer right blocks; and of started memories, where no guard is needed, and
  -- where each mark tells its block's error
  pub recovery : RecoveryLaw
  pub guard_end : GuardEnd
  pub recovery_short_guard : RecoveryShortGuard
  pub clean : CleanLaw
  pub clean_marks : CleanMarks
  pub started_clean : StartedClean
  -- blocks by the batch (02, CR 1): where a batch ends, that it is a run of single calls, and demand 3 and the end of
  -- the guard of any mixture
  pub shorter : Shorter
  pub batch_run : BatchRun
  pub recovery_batches : RecoveryBatches
  pub guard_end_batches : GuardEndBatches
  -- sums of messages (02, CR 7): where no step is refused, and that started memories are among those that it is said
  -- of; coded forms add, and raw terms; deliveries need not; which coded bits one bit changes, and how many
  pub started_formed : StartedFormed
  pub none_refused : NoneRefusedLaw
  pub coded_forms_add : CodedFormsAdd
  pub raw_terms_add : RawTermsAdd
  pub deliveries_need_not_add : DeliveriesNeedNotAdd
  pub impulse_response : ImpulseResponse
  pub one_bit_reach : OneBitReach

abbrev pub LinkLaw : Type 0
LinkLaw = Link
