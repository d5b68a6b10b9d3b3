-- The door: each theorem is proved in the file that is named. Assumes nothing.
use Rattle.iwadare.specs.Main.{IwadareLaw}
use Rattle.iwadare.proofs.Calls.{refused_calls, taken_calls}
use Rattle.iwadare.proofs.Runs.{refused_skipped}
use Rattle.iwadare.proofs.Formed.{started_formed, formed_steps, formed_throughout}
use Rattle.iwadare.proofs.Taps.{parities, syndromes, syndrome_errors}
use Rattle.iwadare.proofs.Delivery.{waiting, deliveries}
use Rattle.iwadare.proofs.Correction.{correction, correction_ten}
use Rattle.iwadare.proofs.Recovery.{recovery, guard_end}

pub iwadare : IwadareLaw
iwadare = record {
  refused_calls = refused_calls;
  taken_calls = taken_calls;
  refused_skipped = refused_skipped;
  started_formed = started_formed;
  formed_steps = formed_steps;
  formed_throughout = formed_throughout;
  parity = parities;
  syndrome = syndromes;
  syndrome_errors = syndrome_errors;
  waiting = waiting;
  delivery = deliveries;
  correction = correction;
  correction_ten = correction_ten;
  recovery = recovery;
  guard_end = guard_end;
}
