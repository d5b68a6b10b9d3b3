-- The door: each theorem is proved in the file that is named. Assumes nothing.
use Rattle.link.specs.Main.{LinkLaw}
use Rattle.link.proofs.Calls.{refused_calls, taken_calls}
use Rattle.link.proofs.Marks.{marks}
use Rattle.link.proofs.Formed.{started_formed}
use Rattle.link.proofs.Massey.{parity, syndrome_errors, deliveries, waiting}
use Rattle.link.proofs.Recovery.{recovery, recovery_short_guard}
use Rattle.link.proofs.Guard.{guard_end}
use Rattle.link.proofs.Clean.{clean, clean_marks, started_clean}
use Rattle.link.proofs.Batches.{shorter, batch_run, recovery_batches, guard_end_batches}
use Rattle.link.proofs.Taken.{none_refused}
use Rattle.link.proofs.Sums.{coded_forms_add, raw_terms_add, deliveries_need_not_add}
use Rattle.link.proofs.Reach.{impulse_response, one_bit_reach}

pub link : LinkLaw
link = record {
  refused_calls = refused_calls;
  taken_calls = taken_calls;
  parity = parity;
  syndrome = syndrome_errors;
  waiting = waiting;
  delivery = deliveries;
  marks = marks;
  recovery = recovery;
  guard_end = guard_end;
  recovery_short_guard = recovery_short_guard;
  clean = clean;
  clean_marks = clean_marks;
  started_clean = started_clean;
  shorter = shorter;
  batch_run = batch_run;
  recovery_batches = recovery_batches;
  guard_end_batches = guard_end_batches;
  started_formed = started_formed;
  none_refused = none_refused;
  coded_forms_add = coded_forms_add;
  raw_terms_add = raw_terms_add;
  deliveries_need_not_add = deliveries_need_not_add;
  impulse_response = impulse_response;
  one_bit_reach = one_bit_reach;
}
