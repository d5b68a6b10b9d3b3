-- The door: each theorem is proved in the file that is named. Assumes nothing.
use Rattle.tables.specs.Main.{TablesLaw}
use Rattle.tables.proofs.Fit.{zero-unfit}
use Rattle.tables.proofs.Lent.{lent_rows}
use Rattle.tables.proofs.Clash.{first-clash, no-clash, clash-zero}
use Rattle.tables.proofs.Judging.{judged}
use Rattle.tables.proofs.Refusal.{first-applies, first-none}
use Rattle.tables.proofs.Reading.{accepted-suitable, suitable-accepted, refused-range, refused-place, refused-numbers}
use Rattle.tables.proofs.Reading.{refused-unsuitable, unsuitable-numbers}
use Rattle.tables.proofs.Written.{parses-exactly}
use Rattle.tables.proofs.Stores.{written-length}
use Rattle.tables.proofs.Writing.{sound-written, reads-back, accepted-bytes, file-sorted, writes-same}
use Rattle.tables.proofs.Made.{our-columns, made, forced, unique, not-unique}
use Rattle.tables.proofs.MadeWhole.{made-whole}
use Rattle.tables.proofs.Filling.{filling}
use Rattle.tables.proofs.Triangle.{nested-rows}

pub tables : TablesLaw
tables = record {
  first_applies = first-applies;
  first_none = first-none;
  refused_range = refused-range;
  refused_place = refused-place;
  refused_numbers = refused-numbers;
  zero_unfit = zero-unfit;
  parses_exactly = parses-exactly;
  accepted_suitable = accepted-suitable;
  suitable_accepted = suitable-accepted;
  refused_unsuitable = refused-unsuitable;
  unsuitable_numbers = unsuitable-numbers;
  first_clash = first-clash;
  no_clash = no-clash;
  clash_zero = clash-zero;
  judged = judged;
  our_triangle = our-columns;
  made = made;
  made_whole = made-whole;
  nested_rows = nested-rows;
  filling = filling;
  forced = forced;
  unique = unique;
  not_unique = not-unique;
  written_length = written-length;
  sound_written = sound-written;
  reads_back = reads-back;
  accepted_bytes = accepted-bytes;
  file_sorted = file-sorted;
  writes_same = writes-same;
  lent_rows = lent_rows;
}
