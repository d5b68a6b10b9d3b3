-- The door: each theorem is proved in the file that is named. Assumes nothing.
use Rattle.load.specs.Main.{TestLoadLaw}
use Rattle.load.proofs.Draws.{never_zero}
use Rattle.load.proofs.Load.{load_length, load_rounds, load_cut, load_below}
use Rattle.load.proofs.Filling.{load_calls, load_rows}
use Rattle.load.proofs.Corrected.{load_received, load_corrected, disturbed_message}
use Rattle.load.proofs.Examples.{first_draw, first_blocks_lem}

pub test-load : TestLoadLaw
test-load = record {
  load_calls = load_calls;
  load_rows = load_rows;
  never_zero = never_zero;
  load_length = load_length;
  load_rounds = load_rounds;
  load_cut = load_cut;
  load_below = load_below;
  load_received = load_received;
  load_corrected = load_corrected;
  disturbed_message = disturbed_message;
  first_draw = first_draw;
  first_blocks_lem = first_blocks_lem;
}
