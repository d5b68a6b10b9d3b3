-- The door: all that a user of loads needs to read, each theorem stated in the file that is named. What the functions
-- promise of one call is `drawn` and `Loads` (`Draws`, `Filling`).
--
--   TestLoad, TestLoadLaw   the theorems
use Rattle.load.specs.Draws.{NeverZero}
use Rattle.load.specs.Load.{LoadLength, LoadRounds, LoadCut, LoadBelow}
use Rattle.load.specs.Filling.{LoadCalls, LoadRows}
use Rattle.load.specs.Corrected.{LoadCorrected, LoadReceived, DisturbedMessage}
use Rattle.load.specs.Examples.{FirstDraw, FirstBlocks}

pub record TestLoad : Type 0 where
  -- a refusal leaves the lent blocks, and where no reason applies they are filled; the rows of a table count for 12
  -- only; from a state that is not 0 no draw leads to 0
  pub load_calls : LoadCalls
  pub load_rows : LoadRows
  pub never_zero : NeverZero
  -- a load has the length that is asked for, and is round after round, cut there; a shorter one is the beginning of a
  -- longer one; its blocks are below 2^n
  pub load_length : LoadLength
  pub load_rounds : LoadRounds
  pub load_cut : LoadCut
  pub load_below : LoadBelow
  -- it is zeros as received, and is corrected completely, its blocks told by the marks; so are its errors on any
  -- message
  pub load_received : LoadReceived
  pub load_corrected : LoadCorrected
  pub disturbed_message : DisturbedMessage
  -- what seed 1 draws first, and the first blocks of its load of a small table
  pub first_draw : FirstDraw
  pub first_blocks_lem : FirstBlocks

abbrev pub TestLoadLaw : Type 0
TestLoadLaw = TestLoad
