-- The door: all that a user of tables needs to read, each theorem stated in the file that is named. What the functions
-- promise of one call is `Read`, `Writes` and `Makes` (`Reading`, `Writing`, `Made`).
--
--   Tables, TablesLaw   the theorems
use Rattle.tables.specs.Lent.{LentLaw}
use Rattle.tables.specs.Clash.{FirstClash, NoClash, ClashZero}
use Rattle.tables.specs.Judging.{Judged}
use Rattle.tables.specs.Laws.{ZeroUnfit, FirstApplies, FirstNone}
use Rattle.tables.specs.Reading.{AcceptedSuitable, SuitableAccepted, RefusedRange, RefusedPlace, RefusedNumbers}
use Rattle.tables.specs.Reading.{RefusedUnsuitable, UnsuitableNumbers}
use Rattle.tables.specs.Written.{ParsesExactly}
use Rattle.tables.specs.Writing.{WrittenLength, SoundWritten, ReadsBack, AcceptedBytes, FileSorted, WritesSame}
use Rattle.tables.specs.Triangle.{OurTriangle, MadeLaw, MadeWholeLaw, NestedRows, FillingLaw, Forced, Unique}
use Rattle.tables.specs.Triangle.{NotUnique}

pub record Tables : Type 0 where
  -- a refusal is the first that applies; those of 1 to 9 have their number and a place in the bytes; and 12 applies to
  -- the zero table
  pub first_applies : FirstApplies
  pub first_none : FirstNone
  pub refused_range : RefusedRange
  pub refused_place : RefusedPlace
  pub refused_numbers : RefusedNumbers
  pub zero_unfit : ZeroUnfit
  -- what bytes say: a table, exactly if they are its sizes, its rows in some order, and the end
  pub parses_exactly : ParsesExactly
  -- what is accepted: suitable tables, and all of them; an unsuitable one is refused for 10
  pub accepted_suitable : AcceptedSuitable
  pub suitable_accepted : SuitableAccepted
  pub refused_unsuitable : RefusedUnsuitable
  pub unsuitable_numbers : UnsuitableNumbers
  -- which triple shows it (02, CR 5): the first; none, exactly if the table is suitable; and the judgement of any table
  -- value
  pub first_clash : FirstClash
  pub no_clash : NoClash
  pub clash_zero : ClashZero
  pub judged : Judged
  -- the tables that we make: fit and suitable, of our triangle, where each size extends the one below, and
  -- whose columns are forced one after another
  pub our_triangle : OurTriangle
  pub made : MadeLaw
  pub made_whole : MadeWholeLaw
  pub nested_rows : NestedRows
  pub filling : FillingLaw
  pub forced : Forced
  pub unique : Unique
  pub not_unique : NotUnique
  -- writing (02, CR 2): how many bytes; that a suitable table is written; that it reads back; that bytes tell tables
  -- apart; and that an accepted file comes back with its rows sorted
  pub written_length : WrittenLength
  pub sound_written : SoundWritten
  pub reads_back : ReadsBack
  pub accepted_bytes : AcceptedBytes
  pub file_sorted : FileSorted
  -- rows past n − 1 do not matter to writing; and rows that are lent beside a table
  pub writes_same : WritesSame
  pub lent_rows : LentLaw

abbrev pub TablesLaw : Type 0
TablesLaw = Tables
