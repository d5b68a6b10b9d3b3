-- `export::table::sizes_of`: three numbers. Assumes nothing.
use mathlib.Core.Path.{refl}
use Rattle.export.specs.Numbers.{sizes_of}
use Rattle.export.proofs.table.sizes_of.Goals as goal

pub returns : goal.returns
unfolding sizes_of
returns c = refl
