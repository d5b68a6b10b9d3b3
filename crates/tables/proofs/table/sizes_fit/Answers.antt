-- `tables::table::sizes_fit`: the definition's own tests. Assumes nothing.
use mathlib.Core.Path.{refl}
use Rattle.tables.specs.Table.{sizes_fit}
use Rattle.tables.proofs.table.sizes_fit.Goals as goal

pub returns : goal.returns
unfolding sizes_fit
returns c = refl
