-- `tables::read::Kind::size`: the cases of the definition. Assumes nothing.
use mathlib.Core.Path.{refl}
use Rattle.tables.specs.Format.{size}
use Rattle.tables.proofs.read.Kind.size.Goals as goal

pub returns-in-End : goal.returns-in-End
unfolding size
returns-in-End c = rw c.in-End.is refl

pub returns-in-Sizes : goal.returns-in-Sizes
unfolding size
returns-in-Sizes c = rw c.in-Sizes.is refl

pub returns-in-Row : goal.returns-in-Row
unfolding size
returns-in-Row c = rw c.in-Row.is refl
