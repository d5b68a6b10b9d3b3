-- `tables::read::sizes`: the test of the sizes. Assumes nothing.
use mathlib.Core.Path.{refl}
use Rattle.tables.specs.Format.{fault_of}
use Rattle.tables.proofs.read.sizes.Goals as goal

pub returns-then-not-sizes_fit : goal.returns-then-not-sizes_fit
unfolding fault_of
returns-then-not-sizes_fit c =
    rw (← c.byte.ensures, ← c.byte-2.ensures, ← c.byte-3.ensures, ← c.sizes_fit.ensures, c.if-not-sizes_fit.true) refl

pub returns : goal.returns
returns c =
    rw (← c.byte.ensures, ← c.byte-2.ensures, ← c.byte-3.ensures, ← c.sizes_fit.ensures, c.if-not-sizes_fit.false) refl
