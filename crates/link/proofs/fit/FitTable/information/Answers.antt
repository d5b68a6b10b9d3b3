-- `link::fit::FitTable::information`: the block below its parity symbol. Assumes nothing.
use Prim.Native.Nat.{◌-◌}
use native.Mathlib.Omega.{arith}
use Rattle.span.proofs.Masks.{masked_low}
use Rattle.link.proofs.fit.FitTable.information.Goals as goal

pub returns : goal.returns
returns c = let a = c.args in masked_low (a.self.now.symbols - 1) _ a.block (omega arith) c.mask.ensures
