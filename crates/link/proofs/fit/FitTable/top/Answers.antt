-- `link::fit::FitTable::top`: a one shifted by less than 64 places stays in the word. Assumes nothing.
use mathlib.Core.Path.{◌∙◌}
use Prim.Native.Nat.{◌-◌}
use native.Mathlib.Omega.{arith}
use Rattle.span.proofs.Masks.{weight_fits}
use Rattle.link.proofs.fit.FitTable.top.Goals as goal

pub returns : goal.returns
returns c = c.one_at.ensures ∙ weight_fits (c.args.self.now.span - 1) (omega arith)
