-- `load::generator::Generator::draw`: the three shifts. Assumes nothing.
use mathlib.Core.Path.{ap}
use Prim.Native.Nat.{ℕ}
use Rattle.load.specs.declared.generator.Draw.{Draw}
use Rattle.load.proofs.Draws.{draw-code}
use Rattle.load.proofs.generator.Generator.draw.Goals as goal

abbrev told : ℕ → Draw
told x = record { number = x; next = record { state = x } }

pub returns : goal.returns
returns c = ap told (draw-code c.args.self.state)
