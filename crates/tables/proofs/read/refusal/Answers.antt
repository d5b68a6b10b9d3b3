-- `tables::read::refusal`: the place by whether the fault is 9. Assumes nothing.
use mathlib.Core.Path.{◌≡◌, refl, ap}
use Prim.Native.Nat.{ℕ}
use Rattle.tables.specs.declared.read.Fault.{Fault}
use Rattle.tables.specs.declared.read.Fault.TheVariants.{Ended, Unknown, Cut, Misplaced, SizesOut, Misnumbered, TooLong}
use Rattle.tables.specs.declared.read.Fault.TheVariants.{Missing, Followed}
use Rattle.tables.specs.declared.read.ReadError.TheVariants.{Refused}
use Rattle.tables.specs.Format.{place, fault_number}
use Rattle.tables.proofs.read.refusal.Goals as goal

elsewhere : (f : Fault) (p : ℕ) → (f ≡ Followed → ⊥) → p ≡ place (fault_number f) p
unfolding place
elsewhere Ended p n = refl
elsewhere Unknown p n = refl
elsewhere Cut p n = refl
elsewhere Misplaced p n = refl
elsewhere SizesOut p n = refl
elsewhere Misnumbered p n = refl
elsewhere TooLong p n = refl
elsewhere Missing p n = refl
elsewhere Followed p n = absurd (n refl)

pub returns-in-Followed : goal.returns-in-Followed
unfolding place
returns-in-Followed c = rw c.in-Followed.is refl

pub returns-in_default : goal.returns-in_default
returns-in_default c = ap (Refused c.args.fault) (elsewhere c.args.fault c.args.at c.in_default.not-Followed)
