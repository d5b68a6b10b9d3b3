-- `report::text::Lines::push_byte`: one of the lent bytes is replaced. Assumes nothing.
use mathlib.Core.Path.{refl}
use native.Mathlib.Omega.{arith}
use Rattle.report.proofs.Written.{wrote-byte}
use Rattle.report.proofs.text.Lines.push_byte.Goals as goal

pub returns : goal.returns
returns c =
    let l = c.args.self.now in
    record { same_reference = refl; wrote = wrote-byte l.bytes.now l.end c.args.byte (omega arith) }
