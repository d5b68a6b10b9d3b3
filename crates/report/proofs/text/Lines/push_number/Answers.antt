-- `report::text::Lines::push_number`: the digits, and the byte after them. Assumes nothing.
use mathlib.Core.List.{[], ◌∷◌}
use native.Mathlib.Omega.{arith}
use lib.ListN.{length-append}
use Rattle.report.specs.Text.{decimal_of}
use Rattle.report.proofs.Written.{pushes_then, pushes-end}
use Rattle.report.proofs.text.Lines.push_number.Goals as goal

pub push_digits-requires : goal.push_digits-requires
push_digits-requires c = omega (arith, length-append (decimal_of c.args.number) (c.args.after ∷ []))

pub push_byte-requires : goal.push_byte-requires
push_byte-requires c =
    let n = length-append (decimal_of c.args.number) (c.args.after ∷ []) in
    let e = pushes-end (decimal_of c.args.number) c.push_digits.ensures (omega arith) in
    omega arith

pub returns : goal.returns
returns c =
    let n = length-append (decimal_of c.args.number) (c.args.after ∷ []) in
    pushes_then (decimal_of c.args.number) (c.args.after ∷ []) c.push_digits.ensures c.push_byte.ensures (omega arith)
