-- `report::text::Lines::push_delivery`: number, information, mark and e, one after the other. Assumes nothing.
use mathlib.Core.List.{List, [], ◌∷◌, ◌++◌}
use Prim.Native.Nat.{ℕ, ◌≤◌}
use native.Mathlib.Omega.{arith}
use lib.ListN.{length}
use Rattle.link.specs.Decoder.{mark_error}
use Rattle.report.specs.Text.{mark_word, decimal_of, space, newline}
use Rattle.report.specs.Writing.{Pushes}
use Rattle.report.proofs.Digits.{digits-64, digits-16}
use Rattle.report.proofs.Written.{pushes_then, pushes-end, field-length, word-length, line-fields}
use Rattle.report.proofs.text.Lines.push_delivery.Goals as goal
use Rattle.report.proofs.text.Lines.push_delivery.Goals.{Start}

-- the fields of the line, with what stands after each
abbrev number : goal.Start → List ℕ
number s = decimal_of s.args.number ++ (space ∷ [])

abbrev info : goal.Start → List ℕ
info s = decimal_of s.args.d.info ++ (space ∷ [])

abbrev mark : goal.Start → List ℕ
mark s = mark_word s.args.d.mark ++ (space ∷ [])

-- the first two are short
known : (s : goal.Start) → (length (number s) ≤ 21) × (length (info s) ≤ 6) × (length (mark s) ≤ 10)
known s = (
  omega (arith, digits-64 s.args.number (omega arith), field-length s.args.number space),
  omega (arith, digits-16 s.args.d.info (omega arith), field-length s.args.d.info space),
  word-length s.args.d.mark,
)

pub push_number-requires : goal.push_number-requires
push_number-requires c = let k = known (goal.at.push_number-requires c).Start in omega arith

pub push_number-requires-2 : goal.push_number-requires-2
push_number-requires-2 c =
    let s = (goal.at.push_number-requires-2 c).Start in
    let k = known s in
    let e = pushes-end (number s) c.push_number.ensures (omega arith) in
    omega arith

pub push_word-requires : goal.push_word-requires
push_word-requires c =
    let s = (goal.at.push_word-requires c).Start in
    let k = known s in
    let e = pushes-end (number s) c.push_number.ensures (omega arith) in
    let f = pushes-end (info s) c.push_number-2.ensures (omega arith) in
    omega arith

pub push_number-requires-3 : goal.push_number-requires-3
push_number-requires-3 c =
    let s = (goal.at.push_number-requires-3 c).Start in
    let k = known s in
    let e = pushes-end (number s) c.push_number.ensures (omega arith) in
    let f = pushes-end (info s) c.push_number-2.ensures (omega arith) in
    let g = pushes-end (mark s) c.push_word.ensures (omega arith) in
    omega (arith, digits-16 c.error.result (omega arith), field-length c.error.result newline)

pub returns-clause-line : goal.returns-clause-line
returns-clause-line c =
    let a = c.args in
    let s = (goal.at.returns-clause-line c).Start in
    let k = known s in
    let error = decimal_of (mark_error a.d.mark) ++ (newline ∷ []) in
    let e = pushes-end (number s) c.push_number.ensures (omega arith) in
    let f = pushes-end (info s) c.push_number-2.ensures (omega arith) in
    let z : Pushes error c.push_word.new.self c.push_number-3.new.self =
    rw c.error.ensures at c.push_number-3.ensures in
    rw (← line-fields a.number a.d)
    (pushes_then (number s) (info s ++ (mark s ++ error)) c.push_number.ensures
    (pushes_then (info s) (mark s ++ error) c.push_number-2.ensures
    (pushes_then (mark s) error c.push_word.ensures z (omega arith)) (omega arith)) (omega arith))

pub returns-clause-short : goal.returns-clause-short
returns-clause-short c =
    let s = (goal.at.returns-clause-short c).Start in
    let k = known s in
    let e = pushes-end (number s) c.push_number.ensures (omega arith) in
    let f = pushes-end (info s) c.push_number-2.ensures (omega arith) in
    let g = c.push_word.ensures.wrote.position in
    let h = c.push_number-3.ensures.wrote.position in
    omega (
      arith,
      digits-16 c.error.result (omega arith),
      field-length c.error.result newline,
    )
