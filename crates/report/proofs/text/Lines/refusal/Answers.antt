-- `report::text::Lines::refusal`: the word, and the number and the newline; with room and without. Assumes nothing.
use mathlib.Core.Path.{◌≡◌, sym, ◌∙◌}
use mathlib.Core.Bool.{true}
use mathlib.Core.List.{List, [], ◌∷◌, ◌++◌}
use Prim.Native.Nat.{ℕ}
use native.Mathlib.Omega.{arith}
use Rattle.report.specs.Text.{decimal_of, refused_line}
use Rattle.report.specs.Writing.{room}
use Rattle.report.proofs.Digits.{digits-64}
use Rattle.report.proofs.Written.{pushes_then, pushes-end, puts-there, puts-nothing, room-free, field-length}
use Rattle.report.proofs.text.Lines.refusal.Goals as goal

abbrev refused : List ℕ
refused = 114 ∷ 101 ∷ 102 ∷ 117 ∷ 115 ∷ 101 ∷ 100 ∷ 32 ∷ []

pub push_number-requires : goal.push_number-requires
push_number-requires c =
    let l = c.args.self.now in
    let h : room l.bytes.now l.end ≡ true = sym c.has_room.ensures ∙ c.if-has_room.true in
    let f = room-free l.bytes.now l.end h in
    let e = pushes-end refused c.push.ensures (omega arith) in
    omega (arith, digits-64 c.args.number (omega arith), field-length c.args.number 10)

pub returns-then-has_room : goal.returns-then-has_room
unfolding refused_line
returns-then-has_room c =
    let l = c.args.self.now in
    let h : room l.bytes.now l.end ≡ true = sym c.has_room.ensures ∙ c.if-has_room.true in
    let f = room-free l.bytes.now l.end h in
    puts-there (refused_line c.args.number) h
    (pushes_then refused (decimal_of c.args.number ++ (10 ∷ [])) c.push.ensures c.push_number.ensures (omega arith))

pub returns-else-has_room : goal.returns-else-has_room
returns-else-has_room c =
    puts-nothing c.args.self.now (refused_line c.args.number) (sym c.has_room.ensures ∙ c.if-has_room.false)
