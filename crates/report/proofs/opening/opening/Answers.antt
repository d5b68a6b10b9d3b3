-- `report::opening::opening`: without room, under two bytes, and with sizes. Assumes nothing.
use mathlib.Core.Path.{◌≡◌, sym, ap, ◌∙◌}
use mathlib.Core.Bool.{true}
use native.Mathlib.Omega.{arith}
use lib.ListN.{length}
use Rattle.std.proofs.Common.{rules}
use Rattle.report.specs.Text.{header_line}
use Rattle.report.specs.Writing.{Pushes}
use Rattle.report.specs.Opening.{opening_room}
use Rattle.report.proofs.Answer.{puts-pushes}
use Rattle.report.proofs.Written.{pushes-end}
use Rattle.report.proofs.Opens.{room-there, opens-nowhere, opens-short, opens-sizes}
use Rattle.report.proofs.opening.opening.Goals as goal
use Rattle.report.proofs.opening.opening.Goals.{After-header}

-- with room the header is written
with-room : (c : goal.After-header) → opening_room (length c.args.memory.now) (length c.args.out.now) ≡ true
with-room c = sym (rw c.new-lines.ensures.bytes at c.has_room.ensures) ∙ c.if-not-has_room.false

pub returns-then-not-has_room : goal.returns-then-not-has_room
returns-then-not-has_room c =
    let a = c.args in
    opens-nowhere a.memory.now a.out.now a.sizes.now
    (sym (rw c.new-lines.ensures.bytes at c.has_room.ensures) ∙ c.if-not-has_room.true) (search rules)

headed : (c : goal.After-header) → Pushes header_line c.new-lines.result c.header.new.self
headed c =
    let r = room-there (length c.args.memory.now) (length c.args.out.now) (with-room c) in
    let n = c.new-lines.ensures in
    puts-pushes header_line (omega (arith, r.1, n.end, ap length n.bytes)) c.header.ensures

pub returns-in_default : goal.returns-in_default
returns-in_default c =
    let a = c.args in
    let n = c.new-lines.ensures in
    let h = (goal.at.returns-in_default c).After-header in
    opens-short a.memory.now a.out.now a.sizes.now n.bytes n.end (with-room h) c.in_default.len_below (headed h)
    (search rules)

pub after_header-decoder-requires : goal.after_header-decoder-requires
after_header-decoder-requires c =
    let a = c.args in
    let n = c.new-lines.ensures in
    let h = (goal.at.after_header-decoder-requires c).After-header in
    let r = room-there (length a.memory.now) (length a.out.now) (with-room h) in
    let e = pushes-end header_line (headed h) (omega (arith, r.1, n.end, ap length n.bytes)) in
    (r.0, omega (arith, r.1, n.end, ap length n.bytes))

pub returns : goal.returns
returns c =
    let a = c.args in
    let n = c.new-lines.ensures in
    let h = (goal.at.returns c).After-header in
    let r = room-there (length a.memory.now) (length a.out.now) (with-room h) in
    let m = c.after_header-decoder.ensures in
    opens-sizes a.memory.now a.out.now a.sizes.now n.bytes n.end (with-room h) c.in-len2-up.len_at_least (headed h)
    m.text m.decoder m.memory (omega (arith, r.1, n.end, ap length n.bytes)) (search rules)
