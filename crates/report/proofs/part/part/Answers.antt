-- `report::part::part`: with room and without. Assumes nothing.
use mathlib.Core.Path.{sym, ap, ◌∙◌}
use native.Mathlib.Omega.{arith}
use lib.ListN.{length}
use Rattle.std.proofs.Common.{rules}
use Rattle.report.proofs.Room.{room-there, listed-nowhere, listed-somewhere}
use Rattle.report.proofs.part.part.Goals as goal

pub list-next-requires : goal.list-next-requires
list-next-requires c =
    let a = c.args in
    let r = room-there a.number (length a.bytes.now) (length a.out.now)
    (sym (rw c.new-lines.ensures.bytes at c.fits.ensures) ∙ c.if-not-fits.false) in
    (r.0, c.new-lines.ensures.end, omega (arith, r.1, ap length c.new-lines.ensures.bytes))

pub returns-then-not-fits : goal.returns-then-not-fits
returns-then-not-fits c =
    let a = c.args in
    listed-nowhere a.t a.state.now a.number a.bytes.now a.out.now
    (sym (rw c.new-lines.ensures.bytes at c.fits.ensures) ∙ c.if-not-fits.true) (search rules)

pub returns : goal.returns
returns c =
    let a = c.args in
    let l = rw c.new-lines.ensures.bytes at c.list-next.ensures.listed in
    listed-somewhere a.t a.state.now a.number a.bytes.now a.out.now
    (sym (rw c.new-lines.ensures.bytes at c.fits.ensures) ∙ c.if-not-fits.false) (search rules) l
