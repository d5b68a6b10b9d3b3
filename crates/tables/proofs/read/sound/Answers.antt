-- `tables::read::sound`: the faults of any record, then those of its kind. Assumes nothing.
use mathlib.Core.Path.{◌≡◌, sym, ap, ◌∙◌}
use native.Mathlib.Omega.{arith}
use borrow.Author.Tests.{ne_eqb}
use lib.ListN.{length}
use Rattle.std.specs.Prelude.{Err}
use Rattle.tables.specs.Format.{kind, kind_of, kind_number, header}
use Rattle.tables.proofs.Format.{fault-header, Passed, header-passed, passed-sizes, passed-row, passed-end, end-placed}
use Rattle.tables.proofs.Format.{checked-ok, checked-err, kind-number, handed-on}
use Rattle.tables.proofs.read.sound.Goals as goal
use Rattle.tables.proofs.read.sound.Goals.{In_ok-kind}

pub returns-in_err-kind : goal.returns-in_err-kind
returns-in_err-kind c =
    let s = c.args.rest.now in
    let g = c.args.g.now in
    let e = c.from_residual.ensures in
    let f = checked-err (header (kind s) (length s) g.table.symbols) _ _ (sym c.header.ensures ∙ c.in_err-kind.was) in
    let same = fault-header g s f.0 in
    handed-on _ _ e.0 e.1 ∙ rw (same, ne_eqb _ 0 f.0) (ap Err f.1)

-- the record has passed the first tests, and is of this kind
passed : (c : goal.In_ok-kind) → let s = c.args.rest.now in
    Passed c.args.g.now s × (kind s ≡ kind_number c.in_ok-kind.kind) × (kind_of (kind s) ≡ c.in_ok-kind.kind)
passed c =
    let s = c.args.rest.now in
    let g = c.args.g.now in
    let o = checked-ok (header (kind s) (length s) g.table.symbols) _ _ (sym c.header.ensures ∙ c.in_ok-kind.was) in
    let p = header-passed g s o.0 in
    (p, sym (kind-number (kind s) p.known) ∙ ap kind_number o.1, o.1)

pub end-requires : goal.end-requires
end-requires c =
    let (p, k, _) = passed (goal.at.end-requires c).In_ok-kind in
    let some = end-placed c.args.g.now c.args.rest.now p (k ∙ ap kind_number c.in-End.is) in
    omega arith

pub returns-in-End : goal.returns-in-End
returns-in-End c =
    let (p, k, same) = passed (goal.at.returns-in-End c).In_ok-kind in
    rw (passed-end c.args.g.now c.args.rest.now p (k ∙ ap kind_number c.in-End.is), same, c.in-End.is) c.end.ensures

pub returns-in-Sizes : goal.returns-in-Sizes
returns-in-Sizes c =
    let (p, k, same) = passed (goal.at.returns-in-Sizes c).In_ok-kind in
    rw (passed-sizes c.args.g.now c.args.rest.now p (k ∙ ap kind_number c.in-Sizes.is), same, c.in-Sizes.is)
    c.sizes.ensures

pub returns-in-Row : goal.returns-in-Row
returns-in-Row c =
    let (p, k, same) = passed (goal.at.returns-in-Row c).In_ok-kind in
    rw (passed-row c.args.g.now c.args.rest.now p (k ∙ ap kind_number c.in-Row.is), same, c.in-Row.is) c.row.ensures
