-- `tables::read::header`: the tests in their order. Assumes nothing.
use mathlib.Core.Path.{◌≡◌, refl, sym, ◌∙◌}
use borrow.Author.Tests.{eq-eqb, ne_eqb, lt-ltb, le-ltb}
use lib.ListN.{length}
use borrow.Author.Rules.{rules}
use Prim.Native.Nat.{◌≤◌, ◌<◌}
use mathlib.Core.Logic.{◌≢◌}
use Rattle.tables.specs.Format.{kind, size, fault_of, kind_of, kind_number}
use Rattle.tables.proofs.Format.{kind-said}
use Rattle.tables.proofs.read.header.Goals as goal
use Rattle.tables.proofs.read.header.Goals.{In_ok-kind}

pub returns-then-is_empty : goal.returns-then-is_empty
unfolding fault_of
returns-then-is_empty c = let e : length c.args.rest.now ≡ 0 = search rules in rw (eq-eqb (length c.args.rest.now) 0 e) refl

-- the kind that the first byte says
said : (c : goal.In_ok-kind) → let b = kind c.args.rest.now in
    (b ≤ 2) × (kind_of b ≡ c.in_ok-kind.kind) × (kind_number c.in_ok-kind.kind ≡ b)
said c = rw c.byte.ensures at (kind-said c.byte.result c.in_ok-kind.kind (sym c.of.ensures ∙ c.in_ok-kind.was))

pub returns-then-rest-size : goal.returns-then-rest-size
unfolding fault_of
returns-then-rest-size c =
    let s = c.args.rest.now in
    let k = said (goal.at.returns-then-rest-size c).In_ok-kind in
    let some : length s ≢ 0 = search rules in
    let short : length s < size (kind s) = rw (c.size.ensures, k.2) at c.if-rest-size.true in
    rw (ne_eqb (length s) 0 some, le-ltb 2 (kind s) k.0, lt-ltb (length s) (size (kind s)) short) refl

pub returns-then-misplaced : goal.returns-then-misplaced
unfolding fault_of
returns-then-misplaced c =
    let s = c.args.rest.now in
    let k = said (goal.at.returns-then-misplaced c).In_ok-kind in
    let some : length s ≢ 0 = search rules in
    let whole : size (kind s) ≤ length s = rw (c.size.ensures, k.2) at c.if-rest-size.false in
    rw (
      ne_eqb (length s) 0 some,
      le-ltb 2 (kind s) k.0,
      le-ltb (length s) (size (kind s)) whole,
      ← rw k.2 at c.misplaced.ensures,
      c.if-misplaced.true,
    ) refl

pub returns : goal.returns
returns c =
    let s = c.args.rest.now in
    let k = said (goal.at.returns c).In_ok-kind in
    let some : length s ≢ 0 = search rules in
    let whole : size (kind s) ≤ length s = rw (c.size.ensures, k.2) at c.if-rest-size.false in
    rw (
      ne_eqb (length s) 0 some,
      le-ltb 2 (kind s) k.0,
      le-ltb (length s) (size (kind s)) whole,
      ← rw k.2 at c.misplaced.ensures,
      c.if-misplaced.false,
      k.1,
    ) refl
