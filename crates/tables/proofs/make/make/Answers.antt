-- `tables::make::make`: the table of the definition, or refusal 11. Assumes nothing.
use mathlib.Core.Path.{◌≡◌, sym, ◌∙◌}
use mathlib.Core.Bool.{true}
use native.Mathlib.Omega.{arith}
use Rattle.tables.specs.Table.{sizes_fit}
use Rattle.tables.specs.Made.{made_table, making}
use Rattle.tables.proofs.Fit.{sizes-of}
use Rattle.tables.proofs.make.make.Goals as goal
use Rattle.tables.proofs.make.make.Goals.{Else-not-sizes_fit}

pub returns-then-not-sizes_fit : goal.returns-then-not-sizes_fit
unfolding making
returns-then-not-sizes_fit c =
    let e = sym c.sizes_fit.ensures ∙ c.if-not-sizes_fit.true in
    record { answer = rw e; numbers = rw e }

inside : (c : goal.Else-not-sizes_fit) → sizes_fit c.args.symbols 2 c.args.depth ≡ true
inside c = sym c.sizes_fit.ensures ∙ c.if-not-sizes_fit.false

pub overflow_mul-result : goal.overflow_mul-result
overflow_mul-result c =
    let a = c.args in
    let z = sizes-of a.symbols 2 a.depth (inside (goal.at.overflow_mul-result c).Else-not-sizes_fit) in
    omega arith

pub made_rows-requires : goal.made_rows-requires
made_rows-requires c =
    let a = c.args in
    let z = sizes-of a.symbols 2 a.depth (inside (goal.at.made_rows-requires c).Else-not-sizes_fit) in
    (omega arith, omega arith)

pub returns : goal.returns
unfolding making made_table
returns c =
    let e = inside (goal.at.returns c).Else-not-sizes_fit in
    record { answer = rw (e, c.made_rows.ensures); numbers = rw e }
