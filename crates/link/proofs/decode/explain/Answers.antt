-- `link::decode::explain`: the register 0 is the image of 0. Assumes nothing.
use mathlib.Core.Path.{sym, ap, ◌∙◌}
use Rattle.tables.specs.Table.{rows_of}
use Rattle.link.specs.Fit.{table_of}
use Rattle.link.specs.Step.{found}
use Rattle.link.proofs.Error.{zero-found}
use Rattle.link.proofs.decode.explain.Goals as goal

pub returns-then-x-eq0 : goal.returns-then-x-eq0
returns-then-x-eq0 c =
    let R = rows_of (table_of c.args.t.now) in
    sym (ap (found R) c.if-x-eq0.true ∙ zero-found R)
