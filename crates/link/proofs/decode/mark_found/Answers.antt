-- `link::decode::mark_found`: no error, the parity symbol alone, or another block. Assumes nothing.
use Rattle.link.proofs.Error.{mark_clean, mark_parity, mark_corrected}
use Rattle.link.proofs.decode.mark_found.Goals as goal

pub returns-then-e-eq0 : goal.returns-then-e-eq0
returns-then-e-eq0 c = let a = c.args in mark_clean a.weight a.e c.if-e-eq0.true

pub returns-then-e-weight : goal.returns-then-e-weight
returns-then-e-weight c =
    let a = c.args in
    mark_parity a.weight a.e c.if-e-eq0.false c.if-e-weight.true

pub returns : goal.returns
returns c =
    let a = c.args in
    mark_corrected a.weight a.e c.if-e-eq0.false c.if-e-weight.false
