-- `report::text::Lines::push`: a part of the lent bytes is replaced. Assumes nothing.
use mathlib.Core.Path.{refl}
use Rattle.report.proofs.Written.{wrote-part}
use Rattle.report.proofs.text.Lines.push.Goals as goal

pub returns : goal.returns
returns c =
    let l = c.args.self.now in
    rw c.copy_from_slice.ensures.after (record {
      same_reference = refl;
      wrote = wrote-part l.bytes.now c.args.text.now l.end;
    })
