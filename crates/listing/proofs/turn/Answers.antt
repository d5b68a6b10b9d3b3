-- `listing::turn`: the lines that `part` wrote lie in the buffer. Assumes nothing.
use Rattle.std.proofs.Common.{sym}
use Rattle.std.proofs.lemmas.List.{length-take-le}
use Rattle.report.proofs.Written.{wrote-within}
use Rattle.listing.proofs.turn.Goals as goal

pub slice_bounds-out-end : goal.slice_bounds-out-end
slice_bounds-out-end g c = wrote-within _ c.part-p.ensures.wrote c.part-p.auto.out

pub slice_bounds-print-end : goal.slice_bounds-print-end
slice_bounds-print-end g c =
    sym (length-take-le _ c.part-p.new.out (wrote-within _ c.part-p.ensures.wrote c.part-p.auto.out))
