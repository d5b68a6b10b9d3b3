-- `span::bits::parity`: the count of common ones, taken modulo 2, is the exclusive or over the 64 places.
-- Assumes nothing.
use Rattle.span.proofs.Word.{ones-parity}
use Rattle.span.proofs.bits.parity.Goals as goal

pub returns : goal.returns
returns c = ones-parity 64 c.args.a c.args.b c.ranges.a.fits
