-- `link::decode::terms`: w, and its bit 0 above the syndrome word. Assumes nothing.
use Rattle.span.proofs.Word.{xor-code}
use Rattle.link.proofs.decode.terms.Goals as goal

pub returns-clause-w : goal.returns-clause-w
returns-clause-w c = xor-code _ c.args.image
