-- `link::decode_batch::declines`: a stream that is looked at, and then the block. Assumes nothing.
use mathlib.Core.Path.{sym, ◌∙◌}
use Rattle.link.proofs.decode_batch.declines.Goals as goal

pub returns-then-first_malformed : goal.returns-then-first_malformed
returns-then-first_malformed c = rw (sym c.first_malformed.ensures ∙ c.if-first_malformed.true)

pub returns : goal.returns
returns c = rw (sym c.first_malformed.ensures ∙ c.if-first_malformed.false)
