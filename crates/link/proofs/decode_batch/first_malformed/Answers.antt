-- `link::decode_batch::first_malformed`: the streams are looked at in the first m blocks. Assumes nothing.
use borrow.Author.Tests.{lt-ltb, le-ltb}
use Rattle.link.proofs.decode_batch.first_malformed.Goals as goal

pub returns-then-i-t : goal.returns-then-i-t
returns-then-i-t c = rw (lt-ltb _ _ c.if-i-t.true) c.malformed.ensures

pub returns : goal.returns
returns c = rw (le-ltb _ _ c.if-i-t.false)
