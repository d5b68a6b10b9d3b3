-- `link::stream::next_fill`: by its one test. Assumes nothing.
use borrow.Author.Tests.{lt-ltb, le-ltb}
use Rattle.link.proofs.stream.next_fill.Goals as goal

pub returns-then-fill-delay : goal.returns-then-fill-delay
returns-then-fill-delay c = simp (lt-ltb _ _ c.if-fill-delay.true)

pub returns-else-fill-delay : goal.returns-else-fill-delay
returns-else-fill-delay c = simp (le-ltb _ _ c.if-fill-delay.false)
