-- `span::lookup::look_up`: four reads, by four bits each. Assumes nothing.
use Rattle.span.specs.Word.{◌⊕◌}
use Rattle.span.specs.Lookup.{looked_up}
use Rattle.span.proofs.lookup.look_up.Goals as goal

pub returns : goal.returns
unfolding looked_up ◌⊕◌
returns c =
    rw (
      c.low_four.ensures,
      c.low_four-2.ensures,
      c.low_four-3.ensures,
      c.low_four-4.ensures,
    )
