-- `span::combine::combination`: what was summed so far and the combination of the words still to come make the whole.
-- Assumes nothing.
use Rattle.std.proofs.Common.{◌≡◌, drop}
use Rattle.span.specs.Word.{◌⊕◌}
use Rattle.span.specs.Combination.{combination}
use Rattle.span.proofs.combine.combination.Given as goal

abbrev pub invariant-loop-word : goal.invariant-loop-word
invariant-loop-word l =
    l.sum ⊕ combination (drop l.word-index l.word-items) l.left ≡ combination l.word-items l.coefficients
