-- `span::eliminate::least_relation`: of the words that count. Assumes nothing.
use Rattle.span.proofs.Combination.{counted-most}
use Rattle.span.proofs.eliminate.least_relation.Goals as goal

pub eliminate-requires : goal.eliminate-requires
eliminate-requires c = counted-most _ _ _ c.counted.ensures
