-- `tables::write::put_sizes`: four stores. Assumes nothing.
use borrow.Author.Rules.{rules}
use lib.ListN.{length-set}
use Rattle.tables.proofs.write.put_sizes.Goals as goal

pub bounds-out-1 : goal.bounds-out-1
bounds-out-1 c = simp length-set (search rules)

pub bounds-out-2 : goal.bounds-out-2
bounds-out-2 c = simp length-set (search rules)
