-- `export::table::put_table`: three numbers, and the rows after them. Assumes nothing.
use Rattle.std.proofs.Common.{List, ◌∷◌, ℕ, ap, ◌∙◌}
use Rattle.export.specs.Numbers.{numbers_of}
use Rattle.export.proofs.Copy.{numbers_put}
use Rattle.export.proofs.table.put_table.Goals as goal

pub returns : goal.returns
unfolding numbers_of
returns c =
    let t = c.args.t in
    numbers_put c.args.numbers.now c.copy_from_slice.new.self t.symbols t.span t.depth c.told-numbers
    ∙ ap (λ (rows : List ℕ). t.symbols ∷ t.span ∷ t.depth ∷ rows) c.copy_from_slice.ensures.after
