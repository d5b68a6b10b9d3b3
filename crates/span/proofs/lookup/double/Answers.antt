use Rattle.std.proofs.Common.{◌≡◌, length, ◌∙◌, arith}
use Rattle.span.specs.Word.{◌⊕◌}
use Rattle.span.proofs.Lookups.{doubled-more}
use Rattle.span.proofs.lookup.double.Goals as goal

pub loop-v-preserved : goal.loop-v-preserved
unfolding ◌⊕◌
loop-v-preserved c =
    let a = c.args in
    let size : length c.loop-v.tables ≡ 64 = c.loop-v.invariant.size ∙ c.requires.0 in
    doubled-more a.at a.width c.loop-v.v a.row a.tables.now c.loop-v.tables c.loop-v.invariant (omega arith) (omega arith)
