-- `span::lookup::group`: each of the four words doubles the part of the table that is made. Assumes nothing.
use Rattle.std.proofs.Common.{◌≡◌, ℕ, ◌+◌, ◌*◌, ◌<◌, get_or, take, sym, ◌∙◌, arith, get_or-take}
use Rattle.span.proofs.Lookups.{grouped}
use Rattle.span.proofs.lookup.group.Goals as goal

pub returns : goal.returns
returns c =
    let a = c.args in
    let ws = a.words.now in
    let same : (j : ℕ) → j < 16 → get_or ws j 0 ≡ get_or (take 16 ws) j 0 = λ j h. sym (get_or-take 16 ws j 0 h) in
    grouped (take 16 ws) a.g a.tables.now c.double.new.tables c.double-2.new.tables c.double-3.new.tables
    c.double-4.new.tables c.word_or_zero.result c.word_or_zero-2.result c.word_or_zero-3.result
    c.word_or_zero-4.result
    c.double.ensures c.double-2.ensures c.double-3.ensures c.double-4.ensures
    (c.word_or_zero.ensures ∙ same (4 * a.g) (omega arith))
    (c.word_or_zero-2.ensures ∙ same (4 * a.g + 1) (omega arith))
    (c.word_or_zero-3.ensures ∙ same (4 * a.g + 2) (omega arith))
    (c.word_or_zero-4.ensures ∙ same (4 * a.g + 3) (omega arith))
