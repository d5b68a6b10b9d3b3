-- `span::dual::together`: the fold over all words. Assumes nothing.
use Rattle.std.proofs.Common.{◌≡◌, length, fold, sym, ap, ◌∙◌, le_refl, take_all, rules}
use lib.Bits.{bit_or}
use Rattle.span.proofs.Together.{together-fold}
use Rattle.span.proofs.dual.together.Goals as goal

pub returns : goal.returns
returns c =
    let words = c.args.words.now in
    let folded : c.fold.result ≡ fold bit_or 0 words = search rules in
    folded ∙ sym (together-fold words (length words) (le_refl _) ∙ ap (fold bit_or 0) (take_all (length words) words (le_refl _)))
