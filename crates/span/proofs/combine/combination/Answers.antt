use Rattle.std.proofs.Common.{◌≡◌, ℕ, ◌+◌, ◌/◌, ◌<◌, List, length, get_or, take, drop, sym, ap, ◌∙◌, add-one}
use Rattle.std.proofs.Common.{arith, drop_of_length-le, drop-cons}
use Rattle.std.proofs.lemmas.List.{take_min}
use Rattle.span.specs.Word.{◌⊕◌, odd, sel}
use Rattle.span.specs.Combination.{combination}
use Rattle.span.proofs.Word.{xor_zero_l, xor_zero_r, xor_assoc}
use Rattle.span.proofs.combine.combination.Goals as goal

-- a turn moves one word from what is to come to what was summed
one_more : (ws : List ℕ) (i sum left v total : ℕ) → i < length ws → sum ⊕ combination (drop i ws) left ≡ total
    → v ≡ sel (odd left) (get_or ws i 0) → sum ⊕ v ⊕ combination (drop (i + 1) ws) (left / 2) ≡ total
unfolding combination
one_more ws i sum left v total h e s =
    let rest = drop-cons ws i 0 h in
    xor_assoc sum v (combination (drop (i + 1) ws) (left / 2)) ∙ ap (λ (x : ℕ). sum ⊕ x) (rw (s, add-one i, rest)) ∙ e

pub loop-word-init : goal.loop-word-init
loop-word-init c = xor_zero_l _

pub loop-word-preserved : goal.loop-word-preserved
unfolding ◌⊕◌
loop-word-preserved c =
    let w = c.loop-word in
    one_more (take c.min-end.result c.args.words.now) w.word-index w.sum w.left c.select-sum.result _ (omega arith)
    w.invariant c.select-sum.ensures

pub returns : goal.returns
unfolding combination
returns c =
    let a = c.args in
    let ws = take c.min-end.result a.words.now in
    sym (xor_zero_r c.loop-word.sum)
    ∙ rw (drop_of_length-le ws {i = c.loop-word.word-index} (omega arith)) at c.loop-word.invariant
    ∙ ap (λ (l : List ℕ). combination l a.coefficients)
    (ap (λ (n : ℕ). take n a.words.now) c.min-end.ensures ∙ take_min a.count a.words.now)
