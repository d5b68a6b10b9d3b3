-- `span::eliminate::counted`: the two cuts at once. Assumes nothing.
use Rattle.std.proofs.Common.{◌≡◌, ℕ, min, length, take, ap, ◌∙◌, arith}
use Rattle.span.proofs.Combination.{counted-take}
use Rattle.span.proofs.eliminate.counted.Goals as goal

pub returns : goal.returns
returns c =
    let a = c.args in
    let end : c.min-2.result ≡ min (min a.count (length a.words.now)) 32 = omega arith in
    ap (λ (e : ℕ). take e a.words.now) end ∙ counted-take a.count a.words.now
