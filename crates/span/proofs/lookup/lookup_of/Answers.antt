use Rattle.std.proofs.Common.{ℕ, List, take, ap, ◌∙◌, subst, arith}
use Rattle.span.specs.Lookup.{lookup_of}
use Rattle.std.proofs.lemmas.List.{take_min}
use Rattle.span.proofs.Lookups.{Made, made_none, made_all}
use Rattle.span.proofs.lookup.lookup_of.Goals as goal

pub loop-g-init : goal.loop-g-init
loop-g-init c = made_none (take 16 (take c.min.result c.args.words.now))

pub returns : goal.returns
returns c =
    let a = c.args in
    let ws = take 16 (take c.min.result a.words.now) in
    made_all ws c.loop-g.tables (subst (λ (g : ℕ). Made ws g c.loop-g.tables) (omega arith) c.loop-g.invariant)
    ∙ ap (λ (l : List ℕ). lookup_of (take 16 l)) (ap (λ (n : ℕ). take n a.words.now) c.min.ensures ∙ take_min a.count a.words.now)
