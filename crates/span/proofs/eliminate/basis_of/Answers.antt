-- `span::eliminate::basis_of`: from the end on there is no word to stop at, so there is a basis. Assumes nothing.
use Rattle.std.proofs.Common.{◌≡◌, ℕ, length, sym, refl, ◌∙◌, le_refl, arith}
use Rattle.std.specs.Prelude.{None, Result, Ok, Err}
use Rattle.std.specs.Result.{IsOk, result_err}
use Rattle.std.proofs.lemmas.Option.{none-some}
use Rattle.span.specs.declared.eliminate.Basis.{Basis}
use Rattle.span.proofs.Combination.{counted-most}
use Rattle.span.proofs.Relation.{relation-missing}
use Rattle.span.proofs.eliminate.basis_of.Goals as goal

pub eliminate-requires : goal.eliminate-requires
eliminate-requires c = counted-most _ _ _ c.counted-words.ensures

no_error : (r : Result Basis ℕ) → result_err r ≡ None → IsOk r
no_error (Ok b) e = refl
no_error (Err c) e = absurd (none-some c (sym e))

pub unwrap-requires : goal.unwrap-requires
unwrap-requires c =
    let ws = c.counted-words.result.now in
    no_error c.eliminate.result
    (c.eliminate.ensures.relation
    ∙ sym (relation-missing ws (length ws) (length ws) (le_refl _) (λ d l u e. omega arith)))
