-- `iwadare::decode::keep`: a block flipped, three words written, and the delayed blocks moved. Assumes nothing.
use mathlib.Core.Path.{◌≡◌, ap, ap₂, ◌∙◌}
use mathlib.Core.List.{List, [], ◌∷◌, ◌++◌}
use Prim.Native.Nat.{ℕ, ◌/◌, ◌≤◌}
use native.Mathlib.Omega.{arith}
use lib.ListN.{length, get_or, set, drop}
use lib.Seq.{get_or-set_other}
use Rattle.span.specs.Word.{◌⊕◌}
use Rattle.link.specs.Memory.{pushed}
use Rattle.link.proofs.Memory.{pushed-some}
use Rattle.iwadare.specs.Memory.{fill_of, fill_next}
use Rattle.iwadare.proofs.decode.keep.Goals as goal
use Rattle.iwadare.proofs.decode.keep.Goals.{After-flip, After-push}

moved : (s : List ℕ) (a b c y : ℕ) → 4 ≤ length s
    → pushed 3 y (set (set (set s 0 a) 1 b) 2 c) ≡ a ∷ b ∷ c ∷ (drop 4 s ++ (y ∷ []))
moved [] a b c y h = absurd (omega arith)
moved (u ∷ []) a b c y h = absurd (omega arith)
moved (u ∷ v ∷ []) a b c y h = absurd (omega arith)
moved (u ∷ v ∷ w ∷ s) a b c y h = pushed-some 3 y (a ∷ b ∷ c ∷ s) (omega arith)

pub returns : goal.returns
returns c =
    let a = c.args in
    let s = a.memory.now in
    let flipped = c.flip.new.memory in
    let is = c.flip.ensures in
    let n = c.next_fill in
    c.push.ensures
    ∙ moved flipped n.result (a.w / 2) a.terms a.youngest (omega arith)
    ∙ ap₂ (λ (f : ℕ) (l : List ℕ). f ∷ a.w / 2 ∷ a.terms ∷ (drop 4 l ++ (a.youngest ∷ [])))
    (n.ensures ∙ ap fill_next (ap fill_of is
    ∙ get_or-set_other s 6 0 (get_or s 6 0 ⊕ a.weight) 0 (λ (z : 0 ≡ 6). omega arith)))
    is
