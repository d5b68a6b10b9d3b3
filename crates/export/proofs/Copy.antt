-- Three numbers, and words copied after them. Assumes nothing.
use Rattle.std.proofs.Common.{◌≡◌, List, [], ◌∷◌, ◌++◌, ℕ, length, set, ap, ◌∙◌, arith}
use Rattle.std.proofs.lemmas.List.{drop_all}
use borrow.Rule.Slice.PartMut.{put_mid}
use Rattle.std.proofs.lemmas.List.{append-nil}

pub numbers_put : (ns rows : List ℕ) (a b d : ℕ) → length ns ≡ 18
    → put_mid 3 15 (set (set (set ns 0 a) 1 b) 2 d) rows ≡ a ∷ b ∷ d ∷ rows
numbers_put [] rows a b d e = absurd (omega arith)
numbers_put (x ∷ []) rows a b d e = absurd (omega arith)
numbers_put (x ∷ y ∷ []) rows a b d e = absurd (omega arith)
numbers_put (x ∷ y ∷ z ∷ rest) rows a b d e =
    ap (λ (l : List ℕ). a ∷ b ∷ d ∷ (rows ++ l)) (drop_all 15 rest (omega arith))
    ∙ ap (λ (l : List ℕ). a ∷ b ∷ d ∷ l) (append-nil rows)
