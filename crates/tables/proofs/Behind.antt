-- The parity's row behind the stored ones. Assumes nothing.
use Rattle.std.proofs.Common.{◌≡◌, List, [], ◌∷◌, ◌++◌, ℕ, ◌+◌, ◌-◌, ◌≤◌, length, take, drop, replicate, ap, ◌∙◌}
use Rattle.std.proofs.Common.{arith, drop-cons, length-take-le}
use Rattle.std.proofs.lemmas.List.{get_or-replicate}
use lib.Seq.{take-append-add}

pub behind : (n : ℕ) (rows : List ℕ) → 2 ≤ n → n ≤ 16 → length rows ≡ 15
    → take n (take (n - 1) rows ++ drop (n - 1) (replicate 16 1)) ≡ take (n - 1) rows ++ (1 ∷ [])
behind n rows low high room =
    let xs = take (n - 1) rows in
    let ones : List ℕ = replicate 16 1 in
    let size : length xs ≡ n - 1 = length-take-le (n - 1) rows (omega arith) in
    let all : n ≡ length xs + 1 = omega arith in
    let one : take 1 (drop (n - 1) ones) ≡ 1 ∷ [] =
    ap (take 1) (drop-cons ones (n - 1) 0 (omega arith))
    ∙ ap (λ (v : ℕ). v ∷ []) (get_or-replicate 16 (n - 1) 1 0 (omega arith)) in
    ap (λ (k : ℕ). take k (xs ++ drop (n - 1) ones)) all ∙ take-append-add xs (drop (n - 1) ones) 1
    ∙ ap (λ (l : List ℕ). xs ++ l) one
