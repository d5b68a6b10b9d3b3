-- The ones of words together: as a fold, and of the first words alone. Assumes nothing.
use Rattle.std.proofs.Common.{◌≡◌, ℕ, zero, suc, ◌≤◌, List, length, take, get_or, fold, sym, refl, ap, ◌∙◌}
use Rattle.std.proofs.Common.{arith, add-one, length-take-le, take_all}
use Rattle.std.proofs.lemmas.List.Sums.{fold_more}
use lib.Bits.{bit_or}
use Rattle.span.specs.Dual.{together}

pub together-fold : (ws : List ℕ) (i : ℕ) → i ≤ length ws → together ws i ≡ fold bit_or 0 (take i ws)
unfolding together
together-fold ws zero h = refl
together-fold ws (suc i) h =
    ap (λ (ones : ℕ). bit_or ones (get_or ws i 0)) (together-fold ws i (omega arith))
    ∙ sym (rw (add-one i) at (fold_more bit_or 0 ws i 0 (omega arith)))

pub together-take : (n : ℕ) (ws : List ℕ) → n ≤ length ws → together (take n ws) (length (take n ws)) ≡ together ws n
together-take n ws h =
    let size : length (take n ws) ≡ n = length-take-le n ws h in
    together-fold (take n ws) (length (take n ws)) (omega arith)
    ∙ ap (fold bit_or 0) (take_all (length (take n ws)) (take n ws) (omega arith))
    ∙ sym (together-fold ws n h)
