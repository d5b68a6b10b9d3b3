-- `link::decode::image`: the parity symbol is the one bit above the information, and its row is 1. Assumes nothing.
use mathlib.Core.Path.{◌≡◌, sym, ap, subst, ◌∙◌}
use mathlib.Core.List.{List, [], ◌∷◌, ◌++◌}
use Prim.Native.Nat.{ℕ, suc, ◌+◌, ◌-◌, ◌/◌, ◌^◌, ◌≤◌, ◌<◌}
use native.Mathlib.Nat.{mod-eq_of_lt}
use native.Mathlib.Omega.{arith}
use lib.Pow.{shr_lt}
use lib.ListN.{length, take}
use lib.Seq.{length-take-le}
use Rattle.span.specs.Word.{◌⊕◌, sel, digit, bit}
use Rattle.span.specs.Combination.{combination}
use Rattle.span.proofs.Word.{xor-code, bit-odd, odd-mod}
use Rattle.span.proofs.Combination.{combination-last}
use Rattle.link.proofs.decode.image.Goals as goal

-- above ν symbols there is one bit
top_bit : (ν r : ℕ) → r < 2 ^ suc ν → r / 2 ^ ν ≡ digit (bit ν r)
top_bit ν r h =
    let e : suc ν ≡ 1 + ν = omega arith in
    let l = shr_lt 1 ν (subst (λ (k : ℕ). r < 2 ^ k) e h) in
    sym (mod-eq_of_lt l) ∙ odd-mod (r / 2 ^ ν) ∙ ap digit (sym (bit-odd ν r))

image-is : (rows : List ℕ) (ν r : ℕ) → ν ≤ length rows → r < 2 ^ suc ν
    → combination (take ν rows) r ⊕ r / 2 ^ ν ≡ combination (take ν rows ++ (1 ∷ [])) r
image-is rows ν r size h =
    ap (λ (x : ℕ). combination (take ν rows) r ⊕ x) (top_bit ν r h)
    ∙ sym (combination-last (take ν rows) 1 r
    ∙ ap (λ (k : ℕ). combination (take ν rows) r ⊕ sel (bit k r) 1) (length-take-le ν rows size))

pub returns : goal.returns
returns c =
    let a = c.args in
    let n = a.t.now.symbols in
    let ν = n - 1 in
    let e : suc ν ≡ n = omega arith in
    xor-code c.combination.result (a.received / 2 ^ ν)
    ∙ ap (λ (x : ℕ). x ⊕ a.received / 2 ^ ν) c.combination.ensures
    ∙ image-is a.t.now.rows.now ν a.received (omega arith)
    (subst (λ (k : ℕ). a.received < 2 ^ k) (sym e) c.requires)
