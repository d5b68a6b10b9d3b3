-- `span::bits::shift`: what a shift in the word keeps, the mask cuts to the bits asked for. Assumes nothing.
use Rattle.std.proofs.Common.{◌≡◌, ℕ, ◌+◌, ◌-◌, ◌*◌, ◌%◌, ◌^◌, ◌≤◌, min, sym, ap, ◌∙◌, arith}
use lib.Bits.{bit_and, and_mask}
use lib.Pow.{mod-mod-pow}
use Rattle.span.specs.Word.{shifted}
use Rattle.span.proofs.Word.{shifted_past}
use Rattle.span.proofs.bits.shift.Goals as goal

cut : (x k : ℕ) → k ≤ 64 → x % 2 ^ 64 % 2 ^ k ≡ x % 2 ^ k
cut x k h =
    let whole : 64 ≡ 64 - k + k = omega arith in
    ap (λ (j : ℕ). x % 2 ^ j % 2 ^ k) whole ∙ mod-mod-pow x (64 - k) k

pub returns-then-by-ge64 : goal.returns-then-by-ge64
returns-then-by-ge64 c =
    sym (shifted_past (min c.args.bits 64) c.args.by c.args.word (omega arith))

pub returns : goal.returns
unfolding shifted
returns c =
    let a = c.args in
    let k = min a.bits 64 in
    ap (bit_and (a.word * 2 ^ a.by % 2 ^ 64)) c.mask.ensures
    ∙ and_mask (a.word * 2 ^ a.by % 2 ^ 64) k
    ∙ cut (a.word * 2 ^ a.by) k (omega arith)
