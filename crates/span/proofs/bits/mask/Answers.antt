-- `span::bits::mask`: 64 ones shifted down by what is missing. Assumes nothing.
use Rattle.std.proofs.Common.{◌≡◌, ℕ, ◌+◌, ◌-◌, ◌/◌, ◌^◌, min, ap, ◌∙◌, arith}
use lib.Pow.{high, ones_lt, ones_split}
use Rattle.span.proofs.bits.mask.Goals as goal

same : (i j : ℕ) → i ≡ j → 2 ^ i - 1 ≡ 2 ^ j - 1
same i j e = ap (λ (k : ℕ). 2 ^ k - 1) e

shifted_down : (j k : ℕ) → (2 ^ (j + k) - 1) / 2 ^ k ≡ 2 ^ j - 1
shifted_down j k = ap (λ (x : ℕ). x / 2 ^ k) (ones_split j k) ∙ high (2 ^ j - 1) k (ones_lt k)

pub returns : goal.returns
returns c =
    let bits = c.args.bits in
    let whole : 64 ≡ bits + (64 - bits) = omega arith in
    ap (λ (x : ℕ). x / 2 ^ (64 - bits)) (same 64 (bits + (64 - bits)) whole)
    ∙ shifted_down bits (64 - bits)
    ∙ same bits (min bits 64) (omega arith)
