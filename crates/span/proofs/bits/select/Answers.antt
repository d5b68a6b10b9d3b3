-- `span::bits::select`: 0 less an odd bit is all ones, which mask nothing. Assumes nothing.
use Rattle.std.proofs.Common.{◌≡◌, ℕ, ◌+◌, ◌%◌, ◌^◌, ◌<◌, Bool, true, false, ap, ◌∙◌, mod-eq_of_lt, arith}
use lib.Bits.{bit_and, and_mask, and_zero_r}
use Rattle.span.specs.Word.{sel, digit, odd}
use Rattle.span.proofs.Word.{odd-mod}
use Rattle.span.proofs.bits.select.Goals as goal

masked : (word mask : ℕ) (s : Bool) → word < 2 ^ 64 → mask < 2 ^ 64 → (mask + digit s) % 2 ^ 64 ≡ 0
    → bit_and word mask ≡ sel s word
masked word mask true hw hm e =
    ap (bit_and word) (omega arith) ∙ and_mask word 64 ∙ mod-eq_of_lt hw
masked word mask false hw hm e = ap (bit_and word) (omega arith) ∙ and_zero_r word

pub returns : goal.returns
returns c =
    let on = c.args.on in
    masked c.args.word _ (odd on) c.ranges.word.fits (omega arith) (omega (arith, odd-mod on, c.wrapping_neg.ensures))
