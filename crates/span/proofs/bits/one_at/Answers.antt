-- `span::bits::one_at`: a one, shifted. Assumes nothing.
use Rattle.std.proofs.Common.{ℕ, ◌%◌, ◌^◌, sym, ap, ◌∙◌, one-mul}
use Rattle.span.proofs.Word.{shifted-code}
use Rattle.span.proofs.bits.one_at.Goals as goal

pub returns : goal.returns
returns c =
    c.shift.ensures ∙ sym (shifted-code 64 c.args.place 1) ∙ ap (λ (x : ℕ). x % 2 ^ 64) (one-mul (2 ^ c.args.place))
