-- `report::text::Lines::push_digits`: a digit, or the library's digits. Assumes nothing.
use mathlib.Core.Path.{◌≡◌, sym, ap, ◌∙◌}
use native.Mathlib.Omega.{arith}
use lib.ListN.{length}
use Rattle.report.specs.Text.{decimal_of}
use Rattle.report.proofs.Digits.{decimal, decimal-is, one-digit}
use Rattle.report.proofs.text.Lines.push_digits.Goals as goal
use Rattle.report.proofs.text.Lines.push_digits.Goals.{After-as_bytes}

digits : (s : goal.After-as_bytes) → s.as_bytes.result.now ≡ decimal_of s.args.number
digits s = s.as_bytes.ensures.value ∙ s.format.ensures.text ∙ sym (decimal-is s.args.number (omega arith))

pub push_byte-requires : goal.push_byte-requires
push_byte-requires c = omega (arith, one-digit c.args.number (omega arith))

pub returns-then-number-lt10 : goal.returns-then-number-lt10
returns-then-number-lt10 c = rw ((decimal c.args.number).0 (omega arith)) c.push_byte.ensures

pub push-requires : goal.push-requires
push-requires c = omega (arith, ap length (digits c))

pub returns : goal.returns
returns c = rw (digits (goal.at.returns c).After-as_bytes) at c.push.ensures
