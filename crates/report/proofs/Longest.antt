-- No line is longer than the longest. Assumes nothing.
use mathlib.Core.Path.{ap}
use mathlib.Core.List.{[], ◌∷◌, ◌++◌}
use Prim.Native.Nat.{ℕ, ◌^◌, ◌≤◌, ◌<◌}
use native.Mathlib.Omega.{arith}
use lib.ListN.{length, length-append}
use Rattle.link.specs.declared.decode.Delivered.{Delivered}
use Rattle.link.specs.Decoder.{mark_error}
use Rattle.report.specs.Text.{mark_word}
use Rattle.report.specs.Text.{decimal_of, space, newline, line_of, refused_line}
use Rattle.report.specs.Writing.{longest, LongestLaw}
use Rattle.report.proofs.Digits.{digits-64, digits-16}
use Rattle.report.proofs.Written.{field-length, word-length, line-fields}

line-longest : (k : ℕ) (d : Delivered) → k < 2 ^ 64 → d.info < 2 ^ 16 → mark_error d.mark < 2 ^ 16
    → length (line_of k d) ≤ longest
line-longest k d a b c =
    let number = decimal_of k ++ (space ∷ []) in
    let info = decimal_of d.info ++ (space ∷ []) in
    let mark = mark_word d.mark ++ (space ∷ []) in
    let error = decimal_of (mark_error d.mark) ++ (newline ∷ []) in
    omega (
      arith,
      ap length (line-fields k d),
      length-append number (info ++ (mark ++ error)),
      length-append info (mark ++ error),
      length-append mark error,
      field-length k space,
      field-length d.info space,
      field-length (mark_error d.mark) newline,
      word-length d.mark,
      digits-64 k a,
      digits-16 d.info b,
      digits-16 (mark_error d.mark) c,
    )

refusal-longest : (k : ℕ) → k < 2 ^ 64 → length (refused_line k) ≤ longest
unfolding refused_line
refusal-longest k h = omega (arith, digits-64 k h, field-length k newline)

pub longest-line : LongestLaw
longest-line = record {
  delivery = line-longest;
  refusal = refusal-longest;
  odd = omega arith;
  header = omega arith;
}
