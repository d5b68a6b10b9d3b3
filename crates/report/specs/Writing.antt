-- Bytes written into lent ones from a position on, and lines at the end of others.
--
--   written out at bs       `out` with bs from the position `at` on
--   Wrote out at bs r end   r is that, and `end` the position after bs
--   longest                 a line has no more bytes
--   room out at             whether as many are free
--   put out at bs           the bytes after a call that is to write bs: where there is no room, nothing is written
--   put_end out at bs       the position after it: where there is no room, it stays
--   Pushes bs l l'          the lines l' are l with bs written at their end, in the same lent bytes
--   Puts bs l l'            the same of a call that is to write bs
--   Longest, LongestLaw     no line is longer
use Rattle.std.specs.Prelude.{◌≡◌, Bool, cond, List, ◌++◌, ℕ, ◌+◌, ◌^◌, ◌≤◌, ◌<◌, leb, length, take, drop}
use Rattle.link.specs.declared.decode.Delivered.{Delivered}
use Rattle.link.specs.Decoder.{mark_error}
use Rattle.report.specs.declared.text.Lines.{Lines}
use Rattle.report.specs.Text.{header_line, line_of, refused_line, odd_line}

unfoldable pub written : List ℕ → ℕ → List ℕ → List ℕ
written out at bs = take at out ++ (bs ++ drop (at + length bs) out)

pub record Wrote (out : List ℕ) (at : ℕ) (bs r : List ℕ) (end : ℕ) : Type 0 where
  pub bytes : r ≡ written out at bs
  pub position : end ≡ at + length bs

-- a number of 64 bits, two of 16 and the longest mark, 20 + 5 + 5 + 9, and three spaces and the newline
abbrev pub longest : ℕ
longest = 43

abbrev pub room : List ℕ → ℕ → Bool
room out at = leb (at + longest) (length out)

unfoldable pub put : List ℕ → ℕ → List ℕ → List ℕ
put out at bs = cond (room out at) (written out at bs) out

unfoldable pub put_end : List ℕ → ℕ → List ℕ → ℕ
put_end out at bs = cond (room out at) (at + length bs) at

-- the same lent bytes, with bs written at the end of the lines
pub record Pushes (bs : List ℕ) (before after : Lines) : Type 0 where
  pub same_reference : after.bytes.ghost_name ≡ before.bytes.ghost_name
  pub wrote : Wrote before.bytes.now before.end bs after.bytes.now after.end

-- the same if there is room for the longest line; otherwise nothing is written
pub record Puts (bs : List ℕ) (before after : Lines) : Type 0 where
  pub same_reference : after.bytes.ghost_name ≡ before.bytes.ghost_name
  pub position : after.end ≡ put_end before.bytes.now before.end bs
  pub bytes : after.bytes.now ≡ put before.bytes.now before.end bs

-- so where there is room every line is written whole
pub record Longest : Type 0 where
  pub delivery : (k : ℕ) (d : Delivered) → k < 2 ^ 64 → d.info < 2 ^ 16 → mark_error d.mark < 2 ^ 16
      → length (line_of k d) ≤ longest
  pub refusal : (k : ℕ) → k < 2 ^ 64 → length (refused_line k) ≤ longest
  pub odd : length odd_line ≤ longest
  pub header : length header_line ≤ longest

abbrev pub LongestLaw : Type 0
LongestLaw = Longest
