-- The lines of the listing program, as bytes: 01, "It prints a header, then one line a delivery: number from 0,
-- information, mark, e or 0."
--
--   decimal_of x       the decimal digits of x, with no zero in front, and "0" for 0
--   glyph d            the byte of a digit
--   decimal_within fuel x   the digits of x, if they are at most `fuel`
--   space, newline     the two other bytes
--   header_line        "block info mark error"
--   mark_word k        the word of a mark
--   line_of number d   the line of a delivery
--   refused_line k     "refused", a space and the number
--   odd_line           "odd byte"
--   Decimal            what the digits of a number are
use Rattle.std.specs.Prelude.{◌≡◌, cond, List, [], ◌∷◌, ◌++◌, ℕ, zero, suc, ◌+◌, ◌/◌, ◌%◌, ◌≤◌, ◌<◌, ltb}
use Rattle.link.specs.declared.decode.Mark.{Mark}
use Rattle.link.specs.declared.decode.Mark.TheVariants.{Clean, Held, Corrected, Doubtful, Parity}
use Rattle.link.specs.declared.decode.Delivered.{Delivered}
use Rattle.link.specs.Decoder.{mark_error}

-- the byte of a digit: "0" is 48
abbrev pub glyph : ℕ → ℕ
glyph d = 48 + d

-- a number below 10 is its digit, any other the digits of its tenth and then its last digit; `fuel` bounds the digits
unfoldable pub decimal_within : ℕ → ℕ → List ℕ
decimal_within zero x = []
decimal_within (suc fuel) x = cond (ltb x 10) (glyph x ∷ []) (decimal_within fuel (x / 10) ++ (glyph (x % 10) ∷ []))

-- x has at most x + 1 digits
unfoldable pub decimal_of : ℕ → List ℕ
decimal_of x = decimal_within (suc x) x

-- so the bound says nothing
abbrev pub Decimal : Type 0
Decimal =
    (x : ℕ)
    → (x < 10 → decimal_of x ≡ glyph x ∷ []) × (10 ≤ x → decimal_of x ≡ decimal_of (x / 10) ++ (glyph (x % 10) ∷ []))

abbrev pub space : ℕ
space = 32

abbrev pub newline : ℕ
newline = 10

-- "block info mark error"
abbrev pub header_line : List ℕ
header_line =
    98 ∷ 108 ∷ 111 ∷ 99 ∷ 107 ∷ space ∷ 105 ∷ 110 ∷ 102 ∷ 111 ∷ space ∷ 109 ∷ 97 ∷ 114 ∷ 107 ∷ space
    ∷ 101 ∷ 114 ∷ 114 ∷ 111 ∷ 114 ∷ newline ∷ []

-- its word, in bytes: 01 has "clean", "held", "corrected" and "doubtful", and 02, CR 4, "parity"
abbrev pub mark_word : Mark → List ℕ
mark_word Clean = 99 ∷ 108 ∷ 101 ∷ 97 ∷ 110 ∷ []
mark_word Held = 104 ∷ 101 ∷ 108 ∷ 100 ∷ []
mark_word (Corrected e) = 99 ∷ 111 ∷ 114 ∷ 114 ∷ 101 ∷ 99 ∷ 116 ∷ 101 ∷ 100 ∷ []
mark_word Doubtful = 100 ∷ 111 ∷ 117 ∷ 98 ∷ 116 ∷ 102 ∷ 117 ∷ 108 ∷ []
mark_word (Parity e) = 112 ∷ 97 ∷ 114 ∷ 105 ∷ 116 ∷ 121 ∷ []

-- "number from 0, information, mark, e or 0"
unfoldable pub line_of : ℕ → Delivered → List ℕ
line_of number d =
    decimal_of number ++ (space ∷ decimal_of d.info
    ++ (space ∷ mark_word d.mark ++ (space ∷ decimal_of (mark_error d.mark) ++ (newline ∷ []))))

-- "A refusal prints one line, `refused`, a space and the number"
unfoldable pub refused_line : ℕ → List ℕ
refused_line k = 114 ∷ 101 ∷ 102 ∷ 117 ∷ 115 ∷ 101 ∷ 100 ∷ space ∷ decimal_of k ++ (newline ∷ [])

-- "an odd last byte prints `odd byte`"
abbrev pub odd_line : List ℕ
odd_line = 111 ∷ 100 ∷ 100 ∷ space ∷ 98 ∷ 121 ∷ 116 ∷ 101 ∷ newline ∷ []
