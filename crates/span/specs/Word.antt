-- Words over GF(2): a number stands for its binary digits.
--
--   a ⊕ b                 exclusive or
--   odd x                 the parity of a number: whether it is odd, which is its bit 0
--   bit p x               whether bit p of x is 1
--   sel s x               x where s holds, and 0 where it does not
--   digit s               s as a number, 1 or 0
--   common_parity k a b   whether a and b have an odd count of common ones among places 0 to k − 1
--   shifted N l x         x shifted by l in N bits
use Rattle.std.specs.Prelude.{ℕ, zero, suc, ◌*◌, ◌/◌, ◌%◌, ◌^◌, Bool, true, false, ◌&&◌, ◌==◌, bit_xor}
use Rattle.std.specs.Bool.{xor}

infixl 65 ◌⊕◌
unfoldable pub ◌⊕◌ : ℕ → ℕ → ℕ
a ⊕ b = bit_xor a b

unfoldable pub odd : ℕ → Bool
odd x = x % 2 == 1

unfoldable pub bit : ℕ → ℕ → Bool
bit p x = odd (x / 2 ^ p)

abbrev pub sel : Bool → ℕ → ℕ
sel true x = x
sel false x = 0

abbrev pub digit : Bool → ℕ
digit s = sel s 1

-- 01, The code: "A sum of this kind is odd exactly if the count of common ones is odd". The sum is the exclusive or,
-- over the places, of the product of the two bits there: place 0 first, then the places above it.
unfoldable pub common_parity : ℕ → ℕ → ℕ → Bool
common_parity zero a b = false
common_parity (suc k) a b = xor (odd a && odd b) (common_parity k (a / 2) (b / 2))

-- 01, The code: "Shifted image by l: the image × 2^l, bits N and above dropped".
unfoldable pub shifted : ℕ → ℕ → ℕ → ℕ
shifted N l x = x * 2 ^ l % 2 ^ N
