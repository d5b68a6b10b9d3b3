-- Words of 64 bits as code has them: masks, and a bit at a place above others. Assumes nothing.
--
--   above-mask    a word is above the mask of k places exactly if it is 2^k or more
--   masked_low    what the mask of k places keeps of a word is the word mod 2^k
--   or_above      the ones of two words together are 2^k or more exactly if one of the words is
--   bit-most      a bit at place k is at most 2^k
--   bit_shifted   no bit is lost where it is shifted to a place of the word
--   weight_fits   the weight of a place of the word is a word
--   topped-lt     a number below 2^k with a bit at place k is below 2^(k+1)
use Rattle.std.proofs.Common.{◌≡◌, ℕ, suc, ◌+◌, ◌-◌, ◌*◌, ◌%◌, ◌^◌, ◌<◌, ◌≤◌, min, Bool, true, false, ◌||◌, ltb, leb}
use Rattle.std.proofs.Common.{sym, ap, ◌∙◌, mod-eq_of_lt, one-mul, zero-mul, arith, pow_pos, pow_mono, le-ltb, lt-ltb}
use Rattle.std.proofs.Common.{le-leb}
use native.Mathlib.Decide.{dec_lt}
use borrow.Author.Tests.{lt-leb}
use lib.Bits.{bit_and, bit_or, and_mask, or_lt, or_add_and, and_le_l, and_le_r}
use lib.Pow.{pow-lt}
use Rattle.span.specs.Word.{digit}

pub above-mask : (k r x : ℕ) → k ≤ 64 → r ≡ 2 ^ min k 64 - 1 → ltb r x ≡ leb (2 ^ k) x
above-mask k r x h e = go (dec_lt r x)
  where
    most : suc r ≡ 2 ^ k
    most =
        let all : min k 64 ≡ k = omega arith in
        let some = pow_pos k in
        let same : 2 ^ min k 64 ≡ 2 ^ k = ap (λ (j : ℕ). 2 ^ j) all in
        omega arith

    go : Dec (r < x) → ltb r x ≡ leb (2 ^ k) x
    go (yes l) = lt-ltb r x l ∙ sym (le-leb (2 ^ k) x (let z = most in omega arith))
    go (no l) = le-ltb r x (omega arith) ∙ sym (lt-leb (2 ^ k) x (let z = most in omega arith))

pub masked_low : (k r x : ℕ) → k ≤ 64 → r ≡ 2 ^ min k 64 - 1 → bit_and x r ≡ x % 2 ^ k
masked_low k r x h e =
    let all : min k 64 ≡ k = omega arith in
    ap (bit_and x) (e ∙ ap (λ (j : ℕ). 2 ^ j - 1) all) ∙ and_mask x k

-- the ones of two words together
pub or_above : (k a b : ℕ) → leb (2 ^ k) (bit_or a b) ≡ leb (2 ^ k) a || leb (2 ^ k) b
or_above k a b = go (dec_lt a (2 ^ k)) (dec_lt b (2 ^ k))
  where
    go : Dec (a < 2 ^ k) → Dec (b < 2 ^ k) → leb (2 ^ k) (bit_or a b) ≡ leb (2 ^ k) a || leb (2 ^ k) b
    go (yes p) (yes q) = rw (lt-leb (2 ^ k) a p, lt-leb (2 ^ k) b q) (lt-leb (2 ^ k) (bit_or a b) (or_lt k a b p q))
    go (yes p) (no q) =
        let sum = or_add_and a b in
        let part = and_le_l a b in
        rw (lt-leb (2 ^ k) a p, le-leb (2 ^ k) b (omega arith)) (le-leb (2 ^ k) (bit_or a b) (omega arith))
    go (no p) q =
        let sum = or_add_and a b in
        let part = and_le_r a b in
        rw (le-leb (2 ^ k) a (omega arith)) (le-leb (2 ^ k) (bit_or a b) (omega arith))

pub bit-most : (s : Bool) (k : ℕ) → digit s * 2 ^ k ≤ 2 ^ k
bit-most true k = let e = one-mul (2 ^ k) in omega arith
bit-most false k = let e = zero-mul (2 ^ k) in omega arith

pub bit_shifted : (s : Bool) (k : ℕ) → k < 64 → digit s * 2 ^ k % 2 ^ 64 ≡ digit s * 2 ^ k
bit_shifted s k h =
    let l = bit-most s k in
    let p = pow_pos k in
    let m : 2 ^ suc k ≤ 2 ^ 64 = pow_mono h in
    mod-eq_of_lt (omega arith)

pub weight_fits : (place : ℕ) → place < 64 → 2 ^ place % 2 ^ 64 ≡ 2 ^ place
weight_fits place h = mod-eq_of_lt (pow-lt h)

-- a number below 2^k with a bit at place k: a coded block, its parity above the information
pub topped-lt : (ν b : ℕ) (s : Bool) → b < 2 ^ ν → b + digit s * 2 ^ ν < 2 ^ suc ν
topped-lt ν b s h = let l = bit-most s ν in omega arith
