-- 02, CR 6: the code of the Iwadare-Massey stations (001, 21.2.2, Example 21.4), and the words that are lent. A block
-- has three symbols: "A block's number gives symbols 0, 1 and 2 the weights 1, 2 and 4."
--
--   generators                   the generators of symbols 0 and 1
--   coder_words, decoder_words   how many words a memory has
--   delay                        how many blocks a delivery is late
--   pending_bound, terms_bound, delayed_bound, received_bound   what a pending word, the terms, a delayed block or one of
--                                information, and a received block are below
--   coder_pending s              the coder's pending word
--   fill_of, pending_of, terms_of s   the decoder's fill, pending word and last 12 terms
--   word_back k, delayed_back s k   where the block k back stands among the words, and the block
--   fill_next fill               the fill after a step
use Rattle.std.specs.Prelude.{cond, List, [], ◌∷◌, ℕ, ◌+◌, ◌-◌, ◌^◌, ltb, get_or}

-- "The generators are D^7 + D^18 for symbol 0 and D^3 + D^15 for symbol 1." Bit k of a row is the coefficient of D^k,
-- as in 01.
abbrev pub generators : List ℕ
generators = (2 ^ 7 + 2 ^ 18) ∷ (2 ^ 3 + 2 ^ 15) ∷ []

-- "The coder's memory is one pending word, below 2^18."
abbrev pub coder_words : ℕ
coder_words = 1

abbrev pub pending_bound : ℕ
pending_bound = 2 ^ 18

abbrev pub coder_pending : List ℕ → ℕ
coder_pending s = get_or s 0 0

-- "The decoder's is 21 words: the fill (0 to 18), the pending word, the last 12 terms as a number below 2^12 with the
-- newest in bit 11, and 18 delayed information blocks below 4, oldest first."
abbrev pub decoder_words : ℕ
decoder_words = 21

abbrev pub delay : ℕ
delay = 18

abbrev pub fill_of : List ℕ → ℕ
fill_of s = get_or s 0 0

abbrev pub pending_of : List ℕ → ℕ
pending_of s = get_or s 1 0

abbrev pub terms_of : List ℕ → ℕ
terms_of s = get_or s 2 0

abbrev pub terms_bound : ℕ
terms_bound = 2 ^ 12

abbrev pub delayed_bound : ℕ
delayed_bound = 2 ^ 2

abbrev pub received_bound : ℕ
received_bound = 2 ^ 3

-- oldest first: the block 18 back stands at word 3, and the block 1 back at word 20
abbrev pub word_back : ℕ → ℕ
word_back k = 21 - k

abbrev pub delayed_back : List ℕ → ℕ → ℕ
delayed_back s k = get_or s (word_back k) 0

-- 01: "Fill grows to m × (N − 1) and stays", which is 18 here
abbrev pub fill_next : ℕ → ℕ
fill_next fill = cond (ltb fill delay) (fill + 1) fill
