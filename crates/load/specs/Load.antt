-- 02, CR 8: the load as a list. "The load is the all-zero message as received: each number is the error block, 0 for a
-- right one." Of a table its n, its m and the guard m × (N − 1) count (000's guard space; after a fade it is doubled); x
-- is the state of the generator.
--
--   errors n k x            the errors of k blocks
--   burst_length m x        how many blocks a round's burst has
--   after_burst m x         the state after its errors are drawn
--   gap_length m guard x    how many blocks its gap has
--   after_round m x         the state after the round
--   round n m guard x       the blocks of a round
--   rounds n m guard k x    those of k rounds
--   load n m guard seed k   the first k blocks of the rounds from a seed on
--   load_of t seed k        the same of a table
--   LoadLength              a load has the length that is asked for
--   LoadRounds              it is the first blocks of any rounds that are enough
--   LoadCut                 a shorter load is the beginning of a longer one
--   LoadBelow               its blocks are below 2^n
use Rattle.std.specs.Prelude.{◌≡◌, List, [], ◌∷◌, ◌++◌, ℕ, zero, suc, ◌+◌, ◌%◌, ◌^◌, ◌≤◌, length, take, replicate}
use Rattle.span.specs.Combination.{Below}
use Rattle.tables.specs.declared.table.Table.{Table}
use Rattle.link.specs.Memory.{delay_of}
use Rattle.load.specs.Draws.{next_state, after}

-- "an error d mod 2^n for each block of it .. Here d is a fresh draw each time."
unfoldable pub errors : ℕ → ℕ → ℕ → List ℕ
errors n zero x = []
errors n (suc k) x = next_state x % 2 ^ n ∷ errors n k (next_state x)

-- "A round draws a burst length 1 + (d mod m)"
abbrev pub burst_length : ℕ → ℕ → ℕ
burst_length m x = 1 + next_state x % m

-- one draw for the length, and one for each block
abbrev pub after_burst : ℕ → ℕ → ℕ
after_burst m x = after (burst_length m x) (next_state x)

-- "then a gap of m × (N − 1) + (d mod 16) right blocks"
abbrev pub gap_length : ℕ → ℕ → ℕ → ℕ
gap_length m guard x = guard + next_state (after_burst m x) % 16

abbrev pub after_round : ℕ → ℕ → ℕ
after_round m x = next_state (after_burst m x)

abbrev pub round : ℕ → ℕ → ℕ → ℕ → List ℕ
round n m guard x = errors n (burst_length m x) (next_state x) ++ replicate (gap_length m guard x) 0

unfoldable pub rounds : ℕ → ℕ → ℕ → ℕ → ℕ → List ℕ
rounds n m guard zero x = []
rounds n m guard (suc k) x = round n m guard x ++ rounds n m guard k (after_round m x)

-- "It fills lent 16-bit numbers to their end": k of them, and as each round has a block, k rounds are enough
unfoldable pub load : ℕ → ℕ → ℕ → ℕ → ℕ → List ℕ
load n m guard seed k = take k (rounds n m guard k seed)

abbrev pub load_of : Table → ℕ → ℕ → List ℕ
load_of t seed k = load t.symbols t.depth (delay_of t) seed k

abbrev pub LoadLength : Type 0
LoadLength = (n m guard seed k : ℕ) → length (load n m guard seed k) ≡ k

abbrev pub LoadRounds : Type 0
LoadRounds =
    (n m guard seed k j : ℕ) → k ≤ length (rounds n m guard j seed)
    → take k (rounds n m guard j seed) ≡ load n m guard seed k

-- so that offices that lend different lengths have the same fades
abbrev pub LoadCut : Type 0
LoadCut = (n m guard seed k l : ℕ) → k ≤ l → take k (load n m guard seed l) ≡ load n m guard seed k

abbrev pub LoadBelow : Type 0
LoadBelow = (n m guard seed k : ℕ) → Below n (load n m guard seed k)
