-- Filling lent blocks with a load: 02, CR 8, "Answers: first 12, then 17, the seed is 0."
--
--   load_fault t seed          12, 17 or 0
--   refusal_number e           the number of a refusal
--   load_answer, load_blocks   the answer, and the lent blocks after it
--   load_numbers r             the number of an answer
--   Loads t seed out r out'    what `fill_load` promises
--   LoadCalls                  a refusal has the number of the first reason that applies, and leaves the lent blocks;
--                              where none applies they are filled
--   LoadRows                   rows past n − 1 do not matter, and to the blocks of a load no row does
use Rattle.std.specs.Prelude.{◌≡◌, cond, ◌⊎◌, List, [], ◌∷◌, ℕ, eqb, length, Result, Ok, Err}
use Rattle.tables.specs.declared.table.Table.{Table}
use Rattle.tables.specs.Table.{fit, SameTable}
use Rattle.tables.specs.Lent.{with_rows}
use Rattle.link.specs.Refusals.{leaves, call_numbers}
use Rattle.load.specs.declared.fill.LoadError.{LoadError}
use Rattle.load.specs.declared.fill.LoadError.TheVariants.{UnfitTable, ZeroSeed}
use Rattle.load.specs.Load.{load_of}

-- 01, 12: "The handed table has n, N or m out of range, or one of its rows 1 to n − 1 has a one at bit N or above."
unfoldable pub load_fault : Table → ℕ → ℕ
load_fault t seed = cond (fit t) (cond (eqb seed 0) 17 0) 12

abbrev pub refusal_number : LoadError → ℕ
refusal_number UnfitTable = 12
refusal_number ZeroSeed = 17

unfoldable pub load_answer : Table → ℕ → Result (Unit {0}) LoadError
load_answer t seed = cond (fit t) (cond (eqb seed 0) (Err ZeroSeed) (Ok tt)) (Err UnfitTable)

-- "It fills lent 16-bit numbers to their end." A refusal writes none.
unfoldable pub load_blocks : Table → ℕ → List ℕ → List ℕ
load_blocks t seed out = leaves (load_fault t seed) (load_of t seed (length out)) out

abbrev pub load_numbers : Result (Unit {0}) LoadError → List ℕ
load_numbers (Ok _) = 0 ∷ []
load_numbers (Err e) = refusal_number e ∷ []

pub record Loads (t : Table) (seed : ℕ) (out : List ℕ) (r : Result (Unit {0}) LoadError) (out' : List ℕ) : Type 0 where
  pub answer : r ≡ load_answer t seed
  pub blocks : out' ≡ load_blocks t seed out
  pub numbers : load_numbers r ≡ call_numbers (load_fault t seed) []

abbrev pub LoadCalls : Type 0
LoadCalls =
    (t : Table) (seed : ℕ) (out : List ℕ) (r : Result (Unit {0}) LoadError) (out' : List ℕ) → Loads t seed out r out'
    → ((e : LoadError) → r ≡ Err e
    → let k = refusal_number e in
    (k ≡ load_fault t seed) × ((k ≡ 12) ⊎ (k ≡ 17)) × (out' ≡ out))
    × (load_fault t seed ≡ 0 → (r ≡ Ok tt) × (out' ≡ load_of t seed (length out)))

-- the rows 1 to n − 1 count for 12 only
abbrev pub LoadRows : Type 0
LoadRows =
    ((u t : Table) → SameTable u t → (seed : ℕ) (out : List ℕ)
    → (load_answer u seed ≡ load_answer t seed) × (load_blocks u seed out ≡ load_blocks t seed out))
    × ((t : Table) (rows : List ℕ) (seed k : ℕ) → load_of (with_rows t rows) seed k ≡ load_of t seed k)
