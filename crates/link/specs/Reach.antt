-- How far one bit of a message reaches (02, CR 7): which coded bits change with it, and how many. The coder's memory is
-- any well-formed one, a started one among them.
--
--   Changed j x y    block y is block x with symbol j changed, and no other
--   ChangedSymbol    which block that is
--   OneSymbol t s before after x y j   two messages, from one memory on, that differ in symbol j of one block only
--   response t j d   what changing symbol j of a block changes in the coded block d blocks later (the impulse response)
--   ImpulseResponse   which coded bits change
--   distance xs ys   how many bits of two block sequences differ (their Hamming distance)
--   BitsChanged      how many coded bits change, however many blocks follow
--   ReachAfter least, OneBitReach   how many change, where at least so many blocks follow
--   OneBitReachSharp   with one block less following it may be fewer
use Rattle.std.specs.Prelude.{◌≡◌, true, ◌&&◌, ◌↔◌, ℕ, zero, suc, ◌+◌, ◌-◌, ◌*◌, ◌/◌, ◌%◌, ◌^◌, ◌≤◌, ◌<◌, eqb, length}
use Rattle.std.specs.Prelude.{get_or}
use Rattle.std.specs.Bool.{xor}
use mathlib.Core.List.{List, ◌∷◌, ◌++◌, map, zip_with, sum}
use Rattle.std.specs.Int.Count.{ones}
use Rattle.span.specs.Word.{◌⊕◌, bit, sel, digit}
use Rattle.span.specs.Combination.{Below}
use Rattle.tables.specs.declared.table.Table.{Table}
use Rattle.tables.specs.Table.{fit, info_rows}
use Rattle.link.specs.Memory.{delay_of}
use Rattle.link.specs.Formed.{CoderFormed}
use Rattle.link.specs.Massey.{row_of, symbol}
use Rattle.link.specs.Sums.{coded_from}

abbrev pub Changed : ℕ → ℕ → ℕ → Type 0
Changed j x y = (i : ℕ) → 1 ≤ i → symbol i y ≡ xor (symbol i x) (eqb i j)

-- there is one such block
abbrev pub ChangedSymbol : Type 0
ChangedSymbol = (j x y : ℕ) → 1 ≤ j → Changed j x y ↔ (y ≡ x ⊕ 2 ^ (j - 1))

-- "changing symbol j of one information block": the blocks before it and after it are any that are not refused
pub record OneSymbol (t : Table) (s before after : List ℕ) (x y j : ℕ) : Type 0 where
  pub fits : fit t ≡ true
  pub formed : CoderFormed t s
  pub below : Below (t.symbols - 1) (before ++ (x ∷ after))
  pub symbol_from : 1 ≤ j
  pub symbol_to : j < t.symbols
  pub changed : Changed j x y

-- symbol j itself, and the parity k × m blocks later for each one k of row j (000, eq. 1 and III.A)
abbrev pub response : Table → ℕ → ℕ → ℕ
response t j d =
    sel (eqb d 0) (2 ^ (j - 1))
    + digit (eqb (d % t.depth) 0 && bit (d / t.depth) (row_of (info_rows t) j)) * 2 ^ (t.symbols - 1)

-- 000, II.A: a generator "is the transform of the output sequence", that of the parity, "when the jth information
-- sequence is the "unit impulse" sequence 1, 0, 0, 0, ..". (The paper prints T^(j) for that output sequence; the parity
-- is T^(b) in eq. 1.) The coded blocks before the changed one stay, and the last that can differ is that m × (N − 1)
-- blocks after it, since row j has N bits.
abbrev pub ImpulseResponse : Type 0
ImpulseResponse =
    (t : Table) (s before after : List ℕ) (x y j : ℕ) → OneSymbol t s before after x y j →
    let was = coded_from t s (before ++ (x ∷ after)) in
    let is = coded_from t s (before ++ (y ∷ after)) in
    ((p : ℕ) → p < length before → get_or is p 0 ≡ get_or was p 0)
    × ((d : ℕ) → d ≤ length after
    → get_or is (length before + d) 0 ≡ get_or was (length before + d) 0 ⊕ response t j d)

abbrev pub distance : List ℕ → List ℕ → ℕ
distance xs ys = sum ◌+◌ zero (map ones (zip_with ◌⊕◌ xs ys))

-- of row j the bits k with k × m at most the number of blocks that follow
abbrev pub BitsChanged : Type 0
BitsChanged =
    (t : Table) (s before after : List ℕ) (x y j : ℕ) → OneSymbol t s before after x y j
    → distance (coded_from t s (before ++ (x ∷ after))) (coded_from t s (before ++ (y ∷ after)))
    ≡ 1 + ones (row_of (info_rows t) j % 2 ^ suc (length after / t.depth))

abbrev pub ReachAfter : (Table → ℕ) → Type 0
ReachAfter least =
    (t : Table) (s before after : List ℕ) (x y j : ℕ) → OneSymbol t s before after x y j → least t ≤ length after
    → distance (coded_from t s (before ++ (x ∷ after))) (coded_from t s (before ++ (y ∷ after)))
    ≡ 1 + ones (row_of (info_rows t) j)

-- "changing symbol j of one information block changes exactly 1 + (ones in row j) coded bits, if at least m × (N − 1)
-- further blocks follow."
abbrev pub OneBitReach : Type 0
OneBitReach = ReachAfter delay_of

-- On Z, whose row 10 has bits 1 and 3, m × (N − 1) is 3. With two blocks that follow two coded bits change, and not
-- three. (`BitsChanged`: one block less is too few wherever row j has bit N − 1.)
abbrev pub OneBitReachSharp : Type 0
OneBitReachSharp = ReachAfter (λ t. delay_of t - 1) → ⊥
