-- Seed 1, worked out.
--
--   FirstDraw                     "seed 1 draws 270369 first"
--   small_table, SmallMade        the made table for n = 2 and m = 3
--   first_blocks, FirstBlocks     the first 53 blocks of its load of that table
--   first_answers, FirstAnswers   what a started decoder answers to the first 31 of them
use Rattle.link.specs.Refusals.{Answer}
use Rattle.link.specs.declared.decode.Delivered.{Delivered}
use Rattle.std.specs.Prelude.{Option, ◌≡◌, List, [], ◌∷◌, ◌++◌, ℕ, replicate, None, Ok}
use Rattle.tables.specs.declared.table.Table.{Table}
use Rattle.tables.specs.Made.{made_table, making}
use Rattle.link.specs.declared.decode.Mark.TheVariants.{Clean, Held, Corrected, Parity}
use Rattle.link.specs.Computed.{delivers}
use Rattle.link.specs.Sums.{answers_to}
use Rattle.load.specs.Draws.{drawn}
use Rattle.load.specs.Load.{load_of}

-- 1 shifted left by 13 is 8192; the exclusive or with 1 is 8193. Shifted right by 17 that is 0, and so it stays.
-- Shifted left by 5 it is 262176, 2^18 + 2^5; it has no one in common with 8193, 2^13 + 1, so that the exclusive or is
-- the sum, 270369.
abbrev pub FirstDraw : Type 0
FirstDraw =
    drawn (record { state = 1 }) ≡ record { number = 270369; next = record { state = 270369 } }

abbrev pub small_table : Table
small_table = made_table 2 3

abbrev pub SmallMade : Type 0
SmallMade = making 2 3 ≡ Ok small_table

-- n is 2, N is 4, m is 3, so that m × (N − 1) is 9. The draws, and what each is used for:
--
--   270369       mod 3 is 0: a burst of 1 block
--   67634689     mod 4 is 1, its error
--   2647435461   mod 16 is 5: a gap of 14
--   307599695    mod 3 is 2: a burst of 3
--   2398689233   mod 4 is 1
--   745495504    mod 4 is 0: a right block within a burst
--   632435482    mod 4 is 2
--   435756210    mod 16 is 2: a gap of 11
--   2005365029   mod 3 is 2: a burst of 3
--   2916098932   mod 4 is 0
--   2657092299   mod 4 is 3
--   1495045943   mod 4 is 3
--   3031976842   mod 16 is 10: a gap of 19
--   82049198     mod 3 is 2: a burst of 3, of which two blocks stand before the end
--   87470069     mod 4 is 1
--   3385103793   mod 4 is 1
abbrev pub first_blocks : List ℕ
first_blocks =
    1 ∷ (replicate 14 0 ++ (1 ∷ 0 ∷ 2 ∷ (replicate 11 0 ++ (0 ∷ 3 ∷ 3 ∷ (replicate 19 0 ++ (1 ∷ 1 ∷ []))))))

abbrev pub FirstBlocks : Type 0
FirstBlocks = load_of small_table 1 53 ≡ first_blocks

-- Row 1 is 10, so that the images are 0, 10, 1, 11. Blocks are counted from 0 here. Block 0, with its first symbol
-- wrong, is delivered with block 9: the terms of its stream are 0, 1, 0, 1 then. Of block 15 the same terms come with
-- blocks 15, 18, 21 and 24, and while they move down blocks 9 and 12 of that stream are delivered, held. Of block 17,
-- with its parity wrong, they are 1, 0, 0, 0; blocks 8, 11 and 14 are held before it. Of block 30 only the first term,
-- 1, has come, and it holds block 21.
abbrev pub first_answers : List (Answer (Option Delivered))
first_answers =
    replicate 9 (Ok None) ++ (delivers 0 (Corrected 1) ∷ (replicate 7 (delivers 0 Clean)
    ++ (delivers 0 Held ∷ delivers 0 Held ∷ delivers 0 Clean ∷ delivers 0 Held ∷ delivers 0 Held ∷ delivers 0 Clean
    ∷ delivers 0 Held ∷ delivers 0 (Corrected 1) ∷ delivers 0 Clean ∷ delivers 0 (Parity 2) ∷ delivers 0 Clean
    ∷ delivers 0 Clean ∷ delivers 0 Clean ∷ delivers 0 Held ∷ [])))

abbrev pub FirstAnswers : Type 0
FirstAnswers = answers_to small_table (load_of small_table 1 31) ≡ first_answers
