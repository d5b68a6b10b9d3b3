-- Combinations by lookup: four tables of 16 words, one after another, for the combinations of up to 16 words.
--
--   combinations ws c              the combinations of the words ws by the numbers from 0 to c − 1
--   lookup_tables g ws             g tables, one after another: of the first four words, of the next four, and so on
--   lookup_of ws                   the tables of the words ws
--   looked_up ls c                 the exclusive or of one word of each table: by bits 0 to 3 of c, 4 to 7, 8 to 11 and
--                                  12 to 15
--   LookedUp                       the tables give the combination
--   Doubled at width n row ls ms   how the code takes up one word: of the tables before, ls, and after, ms
--   Grouped ws g ls ms             how the code makes table g
use Rattle.std.specs.Prelude.{◌≡◌, ℕ, zero, suc, ◌+◌, ◌*◌, ◌/◌, ◌%◌, ◌<◌, ◌≤◌, List, [], ◌∷◌, ◌++◌, length, drop}
use Rattle.std.specs.Prelude.{slice_index, slice_index_or}
use Rattle.span.specs.Word.{◌⊕◌}
use Rattle.span.specs.Combination.{combination}

unfoldable pub combinations : List ℕ → ℕ → List ℕ
combinations ws zero = []
combinations ws (suc c) = combinations ws c ++ (combination ws c ∷ [])

-- a table has the combinations of four words by the 16 numbers of four bits
unfoldable pub lookup_tables : ℕ → List ℕ → List ℕ
lookup_tables zero ws = []
lookup_tables (suc g) ws = combinations ws 16 ++ lookup_tables g (drop 4 ws)

abbrev pub lookup_of : List ℕ → List ℕ
lookup_of ws = lookup_tables 4 ws

unfoldable pub looked_up : List ℕ → ℕ → ℕ
looked_up ls c =
    slice_index_or ls (c % 16) 0 ⊕ slice_index_or ls (16 + c / 16 % 16) 0
    ⊕ slice_index_or ls (32 + c / 256 % 16) 0 ⊕ slice_index_or ls (48 + c / 4096 % 16) 0

-- the tables give the combination, of at most 16 words
abbrev pub LookedUp : Type 0
LookedUp = (ws : List ℕ) (c : ℕ) → length ws ≤ 16 → looked_up (lookup_of ws) c ≡ combination ws c

-- the first n of the `width` entries from `at` on stand once more behind these, with `row` added; nothing else changes
pub record Doubled (at width n row : ℕ) (ls ms : List ℕ) : Type 0 where
  pub size : length ms ≡ length ls
  pub more : (v : ℕ) → v < n → slice_index ms (at + width + v) ≡ slice_index_or ls (at + v) 0 ⊕ row
  pub below : (i : ℕ) → i < at + width → slice_index ms i ≡ slice_index ls i
  pub above : (i : ℕ) → at + width + n ≤ i → slice_index ms i ≡ slice_index ls i

-- the table is made, where its first entry was 0, and no other is changed
pub record Grouped (ws : List ℕ) (g : ℕ) (ls ms : List ℕ) : Type 0 where
  pub size : length ms ≡ length ls
  pub made : slice_index_or ls (16 * g) 0 ≡ 0 → (v : ℕ) → v < 16
      → slice_index ms (16 * g + v) ≡ combination (drop (4 * g) ws) v
  pub below : (i : ℕ) → i < 16 * g → slice_index ms i ≡ slice_index ls i
  pub above : (i : ℕ) → 16 * g + 16 ≤ i → slice_index ms i ≡ slice_index ls i
