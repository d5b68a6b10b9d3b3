-- What the crate proves of tables and refusals.
--
--   CodeRows     a fit table by value has n rows, the parity's among them
--   ImageLaw     the image of one symbol is its row, and images are linear
--   FirstApplies the test that it has the number of applies, and none before it
--   FirstNone    no refusal is the first that applies only if none applies
--   FirstRange   the first that applies has the number of one of the tests
--   ZeroUnfit    12 applies to the zero table
use Rattle.std.specs.Prelude.{◌≡◌, Bool, true, false, ◌≢◌, List, ◌∷◌, ℕ, suc, ◌+◌, ◌-◌, ◌≤◌, ◌<◌, length, get_or}
use Rattle.span.specs.Word.{◌⊕◌}
use Rattle.tables.specs.declared.table.Table.{Table}
use Rattle.tables.specs.Code.{weight, image}
use Rattle.tables.specs.Table.{zero_table, rows_of, fit}
use Rattle.tables.specs.Refusal.{first_of}

-- the table that a reading begins from
abbrev pub ZeroUnfit : Type 0
ZeroUnfit = fit zero_table ≡ false

-- so that an error block of a table, which is below 2 to the number of its rows, is below 2^n
abbrev pub CodeRows : Type 0
CodeRows = (t : Table) → fit t ≡ true → length t.rows ≡ 15 → length (rows_of t) ≡ t.symbols

abbrev pub ImageLaw : Type 0
ImageLaw = (rows : List ℕ)
    → ((j : ℕ) → image rows (weight j) ≡ get_or rows (j - 1) 0)
    × ((e d : ℕ) → image rows (e ⊕ d) ≡ image rows e ⊕ image rows d)

-- "the first that applies"
abbrev pub FirstApplies : Type 0
FirstApplies =
    (k : ℕ) (bs : List Bool) (j : ℕ) → 1 ≤ k → first_of k bs ≡ k + j
    → (j < length bs) × (get_or bs j false ≡ true) × ((i : ℕ) → i < j → get_or bs i true ≡ false)

abbrev pub FirstNone : Type 0
FirstNone =
    (k : ℕ) (b : Bool) (bs : List Bool) → 1 ≤ k → first_of k (b ∷ bs) ≡ 0 → (b ≡ false) × (first_of (suc k) bs ≡ 0)

abbrev pub FirstRange : Type 0
FirstRange = (k : ℕ) (bs : List Bool) → first_of k bs ≢ 0 → (k ≤ first_of k bs) × (first_of k bs < k + length bs)
