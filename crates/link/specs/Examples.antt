-- The examples T1 to T12 of 01, and the two of 02, CR 5, as data. The depth m is 1 throughout.
--
--   Example       what is asked and what is answered
--   ReadsAs bytes t       reading the bytes answers with the table t, and number 0
--   RefusedAs bytes ns    reading them is refused with the numbers ns
--   Holds x, AllHold xs   the definitions give that answer, and all of these
--   row j a b     a row record
--   bytes_of_z    the bytes of T1
--   bytes_of_t9   those of T9
--   examples      T1 to T12, and 02's two
--   ExamplesLaw   all of them hold
use Rattle.link.specs.Refusals.{Answer}
use Rattle.link.specs.declared.decode.Delivered.{Delivered}
use Rattle.std.specs.Prelude.{Option, ◌≡◌, List, [], ◌∷◌, ◌++◌, ℕ, ◌-◌, ◌*◌, get_or, replicate, None, Ok, IsErr}
use Rattle.tables.specs.declared.table.Table.{Table}
use Rattle.tables.specs.Code.{Clashes}
use Rattle.tables.specs.Table.{table, rows_of}
use Rattle.tables.specs.Format.{parsed, parse}
use Rattle.tables.specs.Reading.{read_numbers, reading}
use Rattle.tables.specs.Made.{making}
use Rattle.link.specs.Memory.{started}
use Rattle.link.specs.Coder.{code_answer, code_memory}
use Rattle.link.specs.declared.decode.Mark.TheVariants.{Clean, Held, Parity, Doubtful}
use Rattle.link.specs.Decoder.{decode_answer, decode_memory}
use Rattle.link.specs.Computed.{calls, answers_by, delivers}

-- of reading, the bytes; of making, n; of steps, the bytes of the table, the first memory and the blocks handed to the
-- calls; and what is answered
pub data Example : Type 0 where
  accepts : List ℕ → Table → Example
  refuses : List ℕ → ℕ → ℕ → Example
  clashes : List ℕ → ℕ → ℕ → ℕ → Example
  clashes_first : List ℕ → ℕ → ℕ → ℕ → Example
  makes : ℕ → List ℕ → Example
  codes : List ℕ → List ℕ → List ℕ → List (Answer ℕ) → Example
  decodes : List ℕ → List ℕ → List ℕ → List (Answer (Option Delivered)) → Example

abbrev pub ReadsAs : List ℕ → Table → Type 0
ReadsAs bytes t = (read_numbers (reading bytes) ≡ 0 ∷ []) × (reading bytes ≡ Ok t)

abbrev pub RefusedAs : List ℕ → List ℕ → Type 0
RefusedAs bytes ns = (read_numbers (reading bytes) ≡ ns) × IsErr (reading bytes)

-- the bytes are accepted as the table; refused with a number and a place; refused for 10, which the triple shows;
-- refused for 10 with the triple, the first; n and m = 1 make these rows; the bytes are accepted, and with their table
-- the calls so answer
abbrev pub Holds : Example → Type 0
Holds (accepts bytes t) = ReadsAs bytes t
Holds (refuses bytes k p) = RefusedAs bytes (k ∷ p ∷ [])
Holds (clashes bytes l e0 e1) =
    (t : Table) × (parse bytes ≡ parsed t) × Clashes t.span (rows_of t) l e0 e1
    × (get_or (read_numbers (reading bytes)) 0 0 ≡ 10) × IsErr (reading bytes)
Holds (clashes_first bytes l e0 e1) = RefusedAs bytes (10 ∷ l ∷ e0 ∷ e1 ∷ [])
Holds (makes n rows) = making n 1 ≡ Ok (table n (2 * n) 1 (rows ++ replicate (16 - n) 0))
Holds (codes bytes s bs cs) =
    (t : Table) × ReadsAs bytes t × (answers_by code_answer code_memory s (calls t bs) ≡ cs)
Holds (decodes bytes s rs ds) =
    (t : Table) × ReadsAs bytes t × (answers_by decode_answer decode_memory s (calls t rs) ≡ ds)

abbrev pub AllHold : List Example → Type 0
AllHold [] = Unit {0}
AllHold (x ∷ xs) = Holds x × AllHold xs

-- the record of row j whose two low bytes are a and b
abbrev pub row : ℕ → ℕ → ℕ → List ℕ
row j a b = 2 ∷ j ∷ a ∷ b ∷ replicate 6 0

-- Z, as the bytes of T1
abbrev pub bytes_of_z : List ℕ
bytes_of_z = 1 ∷ 2 ∷ 4 ∷ 1 ∷ 2 ∷ 1 ∷ 10 ∷ 0 ∷ 0 ∷ 0 ∷ 0 ∷ 0 ∷ 0 ∷ 0 ∷ 0 ∷ []

-- n = 5, N = 10, rows 976, 904, 772, 514
abbrev pub bytes_of_t9 : List ℕ
bytes_of_t9 = (1 ∷ 5 ∷ 10 ∷ 1 ∷ []) ++ row 1 208 3 ++ row 2 136 3 ++ row 3 4 3 ++ row 4 2 2 ++ (0 ∷ [])

abbrev pub examples : List Example
examples =
    -- T1: Z, that is n = 2, N = 4, row 10
    accepts bytes_of_z (table 2 4 1 (10 ∷ replicate 14 0))
    -- T2 to T5
    ∷ refuses [] 1 0
    ∷ refuses (0 ∷ []) 4 0
    ∷ refuses (1 ∷ []) 3 0
    ∷ refuses (1 ∷ 17 ∷ 4 ∷ 1 ∷ []) 5 0
    -- T6: n = 2, N = 4, row 2: no other triple shows it
    ∷ clashes_first ((1 ∷ 2 ∷ 4 ∷ 1 ∷ []) ++ row 1 2 0 ++ (0 ∷ [])) 1 1 2
    -- T7: n = 3, N = 6, rows 56, 34 (000, example 2)
    ∷ accepts ((1 ∷ 3 ∷ 6 ∷ 1 ∷ []) ++ row 1 56 0 ++ row 2 34 0 ++ (0 ∷ [])) (table 3 6 1 (56 ∷ 34 ∷ replicate 13 0))
    -- T8
    ∷ makes 3 (52 ∷ 34 ∷ [])
    ∷ makes 4 (232 ∷ 196 ∷ 130 ∷ [])
    ∷ makes 5 (976 ∷ 392 ∷ 772 ∷ 514 ∷ [])
    -- T9: "l = 3, e0 = 3, e1 = 26 is one pair"
    ∷ clashes bytes_of_t9 3 3 26
    -- T10 to T12. A coder of Z has 2 words and a decoder 7: turn, fill, pending word, syndrome word, and 3 delayed
    -- blocks. T10: "Z codes 1, 1, 0, 0, 0 as 1, 3, 2, 2, 2."
    ∷ codes bytes_of_z (started 2) (1 ∷ 1 ∷ 0 ∷ 0 ∷ 0 ∷ []) (Ok 1 ∷ Ok 3 ∷ Ok 2 ∷ Ok 2 ∷ Ok 2 ∷ [])
    -- T11: "Z, started, receives 2, 2, 0, 0: three times nothing yet, then 0, doubtful."
    ∷ decodes bytes_of_z (started 7) (2 ∷ 2 ∷ 0 ∷ 0 ∷ [])
    ((Ok None) ∷ (Ok None) ∷ (Ok None) ∷ delivers 0 Doubtful ∷ [])
    -- T12: "Z, fill 3, pending word 4, all else 0, receives zeros: calls 1 to 5 deliver 0, call 6 delivers 0 marked
    -- corrected 2, call 7 is clean." 02, CR 4: "T12's sixth call then ends with that mark", parity.
    ∷ decodes bytes_of_z (0 ∷ 3 ∷ 4 ∷ 0 ∷ 0 ∷ 0 ∷ 0 ∷ []) (replicate 7 0)
    (delivers 0 Clean ∷ delivers 0 Clean ∷ delivers 0 Held ∷ delivers 0 Held ∷ delivers 0 Held
    ∷ delivers 0 (Parity 2) ∷ delivers 0 Clean ∷ [])
    -- 02, CR 5: "For rows 976, 904, 772, 514 that is l = 2, e0 = 7, e1 = 29. For n = 2, N = 4, row 1 it is l = 1,
    -- e0 = 3, e1 = 0."
    ∷ clashes_first bytes_of_t9 2 7 29
    ∷ clashes_first ((1 ∷ 2 ∷ 4 ∷ 1 ∷ []) ++ row 1 1 0 ++ (0 ∷ [])) 1 3 0
    ∷ []

abbrev pub ExamplesLaw : Type 0
ExamplesLaw = AllHold examples
