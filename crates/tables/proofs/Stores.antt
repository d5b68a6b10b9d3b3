-- The stores that write a table: one record after another. Assumes nothing.
use mathlib.Core.Path.{◌≡◌, refl, sym, ap, ◌∙◌}
use mathlib.Core.List.{List, [], ◌∷◌, ◌++◌}
use Prim.Native.Nat.{ℕ, zero, suc, ◌+◌, ◌-◌, ◌*◌, ◌≤◌, ◌<◌}
use native.Mathlib.Nat.{add-zero}
use native.Mathlib.Numerals.{add-one}
use native.Mathlib.Omega.{arith}
use lib.ListN.{length, set, drop, length-append}
use lib.Seq.{sets, sets-eq}
use Rattle.tables.specs.declared.table.Table.{Table}
use Rattle.tables.specs.Written.{bytes_of, sizes_record, row_record, row_records}
use Rattle.tables.proofs.Fit.{fit-facts}
use Rattle.tables.specs.Writing.{ascending, written, written_length, WrittenLength}

-- stored after one another is stored together
pub sets-append : (out : List ℕ) (at : ℕ) (a b : List ℕ) → sets out at (a ++ b) ≡ sets (sets out at a) (at + length a) b
sets-append out at [] b = rw (add-zero at)
sets-append out at (x ∷ a) b =
    let e : at + suc (length a) ≡ suc at + length a = omega arith in
    rw e (sets-append (set out at x) (suc at) a b)

-- one row more is stored: ten bytes
pub row-stored : (t : Table) (out : List ℕ) (at j n : ℕ) → j < n
    → sets (sets out at (row_record t j)) (at + 10) (row_records t (ascending (j + 1) (n - (j + 1))))
    ≡ sets out at (row_records t (ascending j (n - j)))
unfolding row_records ascending bytes_of
row-stored t out at j n h =
    let e : n - j ≡ suc (n - (j + 1)) = omega arith in
    rw (e, add-one j) (sym (sets-append out at (row_record t j) (row_records t (ascending (suc j) (n - suc j)))))

-- none is left
pub rows-stored : (t : Table) (out : List ℕ) (at j n : ℕ) → n ≤ j
    → out ≡ sets out at (row_records t (ascending j (n - j)))
unfolding row_records ascending
rows-stored t out at j n h = let e : n - j ≡ 0 = omega arith in rw e

pub records-length : (t : Table) (js : List ℕ) → length (row_records t js) ≡ 10 * length js
unfolding row_records bytes_of
records-length t [] = refl
records-length t (j ∷ js) = let e = records-length t js in omega arith

pub ascending-length : (j c : ℕ) → length (ascending j c) ≡ c
unfolding ascending
ascending-length j zero = refl
ascending-length j (suc c) = ap suc (ascending-length (suc j) c)

bytes-length : (t : Table) → 1 ≤ t.symbols → length (written t) ≡ written_length t
unfolding written
bytes-length t h =
    let js = ascending 1 (t.symbols - 1) in
    let e = length-append (row_records t js) (0 ∷ []) in
    let f = records-length t js in
    let g = ascending-length 1 (t.symbols - 1) in
    omega arith

pub written-length : WrittenLength
written-length t = (bytes-length t, λ f. let z = fit-facts t f in omega arith)

front-stored : (bytes out : List ℕ) (n : ℕ) → length bytes ≡ n → n ≤ length out → sets out 0 bytes ≡ bytes ++ drop n out
front-stored bytes out n e h =
    let z : 0 + length bytes ≡ n = omega arith in
    sets-eq bytes out 0 (omega arith) ∙ ap (λ (k : ℕ). bytes ++ drop k out) z

-- sizes, rows and end are the bytes of the table, and those past them stay
pub written-stored : (t : Table) (out : List ℕ) → 1 ≤ t.symbols → written_length t ≤ length out
    → set (sets (sets out 0 (sizes_record t)) 4 (row_records t (ascending 1 (t.symbols - 1)))) (written_length t - 1) 0
    ≡ written t ++ drop (written_length t) out
unfolding written
written-stored t out h room =
    let rows = row_records t (ascending 1 (t.symbols - 1)) in
    let e = bytes-length t h in
    let sized = sets out 0 (sizes_record t) in
    let f = records-length t (ascending 1 (t.symbols - 1)) in
    let g = ascending-length 1 (t.symbols - 1) in
    let end : written_length t - 1 ≡ 4 + length rows = omega arith in
    rw end (sym (sets-append sized 4 rows (0 ∷ [])) ∙ front-stored (written t) out (written_length t) e room)
