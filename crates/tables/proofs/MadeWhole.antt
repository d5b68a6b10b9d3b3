-- Bounds of a made table: there is room for all rows, and those past n − 1 are 0. Assumes nothing.
--
--   making-room   a table that making returns holds 15 rows
--   made-whole    a made table is fit, and its other rows are 0
use mathlib.Core.Path.{◌≡◌, ap, ◌∙◌}
use Prim.Native.Nat.{ℕ, suc, ◌-◌, ◌≤◌}
use native.Mathlib.Omega.{arith}
use lib.ListN.{length, get_or, replicate, length-append, length-replicate}
use Rattle.std.specs.Prelude.{Ok}
use Rattle.tables.specs.declared.table.Table.{Table}
use Rattle.tables.proofs.Fit.{sizes-of, padded-zero}
use Rattle.tables.specs.Made.{made_rows, made_table, columns, making}
use Rattle.tables.specs.Triangle.{MadeWholeLaw}
use Rattle.tables.proofs.Triangle.{made-length}
use Rattle.tables.proofs.Made.{made_table_lem, made}

-- ---- room for the rows

made-room : (n m : ℕ) → 1 ≤ n → n ≤ 16 → length (made_table n m).rows ≡ 15
unfolding made_table
made-room n m from to =
    let a = made-length columns n (n - 1) in
    let b = length-replicate {A = ℕ} (16 - n) 0 in
    length-append (made_rows columns n (n - 1)) (replicate (16 - n) 0) ∙ omega arith

pub making-room : (n m : ℕ) (t : Table) → making n m ≡ Ok t → length t.rows ≡ 15
making-room n m t a =
    let h = made_table_lem n m t a in
    let z = sizes-of n 2 m h.0 in
    ap (λ (u : Table). length u.rows) h.1 ∙ made-room n m (omega arith) z.n_to

-- ---- the other rows

made-blank : (n m i : ℕ) → 1 ≤ n → n ≤ suc i → get_or (made_table n m).rows i 0 ≡ 0
unfolding made_table
made-blank n m i from h =
    let size = made-length columns n (n - 1) in
    padded-zero (made_rows columns n (n - 1)) (16 - n) i (omega arith)

making-blank : (n m : ℕ) (t : Table) → making n m ≡ Ok t → (i : ℕ) → t.symbols ≤ suc i → get_or t.rows i 0 ≡ 0
unfolding made_table
making-blank n m t a i h =
    let r = made_table_lem n m t a in
    let z = sizes-of n 2 m r.0 in
    let n-is : t.symbols ≡ n = ap (λ (u : Table). u.symbols) r.1 in
    ap (λ (u : Table). get_or u.rows i 0) r.1 ∙ made-blank n m i (omega arith) (omega arith)

pub made-whole : MadeWholeLaw
made-whole n m t a = record { fits = (made n m t a).3; room = making-room n m t a; blank = making-blank n m t a }
