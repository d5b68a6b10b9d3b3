-- What a fit table's sizes and rows are, as facts. Assumes nothing.
use mathlib.Core.Path.{◌≡◌, refl, ap, ap₂, ◌∙◌}
use mathlib.Core.Bool.{Bool, true, false, ◌&&◌, false≢true}
use mathlib.Core.List.{List, [], ◌∷◌, ◌++◌}
use Prim.Native.Nat.{ℕ, zero, suc, ◌+◌, ◌-◌, ◌^◌, ◌≤◌}
use native.Mathlib.Omega.{arith}
use borrow.Author.Tests.{le-leb, lt-ltb, leb-true, ltb-true}
use lib.Dec.{leb, ltb}
use lib.ListN.{length, get_or, take, replicate, length-append}
use lib.Seq.{length-take-le}
use Rattle.span.specs.Combination.{Below}
use Rattle.span.proofs.Combination.{get_d_past}
use Rattle.tables.specs.declared.table.Table.{Table}
use Rattle.tables.specs.Table.{table, info_rows, code_rows, sizes_fit, rows_fit, fit}
use Rattle.tables.specs.Laws.{ZeroUnfit, CodeRows}

pub and_left : (s t : Bool) → s && t ≡ true → s ≡ true
and_left true t e = refl
and_left false t e = absurd (false≢true e)

pub and_right : (s t : Bool) → s && t ≡ true → t ≡ true
and_right true t e = e
and_right false t e = absurd (false≢true e)

-- sizes in range, and rows below 2^N
pub record Fits (n N m : ℕ) (rows : List ℕ) : Type 0 where
  pub n_from : 2 ≤ n
  pub n_to : n ≤ 16
  pub N_from : 2 ≤ N
  pub N_to : N ≤ 64
  pub m_from : 1 ≤ m
  pub m_to : m ≤ 64
  pub below : Below N rows

-- of sizes alone no row is asked for
pub sizes-of : (n N m : ℕ) → sizes_fit n N m ≡ true → Fits n N m []
unfolding sizes_fit
sizes-of n N m e =
    let e5 = and_left (leb 2 n && leb n 16 && leb 2 N && leb N 64 && leb 1 m) (leb m 64) e in
    let e4 = and_left (leb 2 n && leb n 16 && leb 2 N && leb N 64) (leb 1 m) e5 in
    let e3 = and_left (leb 2 n && leb n 16 && leb 2 N) (leb N 64) e4 in
    let e2 = and_left (leb 2 n && leb n 16) (leb 2 N) e3 in
    record {
      n_from = leb-true 2 n (and_left (leb 2 n) (leb n 16) e2);
      n_to = leb-true n 16 (and_right (leb 2 n) (leb n 16) e2);
      N_from = leb-true 2 N (and_right (leb 2 n && leb n 16) (leb 2 N) e3);
      N_to = leb-true N 64 (and_right (leb 2 n && leb n 16 && leb 2 N) (leb N 64) e4);
      m_from = leb-true 1 m (and_right (leb 2 n && leb n 16 && leb 2 N && leb N 64) (leb 1 m) e5);
      m_to = leb-true m 64 (and_right (leb 2 n && leb n 16 && leb 2 N && leb N 64 && leb 1 m) (leb m 64) e);
      below = λ i l. absurd (omega arith);
    }

pub sizes-fit-of : (n N m : ℕ) (rows : List ℕ) → Fits n N m rows → sizes_fit n N m ≡ true
unfolding sizes_fit
sizes-fit-of n N m rows z =
    rw (
      le-leb 2 n z.n_from,
      le-leb n 16 z.n_to,
      le-leb 2 N z.N_from,
      le-leb N 64 z.N_to,
      le-leb 1 m z.m_from,
      le-leb m 64 z.m_to,
    )

-- rows that fit, as a bound on each
pub rows-fit-of : (N : ℕ) (ws : List ℕ) → Below N ws → rows_fit N ws ≡ true
unfolding rows_fit
rows-fit-of N [] h = refl
rows-fit-of N (w ∷ ws) h =
    ap₂ ◌&&◌ (lt-ltb w (2 ^ N) (h 0 (omega arith))) (rows-fit-of N ws (λ i l. h (suc i) (omega arith)))

pub rows-below : (N : ℕ) (ws : List ℕ) → rows_fit N ws ≡ true → Below N ws
unfolding rows_fit
rows-below N [] e i l = absurd (omega arith)
rows-below N (w ∷ ws) e zero l = ltb-true w (2 ^ N) (and_left (ltb w (2 ^ N)) (rows_fit N ws) e)
rows-below N (w ∷ ws) e (suc i) l = rows-below N ws (and_right (ltb w (2 ^ N)) (rows_fit N ws) e) i (omega arith)

-- what a table that 12 does not refuse has
pub fit-facts : (t : Table) → fit t ≡ true → Fits t.symbols t.span t.depth (info_rows t)
unfolding fit
fit-facts t e =
    let sizes = sizes_fit t.symbols t.span t.depth in
    let rows = rows_fit t.span (info_rows t) in
    let z = sizes-of t.symbols t.span t.depth (and_left sizes rows e) in
    record {
      n_from = z.n_from;
      n_to = z.n_to;
      N_from = z.N_from;
      N_to = z.N_to;
      m_from = z.m_from;
      m_to = z.m_to;
      below = rows-below t.span (info_rows t) (and_right sizes rows e);
    }

-- 12 looks at rows 1 to n − 1 only
pub fit_same : (n N m : ℕ) (us ts : List ℕ) → take (n - 1) us ≡ take (n - 1) ts
    → fit (table n N m us) ≡ fit (table n N m ts)
unfolding fit
fit_same n N m us ts e = rw e

-- and so do the rows of the code
pub code-rows-same : (n : ℕ) (us ts : List ℕ) → take (n - 1) us ≡ take (n - 1) ts → code_rows n us ≡ code_rows n ts
code-rows-same n us ts e = ap (λ (l : List ℕ). l ++ (1 ∷ [])) e

pub zero-unfit : ZeroUnfit
unfolding fit sizes_fit
zero-unfit = refl

-- a code of n symbols has n rows
pub code-length : (n : ℕ) (rows : List ℕ) → 1 ≤ n → n - 1 ≤ length rows → length (code_rows n rows) ≡ n
code-length n rows h room =
    let size = length-take-le (n - 1) rows room in
    length-append (take (n - 1) rows) (1 ∷ []) ∙ (let e : length (take (n - 1) rows) + 1 ≡ n = omega arith in e)

pub code-rows : CodeRows
code-rows t f room =
    let z = fit-facts t f in
    code-length t.symbols t.rows (omega arith) (omega arith)

-- a list of zeros is 0 at every index
pub zeros-at : (c i : ℕ) → ◌≡◌ {A = ℕ} (get_or (replicate c 0) i 0) 0
zeros-at zero i = refl
zeros-at (suc c) zero = refl
zeros-at (suc c) (suc i) = zeros-at c i

-- rows with zeros after them are 0 past their end
pub padded-zero : (rows : List ℕ) (c i : ℕ) → length rows ≤ i → get_or (rows ++ replicate c 0) i 0 ≡ 0
padded-zero rows c i h = get_d_past rows (replicate c 0) i h ∙ zeros-at c (i - length rows)
