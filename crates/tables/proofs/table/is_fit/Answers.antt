-- `tables::table::is_fit`: the rows are looked at once the sizes fit, all their ones together. Assumes nothing.
use mathlib.Core.Path.{◌≡◌, refl, sym, ap, ◌∙◌}
use mathlib.Core.Bool.{Bool, true, false, ◌&&◌, and-true, and_assoc}
use mathlib.Core.List.{List, [], ◌∷◌}
use Prim.Native.Nat.{ℕ, zero, suc, ◌-◌, ◌^◌, ◌<◌, min}
use native.Mathlib.Omega.{arith}
use borrow.Author.Tests.{lt-ltb, le-ltb, leb-true, leb-false}
use lib.Bits.{bit_or, or_lt, or_add_and, and_le_l, and_le_r}
use lib.Dec.{leb, ltb}
use lib.ListN.{length, get_or, take}
use lib.Pow.{pow_pos}
use native.Mathlib.Decide.{dec_lt}
use Rattle.std.proofs.lemmas.List.{take_min}
use Rattle.span.specs.Dual.{together}
use Rattle.span.proofs.Together.{together-take}
use Rattle.tables.specs.Table.{sizes_fit, rows_fit, fit}
use Rattle.tables.proofs.Fit.{sizes-of}
use Rattle.tables.proofs.table.is_fit.Goals as goal
use Rattle.tables.proofs.table.is_fit.Goals.{Else-not-sizes_fit}

-- one row more; past the end there is none, and 0 fits
next : (N : ℕ) (rows : List ℕ) (i : ℕ)
    → rows_fit N (take i rows) && ltb (get_or rows i 0) (2 ^ N) ≡ rows_fit N (take (suc i) rows)
unfolding rows_fit
next N [] zero = lt-ltb 0 (2 ^ N) (pow_pos N)
next N [] (suc i) = lt-ltb 0 (2 ^ N) (pow_pos N)
next N (w ∷ ws) zero = sym (and-true (ltb w (2 ^ N)))
next N (w ∷ ws) (suc i) =
    and_assoc (ltb w (2 ^ N)) (rows_fit N (take i ws)) (ltb (get_or ws i 0) (2 ^ N))
    ∙ ap (◌&&◌ (ltb w (2 ^ N))) (next N ws i)

-- the ones of two words together are below the power exactly if both words are
or-below : (k a b : ℕ) → ltb (bit_or a b) (2 ^ k) ≡ ltb a (2 ^ k) && ltb b (2 ^ k)
or-below k a b = go (dec_lt a (2 ^ k)) (dec_lt b (2 ^ k))
  where
    go : Dec (a < 2 ^ k) → Dec (b < 2 ^ k) → ltb (bit_or a b) (2 ^ k) ≡ ltb a (2 ^ k) && ltb b (2 ^ k)
    go (yes p) (yes q) = rw (lt-ltb a (2 ^ k) p, lt-ltb b (2 ^ k) q) (lt-ltb (bit_or a b) (2 ^ k) (or_lt k a b p q))
    go (yes p) (no q) =
        let sum = or_add_and a b in
        let part = and_le_l a b in
        rw (lt-ltb a (2 ^ k) p, le-ltb b (2 ^ k) (omega arith)) (le-ltb (bit_or a b) (2 ^ k) (omega arith))
    go (no p) q =
        let sum = or_add_and a b in
        let part = and_le_r a b in
        rw (le-ltb a (2 ^ k) (omega arith)) (le-ltb (bit_or a b) (2 ^ k) (omega arith))

-- to be at most the mask is to be below the power
below : (w m N : ℕ) → suc m ≡ 2 ^ N → leb w m ≡ ltb w (2 ^ N)
below w m N e = go (leb w m) refl
  where
    go : (b : Bool) → leb w m ≡ b → b ≡ ltb w (2 ^ N)
    go true q = let h = leb-true w m q in sym (lt-ltb w (2 ^ N) (omega arith))
    go false q = let h = leb-false w m q in sym (le-ltb w (2 ^ N) (omega arith))

-- sizes that do not fit decide
pub returns-then-not-sizes_fit : goal.returns-then-not-sizes_fit
unfolding fit
returns-then-not-sizes_fit c =
    let a = c.args in
    ap (λ (s : Bool). s && rows_fit a.span (take (a.symbols - 1) a.rows.now))
    (sym (c.if-not-sizes_fit.true) ∙ c.sizes_fit.ensures)

sizes : (c : goal.Else-not-sizes_fit) → let a = c.args in
    sizes_fit a.symbols a.span a.depth ≡ true
sizes c = sym c.sizes_fit.ensures ∙ c.if-not-sizes_fit.false

pub overflow_sub-symbols : goal.overflow_sub-symbols
overflow_sub-symbols c =
    let a = c.args in
    let z = sizes-of a.symbols a.span a.depth (sizes (goal.at.overflow_sub-symbols c).Else-not-sizes_fit) in
    omega arith

-- the ones of the first rows together
judged : (N : ℕ) (rows : List ℕ) (i : ℕ) → ltb (together rows i) (2 ^ N) ≡ rows_fit N (take i rows)
unfolding together rows_fit
judged N rows zero = lt-ltb 0 (2 ^ N) (pow_pos N)
judged N rows (suc i) =
    or-below N (together rows i) (get_or rows i 0)
    ∙ ap (λ (b : Bool). b && ltb (get_or rows i 0) (2 ^ N)) (judged N rows i) ∙ next N rows i

pub returns : goal.returns
unfolding fit
returns c =
    let a = c.args in
    let ws = a.rows.now in
    let z = sizes-of a.symbols a.span a.depth (sizes (goal.at.returns c).Else-not-sizes_fit) in
    let p = pow_pos a.span in
    let whole : 2 ^ min a.span 64 ≡ 2 ^ a.span = ap (λ (k : ℕ). 2 ^ k) (omega arith) in
    let end : c.min-end.result ≡ min (a.symbols - 1) (length ws) = omega arith in
    below c.together.result c.mask.result a.span (omega arith)
    ∙ ap (λ (x : ℕ). ltb x (2 ^ a.span)) (c.together.ensures ∙ together-take c.min-end.result ws (omega arith))
    ∙ judged a.span ws c.min-end.result
    ∙ ap (λ (i : ℕ). rows_fit a.span (take i ws)) end
    ∙ ap (rows_fit a.span) (take_min (a.symbols - 1) ws)
    ∙ ap (λ (s : Bool). s && rows_fit a.span (take (a.symbols - 1) ws))
    (sym (sizes (goal.at.returns c).Else-not-sizes_fit))
