-- The rows of the code as a batch has them: the first n of an array of words. Assumes nothing.
--
--   first_words     the array's first n words are the rows
--   counted_words   also as a basis counts them
--   image-by        an image by the tables of a lookup of the first n words
--   code_below      a fit table's rows have 64 bits at most
--   lent_width      rows lent beside a fit table are enough for its information
--   lent_size       with them its code has n rows
use mathlib.Core.Bool.{true}
use mathlib.Core.Path.{◌≡◌, sym, ap, ◌∙◌}
use mathlib.Core.List.{List, [], ◌∷◌, ◌++◌}
use Prim.Native.Nat.{ℕ, ◌+◌, ◌-◌, ◌≤◌}
use native.Mathlib.Omega.{arith}
use lib.ListN.{length, take}
use lib.Pow.{pow_mono}
use lib.Seq.{take-take, take_at, take_all}
use Rattle.span.specs.Combination.{Below, combination, counted}
use Rattle.span.specs.Lookup.{lookup_of, looked_up}
use Rattle.span.proofs.Lookups.{looked-up}
use Rattle.tables.specs.declared.table.Table.{Table}
use Rattle.tables.specs.Lent.{with_rows}
use Rattle.tables.specs.Table.{rows_of, info_rows, fit}
use Rattle.tables.proofs.Fit.{Fits, fit-facts, code-length}
use Rattle.link.proofs.Origin.{below-snoc}

module _ (R words : List ℕ) (n x : ℕ) (size : length R ≡ n) (e : take (n + 1) words ≡ R ++ (x ∷ [])) where
  pub first_words : take n words ≡ R
  first_words =
      sym (take-take n (n + 1) words (omega arith)) ∙ ap (take n) e ∙ take_at R (x ∷ []) n size

  pub counted_words : n ≤ 32 → counted n words ≡ R
  counted_words h = ap (take 32) first_words ∙ take_all 32 R (omega arith)

pub image-by : (R words : List ℕ) (n : ℕ) → take n words ≡ R → length R ≤ 16
    → (tables : List ℕ) → tables ≡ lookup_of (take 16 (take n words)) → (r : ℕ) → looked_up tables r ≡ combination R r
image-by R words n e h tables l r =
    ap (λ (ts : List ℕ). looked_up ts r) (l ∙ ap lookup_of (ap (take 16) e ∙ take_all 16 R h)) ∙ looked-up R r h

pub code_below : (t : Table) → Fits t.symbols t.span t.depth (info_rows t) → Below 64 (rows_of t)
code_below t z i h =
    let from = z.N_from in
    let l = below-snoc t.span (info_rows t) (omega arith) z.below i h in
    let m = pow_mono z.N_to in
    omega arith

pub lent_width : (t : Table) (rows : List ℕ) → fit (with_rows t rows) ≡ true → length rows ≡ 15
    → t.symbols - 1 ≤ length rows
lent_width t rows f l = let n = (fit-facts (with_rows t rows) f).n_to in omega arith

pub lent_size : (t : Table) (rows : List ℕ) → fit (with_rows t rows) ≡ true → length rows ≡ 15
    → length (rows_of (with_rows t rows)) ≡ t.symbols
lent_size t rows f l =
    let n = (fit-facts (with_rows t rows) f).n_from in
    code-length t.symbols rows (omega arith) (lent_width t rows f l)
