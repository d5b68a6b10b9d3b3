use mathlib.Core.Path.{◌≡◌, sym, ap, ◌∙◌}
use mathlib.Core.List.{List, ◌++◌}
use Prim.Native.Nat.{ℕ, suc, ◌+◌, ◌-◌, ◌<◌}
use native.Mathlib.Numerals.{add-one}
use native.Mathlib.Omega.{arith}
use borrow.Author.Rules.{rules}
use lib.ListN.{set, replicate}
use lib.Seq.{set_at, append_snoc}
use Rattle.tables.specs.Made.{columns, made_row, made_rows}
use Rattle.tables.proofs.Triangle.{made-length}
use Rattle.tables.proofs.make.made_rows.Goals as goal

-- one row more takes the place of a zero
row_more : (n i : ℕ) → i < 15 → set (made_rows columns n i ++ replicate (15 - i) 0) i (made_row columns n (i + 1))
    ≡ made_rows columns n (i + 1) ++ replicate (15 - (i + 1)) 0
unfolding made_rows
row_more n i h =
    let e : 15 - i ≡ suc (15 - (i + 1)) = omega arith in
    ap (λ (k : ℕ). set (made_rows columns n i ++ replicate k 0) i (made_row columns n (i + 1))) e
    ∙ set_at (made_rows columns n i) 0 (replicate (15 - (i + 1)) 0) (made_row columns n (i + 1)) i
    (made-length columns n i)
    ∙ rw (add-one i) (sym (append_snoc (made_rows columns n i) (made_row columns n (suc i)) (replicate (15 - suc i) 0)))

pub loop-i-init : goal.loop-i-init
unfolding made_rows
loop-i-init c = search rules

pub loop-i-preserved : goal.loop-i-preserved
loop-i-preserved c =
    let n = c.args.n in
    ap (λ (ws : List ℕ). set ws c.loop-i.i c.made_row.result) c.loop-i.invariant
    ∙ ap (set (made_rows columns n c.loop-i.i ++ replicate (15 - c.loop-i.i) 0) c.loop-i.i) c.made_row.ensures
    ∙ row_more n c.loop-i.i (omega arith)

pub returns : goal.returns
returns c =
    let n = c.args.n in
    let e : c.loop-i.i ≡ n - 1 = omega arith in
    let f : 15 - (n - 1) ≡ 16 - n = omega arith in
    c.loop-i.invariant
    ∙ ap (λ (i : ℕ). made_rows columns n i ++ replicate (15 - i) 0) e
    ∙ ap (λ (k : ℕ). made_rows columns n (n - 1) ++ replicate k 0) f
