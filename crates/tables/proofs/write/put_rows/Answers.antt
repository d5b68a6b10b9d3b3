use mathlib.Core.Path.{◌≡◌, refl, ap, ◌∙◌}
use mathlib.Core.List.{List}
use Prim.Native.Nat.{ℕ, ◌+◌, ◌-◌, ◌*◌}
use native.Mathlib.Omega.{arith}
use lib.Seq.{sets}
use Rattle.tables.specs.Written.{row_records}
use Rattle.tables.specs.Writing.{ascending}
use Rattle.tables.proofs.Stores.{row-stored, rows-stored}
use Rattle.tables.proofs.write.put_rows.Goals as goal

pub loop-j-init : goal.loop-j-init
loop-j-init c = (refl, refl)

pub put_row-requires : goal.put_row-requires
put_row-requires c = (omega arith, omega arith)

pub loop-j-preserved : goal.loop-j-preserved
loop-j-preserved c =
    let l = c.loop-j in
    let t = c.args.t in
    let p = c.put_row in
    let at : 10 * (l.j + 1) - 6 ≡ 10 * l.j - 6 + 10 = omega arith in (
      p.auto.out ∙ l.invariant.0,
      rw at (ap (λ (o : List ℕ). sets o (10 * l.j - 6 + 10) (row_records t (ascending (l.j + 1) (t.symbols - (l.j + 1)))))
          p.ensures
          ∙ row-stored t l.out (10 * l.j - 6) l.j t.symbols (omega arith)
          ∙ l.invariant.1),
    )

pub shape_of-out : goal.shape_of-out
shape_of-out c = c.loop-j.invariant.0

pub returns : goal.returns
returns c =
    let l = c.loop-j in
    let t = c.args.t in
    rows-stored t l.out (10 * l.j - 6) l.j t.symbols (omega arith) ∙ l.invariant.1
