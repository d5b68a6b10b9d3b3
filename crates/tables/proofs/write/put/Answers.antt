-- `tables::write::put`: sizes, rows and end are all the bytes. Assumes nothing.
use mathlib.Core.Path.{refl, ap, ◌∙◌}
use mathlib.Core.List.{List}
use Prim.Native.Nat.{ℕ, ◌-◌}
use native.Mathlib.Omega.{arith}
use borrow.Author.Tests.{lt-ltb, le-ltb}
use lib.ListN.{length, set, length-set}
use lib.Seq.{sets}
use Rattle.tables.specs.Written.{row_records}
use Rattle.tables.specs.Writing.{ascending, written_length}
use Rattle.tables.proofs.Stores.{written-stored}
use Rattle.tables.proofs.write.put.Goals as goal

pub returns-then-out-length : goal.returns-then-out-length
returns-then-out-length c =
    let a = c.args in record {
      answer = rw (lt-ltb (length a.out.now) (written_length a.t) (omega arith));
      buffer = refl;
    }

pub shape_of-out : goal.shape_of-out
shape_of-out c =
    let rows = c.put_rows in
    let sizes = c.put_sizes in
    length-set rows.new.out _ _ ∙ rows.auto.out ∙ sizes.auto.out

pub returns : goal.returns
returns c =
    let a = c.args in
    let rows = c.put_rows in
    let sizes = c.put_sizes in record {
      answer = rw (le-ltb (length a.out.now) (written_length a.t) (omega arith));
      buffer = ap (λ (o : List ℕ). set o (written_length a.t - 1) 0)
          (rows.ensures
          ∙ ap (λ (o : List ℕ). sets o 4 (row_records a.t (ascending 1 (a.t.symbols - 1)))) sizes.ensures)
          ∙ written-stored a.t a.out.now (omega arith) (omega arith);
    }
