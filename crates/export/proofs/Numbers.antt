-- What the 18 numbers hold of a table. Assumes nothing.
use mathlib.Core.Path.{◌≡◌, refl}
use mathlib.Core.List.{List}
use Prim.Native.Nat.{ℕ}
use lib.ListN.{drop}
use Rattle.tables.specs.Lent.{with_rows}
use Rattle.export.specs.Numbers.{table_of, sizes_of, numbers_of}
use Rattle.export.specs.Numbers.{TableBack}

pub table-back : TableBack
unfolding table_of numbers_of
table-back t = refl

-- the table of the numbers is that of the sizes alone, with rows 1 to 15 in it
pub table-parts : (ns : List ℕ) → with_rows (sizes_of ns) (drop 3 ns) ≡ table_of ns
unfolding table_of sizes_of
table-parts ns = refl
