-- A clash by its triple, which is computed. Assumes nothing.
use mathlib.Core.Path.{◌≡◌}
use mathlib.Core.Bool.{Bool, true, ◌&&◌}
use mathlib.Core.List.{List}
use Prim.Native.Nat.{ℕ, ◌^◌}
use native.Mathlib.Omega.{arith}
use borrow.Author.Tests.{leb-true, ltb-true, eqb-true}
use lib.Dec.{leb, ltb, eqb}
use lib.ListN.{length}
use Rattle.tables.specs.Code.{image, shifted_image, Clashes}
use Rattle.tables.proofs.Fit.{and_left, and_right}

unfoldable pub clashing : ℕ → List ℕ → ℕ → ℕ → ℕ → Bool
clashing N rows l e0 e1 =
    leb 1 l && ltb l N && leb 1 e0 && ltb e0 (2 ^ length rows) && ltb e1 (2 ^ length rows)
    && eqb (image rows e0) (shifted_image N rows l e1)

pub clash-here : (N : ℕ) (rows : List ℕ) (l e0 e1 : ℕ) → clashing N rows l e0 e1 ≡ true → Clashes N rows l e0 e1
unfolding clashing
clash-here N rows l e0 e1 t =
    let n = 2 ^ length rows in
    let t5 = and_left (leb 1 l && ltb l N && leb 1 e0 && ltb e0 n && ltb e1 n)
    (eqb (image rows e0) (shifted_image N rows l e1)) t in
    let t4 = and_left (leb 1 l && ltb l N && leb 1 e0 && ltb e0 n) (ltb e1 n) t5 in
    let t3 = and_left (leb 1 l && ltb l N && leb 1 e0) (ltb e0 n) t4 in
    let t2 = and_left (leb 1 l && ltb l N) (leb 1 e0) t3 in
    let some = leb-true 1 e0 (and_right (leb 1 l && ltb l N) (leb 1 e0) t3) in
    record {
      shift_from = leb-true 1 l (and_left (leb 1 l) (ltb l N) t2);
      shift_to = ltb-true l N (and_right (leb 1 l) (ltb l N) t2);
      first_some = λ (z : e0 ≡ 0). omega arith;
      first_block = ltb-true e0 n (and_right (leb 1 l && ltb l N && leb 1 e0) (ltb e0 n) t4);
      second_block = ltb-true e1 n (and_right (leb 1 l && ltb l N && leb 1 e0 && ltb e0 n) (ltb e1 n) t5);
      alike =
          eqb-true (image rows e0) (shifted_image N rows l e1) (and_right (leb 1 l && ltb l N && leb 1 e0 && ltb e0 n
          && ltb e1 n) (eqb (image rows e0) (shifted_image N rows l e1)) t);
    }
