use mathlib.Core.Path.{◌≡◌, sym, ap, ap₂, ◌∙◌}
use mathlib.Core.Bool.{Bool, true, false}
use Prim.Native.Nat.{ℕ, suc, ◌+◌, ◌-◌, ◌*◌, ◌/◌, ◌^◌, ◌≤◌, ◌<◌}
use native.Mathlib.Nat.{add-zero, add_assoc, zero-mul, one-mul, lt_of_lt_of_le}
use native.Mathlib.Omega.{arith}
use lib.Dec.{lit<}
use lib.ListN.{get_or}
use lib.Pow.{pow-lt, pow_mono}
use Rattle.span.specs.Word.{odd, bit, sel, digit, shifted}
use Rattle.span.proofs.Word.{bit-odd, shifted-inside}
use Rattle.tables.specs.Made.{columns, upper, made_row}
use Rattle.tables.proofs.make.made_row.Goals as goal

sel-product : (s : Bool) (w : ℕ) → sel s w ≡ digit s * w
sel-product true w = sym (one-mul w)
sel-product false w = sym (zero-mul w)

sel-le : (s : Bool) (w : ℕ) → sel s w ≤ w
sel-le true w = omega arith
sel-le false w = omega arith

-- a one shifted by less than 64 places stays in the word
power : (e : ℕ) → e < 64 → shifted 64 e 1 ≡ 2 ^ e
power e h = shifted-inside 64 e 1 1 (lit< tt) (omega arith) ∙ one-mul (2 ^ e)

-- one column more
module _ (n j i row on word : ℕ) (from : 1 ≤ i) (to : n + i < 64)
    (added : on ≡ sel (odd (get_or columns (i - 1) 0 / 2 ^ (j - 1))) word)
    (place : word ≡ shifted 64 (n + i) 1) (so_far : row ≡ 2 ^ (n - j) + upper columns n j (i - 1))
    (low : row < 2 ^ (n + i)) where
  next_row : row + on ≡ 2 ^ (n - j) + upper columns n j (i + 1 - 1)
  unfolding upper
  next_row =
      let e : i + 1 - 1 ≡ suc (i - 1) = omega arith in
      let at : n + i ≡ n + (i - 1) + 1 = omega arith in
      let c = get_or columns (i - 1) 0 in
      rw e
      (ap₂ ◌+◌ so_far
      (added ∙ ap₂ sel (sym (bit-odd (j - 1) c)) (place ∙ power (n + i) to ∙ ap (λ (x : ℕ). 2 ^ x) at)
      ∙ sel-product (bit (j - 1) c) (2 ^ (n + (i - 1) + 1)))
      ∙ add_assoc (2 ^ (n - j)) (upper columns n j (i - 1)) (digit (bit (j - 1) c) * 2 ^ (n + (i - 1) + 1)))

  next_low : row + on < 2 ^ (n + (i + 1))
  next_low =
      let e : n + (i + 1) ≡ suc (n + i) = omega arith in
      let s = sel-le (odd (get_or columns (i - 1) 0 / 2 ^ (j - 1))) word in
      let p = power (n + i) to in
      let h : row + on < 2 ^ suc (n + i) = omega arith in
      rw e h

pub loop-i-init : goal.loop-i-init
unfolding upper
loop-i-init c =
    let a = c.args in
    let p = c.shift-row.ensures ∙ power (a.n - a.j) (omega arith) in
    let h : 2 ^ (a.n - a.j) < 2 ^ (a.n + 1) = pow-lt (omega arith) in
    (p ∙ sym (add-zero (2 ^ (a.n - a.j))), rw p h)

pub overflow_add-row : goal.overflow_add-row
unfolding columns
overflow_add-row c =
    let a = c.args in
    let low = next_low a.n a.j c.loop-i.i c.loop-i.row c.select-row.result c.shift.result
    (omega arith) (omega arith)
    c.select-row.ensures c.shift.ensures c.loop-i.invariant.0 c.loop-i.invariant.1
    in
    record { fits = lt_of_lt_of_le low (pow_mono {j = 64} (omega arith)) }

pub loop-i-preserved : goal.loop-i-preserved
unfolding columns
loop-i-preserved c =
    let a = c.args in
    let to : a.n + c.loop-i.i < 64 = omega arith in (
      next_row a.n a.j c.loop-i.i c.loop-i.row c.select-row.result c.shift.result
          (omega arith) to
          c.select-row.ensures c.shift.ensures c.loop-i.invariant.0 c.loop-i.invariant.1,
      next_low a.n a.j c.loop-i.i c.loop-i.row c.select-row.result c.shift.result
          (omega arith) to
          c.select-row.ensures c.shift.ensures c.loop-i.invariant.0 c.loop-i.invariant.1,
    )

pub returns : goal.returns
unfolding made_row
returns c =
    let a = c.args in
    c.loop-i.invariant.0 ∙ ap (λ (i : ℕ). 2 ^ (a.n - a.j) + upper columns a.n a.j i) (omega arith)
