-- `link::decode::some_above`: the ones of the words together are above the bound exactly if one of them is. Assumes
-- nothing.
use mathlib.Core.Path.{◌≡◌, ap, ◌∙◌}
use mathlib.Core.List.{List}
use Prim.Native.Nat.{ℕ, zero, suc, ◌+◌, ◌-◌, ◌^◌, ◌≤◌}
use native.Mathlib.Numerals.{add-one}
use native.Mathlib.Omega.{arith}
use lib.Bits.{bit_or}
use lib.Dec.{leb}
use lib.ListN.{length, take, drop, length-drop}
use lib.Seq.{length-take-le, get_or-take, get_or-drop}
use Rattle.span.specs.Dual.{together}
use Rattle.span.proofs.Masks.{above-mask}
use Rattle.link.specs.Refusals.{some_above}
use Rattle.link.proofs.Malformed.{above-none, above-or}
use Rattle.link.proofs.decode.some_above.Goals as goal

module _ (k : ℕ) (s : List ℕ) (from count : ℕ) where
  abbrev part : List ℕ
  part = take count (drop from s)

  above : (i : ℕ) → i ≤ count → leb (2 ^ k) (together part i) ≡ some_above (2 ^ k) s from i
  unfolding together
  above zero h = above-none k s from
  above (suc i) h =
      ap (λ (w : ℕ). leb (2 ^ k) (bit_or (together part i) w))
      (get_or-take count (drop from s) i 0 (omega arith) ∙ get_or-drop from s i 0)
      ∙ above-or k (together part i) s from i (above i (omega arith))
      ∙ ap (some_above (2 ^ k) s from) (add-one i)

pub returns : goal.returns
returns c =
    let a = c.args in
    let s = a.words.now in
    let size : a.from + a.count - a.from ≡ a.count = omega arith in
    let long : length (part a.width s a.from a.count) ≡ a.count =
    length-take-le a.count (drop a.from s) (let l = length-drop a.from s in omega arith) in
    above-mask a.width c.mask.result c.together.result (omega arith) c.mask.ensures
    ∙ ap (leb (2 ^ a.width)) (c.together.ensures
    ∙ ap (λ (n : ℕ). together (take n (drop a.from s)) (length (take n (drop a.from s)))) size
    ∙ ap (together (part a.width s a.from a.count)) long)
    ∙ above a.width s a.from a.count a.count (omega arith)
