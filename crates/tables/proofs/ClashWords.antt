-- The question of refusal 10 at one shift is one about the least relation: among the shifted rows and the rows, a
-- relation from n on is a clash, e0 above and e1 below. So the least one has the least e0, and then the least e1.
-- Assumes nothing.
use mathlib.Core.Path.{◌≡◌, sym, ap, ap₂, ◌∙◌, subst}
use mathlib.Core.List.{List, ◌++◌, map}
use Prim.Native.Nat.{ℕ, ◌+◌, ◌*◌, ◌/◌, ◌%◌, ◌^◌, ◌≤◌, ◌<◌}
use native.Mathlib.Nat.{mod-lt, zero-mul, one-mul, mul-le-mul_right}
use native.Mathlib.Omega.{arith}
use lib.Arith.{digits_lt}
use lib.ListN.{length, take, length-append, length-map}
use lib.Seq.{take_all}
use lib.Pow.{pow_pos, pow-add, shr_lt, shr_mono, split, high, low}
use Rattle.std.specs.Prelude.{Some, None}
use Rattle.span.specs.Word.{◌⊕◌, shifted}
use Rattle.span.specs.Combination.{combination, Relation, counted}
use Rattle.span.specs.Relation.{least_relation, IsLeast}
use Rattle.span.proofs.Word.{xor-eq, xor_self, shifted-zero, shifted-xor}
use Rattle.span.proofs.Combination.{combination-append, combination-map, combination-low}
use Rattle.span.proofs.Relation.{least-relation}
use Rattle.tables.specs.Code.{image, shifted_image, Clashes}
use Rattle.tables.proofs.Clash.{LeastAt}

module _ (N : ℕ) (rows : List ℕ) (l : ℕ) where
  abbrev pub clashWords : List ℕ
  clashWords = map (shifted N l) rows ++ rows

  clash-length : length clashWords ≡ length rows + length rows
  clash-length =
      length-append (map (shifted N l) rows) rows ∙ ap (λ (k : ℕ). k + length rows) (length-map rows (shifted N l))

  -- what a coefficient number selects: shifted rows by its low bits, rows by those above
  clash-sum : (c : ℕ)
      → combination clashWords c ≡ shifted_image N rows l (c % 2 ^ length rows) ⊕ image rows (c / 2 ^ length rows)
  unfolding shifted_image image
  clash-sum c =
      combination-append (map (shifted N l) rows) rows c
      ∙ ap₂ ◌⊕◌
      (combination-map (shifted N l) (shifted-zero N l) (shifted-xor N l) rows c
      ∙ ap (shifted N l) (sym (combination-low rows c)))
      (ap (λ (k : ℕ). combination rows (c / 2 ^ k)) (length-map rows (shifted N l)))

  least-clash : IsLeast (Relation clashWords) (2 ^ length rows) (2 ^ (length rows + length rows))
      (least_relation clashWords (length rows))
  least-clash = rw clash-length at (least-relation clashWords (length rows))

  -- a clash as a relation from n on
  clash-relation : (e0 e1 : ℕ) → Clashes N rows l e0 e1 →
      let n = length rows in
      let c = e0 * 2 ^ n + e1 in
      (2 ^ n ≤ c) × (c < 2 ^ (n + n)) × Relation clashWords c
  clash-relation e0 e1 k =
      let n = length rows in
      let some : 1 ≤ e0 = (let ne = k.first_some in omega arith) in (
        omega (arith, mul-le-mul_right (2 ^ n) some, one-mul (2 ^ n)),
        subst (λ (x : ℕ). e0 * 2 ^ n + e1 < x) (sym (pow-add 2 n n)) (digits_lt k.first_block k.second_block),
        clash-sum (e0 * 2 ^ n + e1)
            ∙ ap₂ (λ (x y : ℕ). shifted_image N rows l x ⊕ image rows y) (low e0 n k.second_block)
            (high e0 n k.second_block)
            ∙ ap (λ (x : ℕ). shifted_image N rows l e1 ⊕ x) k.alike
            ∙ xor_self (shifted_image N rows l e1),
      )

  pub clash_found : 1 ≤ l → l < N → (c : ℕ) → least_relation clashWords (length rows) ≡ Some c
      → LeastAt N rows l (c / 2 ^ length rows) (c % 2 ^ length rows)
  clash_found from to c e =
      let n = length rows in
      let r = subst (IsLeast (Relation clashWords) (2 ^ n) (2 ^ (n + n))) e least-clash in
      let whole = split c n in
      let small = mod-lt c (pow_pos n) in
      let least : (d0 d1 : ℕ) → Clashes N rows l d0 d1 → c ≤ d0 * 2 ^ n + d1 =
      λ d0 d1 k. (let (above, below, zero) = clash-relation d0 d1 k in r.3 (d0 * 2 ^ n + d1) above below zero) in
      record {
        clashes = record {
          shift_from = from;
          shift_to = to;
          first_some = λ z.
              let none : c / 2 ^ n * 2 ^ n ≡ 0 = ap (λ (x : ℕ). x * 2 ^ n) z ∙ zero-mul (2 ^ n) in
              let above = r.0 in
              omega arith;
          first_block = shr_lt n n r.1;
          second_block = small;
          alike = sym (xor-eq (shifted_image N rows l (c % 2 ^ n)) (image rows (c / 2 ^ n)) (sym (clash-sum c) ∙ r.2));
        };
        least_first = λ d0 d1 k.
            subst (λ (x : ℕ). c / 2 ^ n ≤ x) (high d0 n k.second_block) (shr_mono n (least d0 d1 k));
        least_second = λ d1 k. let h = least (c / 2 ^ n) d1 k in omega arith;
      }

  pub clash_missing : least_relation clashWords (length rows) ≡ None → (e0 e1 : ℕ) → Clashes N rows l e0 e1 → ⊥
  clash_missing e e0 e1 k =
      let n = length rows in
      let none = subst (IsLeast (Relation clashWords) (2 ^ n) (2 ^ (n + n))) e least-clash in
      let (above, below, zero) = clash-relation e0 e1 k in
      none (e0 * 2 ^ n + e1) above below zero

  -- the words that the code lays out are these
  pub clash_counted : (n : ℕ) (words : List ℕ) → take (n + n) words ≡ clashWords → length rows ≡ n → n ≤ 16
      → least_relation (counted (n + n) words) n ≡ least_relation clashWords (length rows)
  clash_counted n words e size room =
      let short : length clashWords ≤ 32 = rw clash-length (omega arith) in
      ap₂ least_relation (ap (take 32) e ∙ take_all 32 clashWords short) (sym size)
