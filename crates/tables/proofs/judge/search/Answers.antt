use mathlib.Core.Path.{◌≡◌, refl, sym, ap, ◌∙◌, subst}
use mathlib.Core.List.{List}
use Prim.Native.Nat.{ℕ, ◌+◌, ◌-◌, ◌/◌, ◌%◌, ◌^◌, ◌<◌, min}
use native.Mathlib.Decide.{ℕ_discrete}
use native.Mathlib.Omega.{arith}
use lib.Bits.{bit_and, and_mask}
use lib.ListN.{length}
use Rattle.tables.specs.Code.{Clashes}
use Rattle.tables.proofs.Clash.{LeastAt, first-at, first-clash, no-clash}
use Rattle.tables.proofs.ClashWords.{clash_found, clash_missing, clash_counted}
use Rattle.tables.proofs.judge.search.Goals as goal

-- one shift more without a clash
none_more : (N : ℕ) (rows : List ℕ) (l : ℕ) → ((k e0 e1 : ℕ) → k < l → Clashes N rows k e0 e1 → ⊥)
    → ((e0 e1 : ℕ) → Clashes N rows l e0 e1 → ⊥)
    → (k e0 e1 : ℕ) → k < l + 1 → Clashes N rows k e0 e1 → ⊥
none_more N rows l below here k e0 e1 h clash = go (ℕ_discrete k l)
  where
    go : Dec (k ≡ l) → ⊥
    go (yes e) = here e0 e1 (subst (λ (j : ℕ). Clashes N rows j e0 e1) e clash)
    go (no e) = below k e0 e1 (omega arith) clash

pub loop-l-init : goal.loop-l-init
loop-l-init c = λ k e0 e1 h cl. let z = cl.shift_from in omega arith

pub returns-in-Some : goal.returns-in-Some
returns-in-Some c =
    let r = c.least_relation in
    let w = c.clash_words in
    let a = c.args in
    let N = a.span in
    let n = length a.rows.now in
    let R = a.rows.now in
    let e = c.in-Some.c in
    let size : length R ≡ n = refl in
    let small : min n 64 ≡ n = omega arith in
    let same = r.ensures ∙ clash_counted N R c.loop-l.l n w.new.words w.ensures size (omega arith) in
    let low : bit_and e c.mask.result ≡ e % 2 ^ n =
    ap (bit_and e) (c.mask.ensures ∙ ap (λ (k : ℕ). 2 ^ k - 1) small) ∙ and_mask e n
    in
    let least =
    subst (λ (x : ℕ). LeastAt N R c.loop-l.l (e / 2 ^ n) x) (sym low)
    (subst (λ (k : ℕ). LeastAt N R c.loop-l.l (e / 2 ^ k) (e % 2 ^ k)) size
    (clash_found N R c.loop-l.l (omega arith) (omega arith) e (sym same ∙ c.in-Some.is)))
    in
    sym ((first-clash N R _ _ _).1 (first-at N R _ _ _ c.loop-l.invariant least))

pub loop-l-preserved : goal.loop-l-preserved
loop-l-preserved c =
    let r = c.least_relation in
    let w = c.clash_words in
    let a = c.args in
    let R = a.rows.now in
    let size : length R ≡ length R = refl in
    let same = r.ensures
    ∙ clash_counted a.span R c.loop-l.l (length a.rows.now) w.new.words w.ensures size (omega arith) in
    none_more a.span R c.loop-l.l c.loop-l.invariant
    (clash_missing a.span R c.loop-l.l (sym same ∙ c.in_default.is))

pub returns : goal.returns
returns c =
    let a = c.args in
    sym ((no-clash a.span a.rows.now).1
    (λ k e0 e1 h. let z = h.shift_to in c.loop-l.invariant k e0 e1 (omega arith) h))
