-- The search for the first clash: what it finds is the least triple in the order of 02, and it finds none exactly if
-- the table is suitable. Assumes nothing.
use mathlib.Core.Path.{◌≡◌, refl, sym, ap, ◌∙◌, subst}
use mathlib.Core.Bool.{Bool, true, false, cond}
use mathlib.Core.List.{List}
use Rattle.std.specs.Prelude.{Option, None, Some}
use Rattle.std.specs.Option.{option_or}
use Rattle.std.proofs.lemmas.Option.{none-some, same_Some}
use Prim.Native.Nat.{ℕ, zero, suc, ◌+◌, ◌-◌, ◌^◌, ◌≤◌, ◌<◌}
use native.Mathlib.Decide.{dec_le, ℕ_discrete}
use native.Mathlib.Omega.{arith}
use borrow.Author.Tests.{eq-eqb, eqb-true}
use lib.Dec.{eqb}
use lib.ListN.{length}
use lib.Pow.{pow_pos}
use Rattle.span.specs.Word.{shifted}
use Rattle.span.proofs.Word.{shifted-zero}
use Rattle.span.proofs.Combination.{combination-zero}
use Rattle.tables.specs.Code.{image, shifted_image, Clashes, Suitable}
use Rattle.tables.specs.declared.judge.Clash.{Clash}
use Rattle.tables.specs.Clash.{triple, first_from, clash_by, clash_of, clash_at, first_clash, First}
use Rattle.tables.specs.Clash.{FirstClash, NoClash, ClashZero}

-- what a search of the c numbers from a on says of them
abbrev Finds : {A : Type 0} → (ℕ → Option A) → ℕ → ℕ → Option A → Type 0
Finds f a c None = (j : ℕ) → a ≤ j → j < a + c → f j ≡ None
Finds f a c (Some x) =
    (k : ℕ) × (a ≤ k) × (k < a + c) × (f k ≡ Some x) × ((j : ℕ) → a ≤ j → j < k → f j ≡ None)

none_from : {A : Type 0} (f : ℕ → Option A) (a b : ℕ) → f a ≡ None
    → ((j : ℕ) → suc a ≤ j → j < b → f j ≡ None) → (j : ℕ) → a ≤ j → j < b → f j ≡ None
none_from f a b e rest j from to = go (ℕ_discrete j a)
  where
    go : Dec (j ≡ a) → f j ≡ None
    go (yes same) = ap f same ∙ e
    go (no other) = rest j (omega arith) to

finds-skip : {A : Type 0} (f : ℕ → Option A) (a c : ℕ) → f a ≡ None → (o : Option A) → Finds f (suc a) c o
    → Finds f a (suc c) o
finds-skip f a c e None h =
    none_from f a (a + suc c) e (λ j from to. h j from (omega arith))
finds-skip f a c e (Some x) (k, from, to, here, below) = (k, omega arith, omega arith, here, none_from f a k e below)

finds : {A : Type 0} (f : ℕ → Option A) (a c : ℕ) → Finds f a c (first_from f a c)
unfolding first_from
finds f a zero = λ j from to. absurd (omega arith)
finds {A} f a (suc c) = go (f a) refl (finds f (suc a) c)
  where
    go : (o : Option A) → f a ≡ o → Finds f (suc a) c (first_from f (suc a) c)
        → Finds f a (suc c) (option_or o (first_from f (suc a) c))
    go (Some x) e rest = (a, omega arith, omega arith, e, λ j l u. absurd (omega arith))
    go None e rest = finds-skip f a c e (first_from f (suc a) c) rest

-- if nothing is found below k, and Q holds only where something is found, then it holds from k on only
least_by_lem : {A : Type 0} (f : ℕ → Option A) (a k : ℕ) → ((j : ℕ) → a ≤ j → j < k → f j ≡ None)
    → (Q : ℕ → Type 0) → ((j : ℕ) → f j ≡ None → Q j → ⊥) → (d : ℕ) → a ≤ d → Q d → k ≤ d
least_by_lem f a k below Q clear d from q = go (dec_le k d)
  where
    go : Dec (k ≤ d) → k ≤ d
    go (yes h) = h
    go (no h) = absurd (clear d (below d from (omega arith)) q)

-- the least triple of one shift
pub record LeastAt (N : ℕ) (rows : List ℕ) (l e0 e1 : ℕ) : Type 0 where
  pub clashes : Clashes N rows l e0 e1
  pub least_first : (d0 d1 : ℕ) → Clashes N rows l d0 d1 → e0 ≤ d0
  pub least_second : (d1 : ℕ) → Clashes N rows l e0 d1 → e1 ≤ d1

-- the least triple of the first shift that has one
pub first-at : (N : ℕ) (rows : List ℕ) (l e0 e1 : ℕ) → ((k d0 d1 : ℕ) → k < l → Clashes N rows k d0 d1 → ⊥)
    → LeastAt N rows l e0 e1 → First N rows l e0 e1
first-at N rows l e0 e1 below least = record {
  clashes = least.clashes;
  least_shift = λ k d0 d1 other. go k d0 d1 other (dec_le l k);
  least_first = least.least_first;
  least_second = least.least_second;
}
  where
    go : (k d0 d1 : ℕ) → Clashes N rows k d0 d1 → Dec (l ≤ k) → l ≤ k
    go k d0 d1 other (yes h) = h
    go k d0 d1 other (no h) = absurd (below k d0 d1 (omega arith) other)

module _ (N : ℕ) (rows : List ℕ) where
  -- of a block e0 at a shift l
  module _ (l e0 : ℕ) where
    by-none : (e1 : ℕ) → clash_by N rows l e0 e1 ≡ None → Clashes N rows l e0 e1 → ⊥
    by-none e1 e clash =
        none-some (triple l e0 e1)
        (sym e ∙ ap (λ (b : Bool). cond b (Some (triple l e0 e1)) None) (eq-eqb _ _ clash.alike))

    by-some : (e1 : ℕ) (x : Clash) → clash_by N rows l e0 e1 ≡ Some x
        → (image rows e0 ≡ shifted_image N rows l e1) × (x ≡ triple l e0 e1)
    by-some e1 x e = go (eqb (image rows e0) (shifted_image N rows l e1)) refl e
      where
        go : (b : Bool) → eqb (image rows e0) (shifted_image N rows l e1) ≡ b
            → cond b (Some (triple l e0 e1)) None ≡ Some x
            → (image rows e0 ≡ shifted_image N rows l e1) × (x ≡ triple l e0 e1)
        go true q h = (eqb-true _ _ q, sym (same_Some _ _ h))
        go false q h = absurd (none-some x h)

    of-finds : Finds (clash_by N rows l e0) 0 (2 ^ length rows) (clash_of N rows l e0)
    unfolding clash_of
    of-finds = finds (clash_by N rows l e0) 0 (2 ^ length rows)

    of_none : clash_of N rows l e0 ≡ None → (e1 : ℕ) → Clashes N rows l e0 e1 → ⊥
    of_none e e1 clash =
        let below = clash.second_block in
        by-none e1
        (subst (Finds (clash_by N rows l e0) 0 (2 ^ length rows)) e of-finds e1 (omega arith) (omega arith)) clash

    of_some : (x : Clash) → 1 ≤ l → l < N → 1 ≤ e0 → e0 < 2 ^ length rows → clash_of N rows l e0 ≡ Some x
        → (e1 : ℕ) × (x ≡ triple l e0 e1) × Clashes N rows l e0 e1 × ((d1 : ℕ) → Clashes N rows l e0 d1 → e1 ≤ d1)
    of_some x from to least small e =
        let (e1, at, room, here, below) = subst (Finds (clash_by N rows l e0) 0 (2 ^ length rows)) e of-finds in
        let (alike, same) = by-some e1 x here in (
          e1,
          same,
          record {
            shift_from = from;
            shift_to = to;
            first_some = λ z. omega arith;
            first_block = small;
            second_block = omega arith;
            alike = alike;
          },
          λ d1 clash. least_by_lem (clash_by N rows l e0) 0 e1 below (Clashes N rows l e0) by-none d1 (omega arith) clash,
        )

  -- at a shift l
  module _ (l : ℕ) where
    at-finds : Finds (clash_of N rows l) 1 (2 ^ length rows - 1) (clash_at N rows l)
    unfolding clash_at
    at-finds = finds (clash_of N rows l) 1 (2 ^ length rows - 1)

    at_none : clash_at N rows l ≡ None → (e0 e1 : ℕ) → Clashes N rows l e0 e1 → ⊥
    at_none e e0 e1 clash =
        let least = clash.first_some in
        let small = clash.first_block in
        of_none l e0
        (subst (Finds (clash_of N rows l) 1 (2 ^ length rows - 1)) e at-finds e0 (omega arith) (omega arith)) e1 clash

    at_some : (x : Clash) → 1 ≤ l → l < N → clash_at N rows l ≡ Some x
        → (e0 : ℕ) × (e1 : ℕ) × (x ≡ triple l e0 e1) × LeastAt N rows l e0 e1
    at_some x from to e =
        let (e0, least, small, here, below) = subst (Finds (clash_of N rows l) 1 (2 ^ length rows - 1)) e at-finds in
        let (e1, same, clash, second) = of_some l e0 x from to least (omega (arith, pow_pos (length rows))) here in (
          e0,
          e1,
          same,
          record {
            clashes = clash;
            least_first = λ d0 d1 other.
                let some-d0 = other.first_some in
                least_by_lem (clash_of N rows l) 1 e0 below (λ (d : ℕ). (b : ℕ) × Clashes N rows l d b)
                (λ d z q. of_none l d z q.0 q.1) d0 (omega arith) (d1, other);
            least_second = second;
          },
        )

  -- of all shifts
  first_finds : Finds (clash_at N rows) 1 (N - 1) (first_clash N rows)
  unfolding first_clash
  first_finds = finds (clash_at N rows) 1 (N - 1)

  first-none : first_clash N rows ≡ None → Suitable N rows
  first-none e l e0 e1 clash =
      let from = clash.shift_from in
      let to = clash.shift_to in
      at_none l (subst (Finds (clash_at N rows) 1 (N - 1)) e first_finds l (omega arith) (omega arith)) e0 e1 clash

  abbrev FirstIs : Clash → Type 0
  FirstIs x = First N rows x.l x.e0 x.e1

  first_some : (x : Clash) → first_clash N rows ≡ Some x → FirstIs x
  first_some x e =
      let (l, from, to, here, below) = subst (Finds (clash_at N rows) 1 (N - 1)) e first_finds in
      let (e0, e1, same, least) = at_some l x from (omega arith) here in
      subst FirstIs (sym same) (first-at N rows l e0 e1 (λ k d0 d1 h other.
      let from-k = other.shift_from in
      at_none k (below k (omega arith) h) d0 d1 other) least)

  -- there is only one
  first_one : (x y : Clash) → FirstIs x → FirstIs y → x ≡ y
  first_one x y f g =
      let shifts : x.l ≡ y.l =
      omega (arith, f.least_shift _ _ _ g.clashes, g.least_shift _ _ _ f.clashes) in
      let h = subst (λ (k : ℕ). First N rows k y.e0 y.e1) (sym shifts) g in
      let firsts : x.e0 ≡ y.e0 = omega (arith, f.least_first _ _ h.clashes, h.least_first _ _ f.clashes) in
      let i = subst (λ (e : ℕ). First N rows x.l e y.e1) (sym firsts) h in
      let seconds : x.e1 ≡ y.e1 = omega (arith, f.least_second _ i.clashes, i.least_second _ f.clashes) in
      let same : triple x.l x.e0 x.e1 ≡ triple y.l y.e0 y.e1 = cc in
      same

-- ---- what it comes to

pub first-clash : FirstClash
first-clash N rows l e0 e1 = (first_some N rows (triple l e0 e1), λ f. from f (first_clash N rows) refl)
  where
    from : First N rows l e0 e1 → (o : Option Clash) → first_clash N rows ≡ o
        → first_clash N rows ≡ Some (triple l e0 e1)
    from f None e = absurd (first-none N rows e l e0 e1 f.clashes)
    from f (Some x) e = e ∙ ap Some (first_one N rows x (triple l e0 e1) (first_some N rows x e) f)

pub no-clash : NoClash
no-clash N rows = (first-none N rows, λ suits. go suits (first_clash N rows) refl)
  where
    go : Suitable N rows → (o : Option Clash) → first_clash N rows ≡ o → first_clash N rows ≡ None
    go suits None e = e
    go suits (Some x) e = absurd (suits x.l x.e0 x.e1 (first_some N rows x e).clashes)

pub clash-zero : ClashZero
unfolding image shifted_image
clash-zero N rows l e0 f =
    let c = f.clashes in
    let from = c.shift_from in
    let to = c.shift_to in
    let none : (k : ℕ) → shifted_image N rows k 0 ≡ 0 =
    λ k. ap (shifted N k) (combination-zero rows) ∙ shifted-zero N k in
    let zero : image rows e0 ≡ 0 = c.alike ∙ none l in
    let least = f.least_shift 1 e0 0 (record {
      shift_from = omega arith;
      shift_to = omega arith;
      first_some = c.first_some;
      first_block = c.first_block;
      second_block = c.second_block;
      alike = zero ∙ sym (none 1);
    }) in
    (omega arith, zero)
