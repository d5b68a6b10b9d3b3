-- Sorting, and ascending numbers: a list in which each of 1 to n − 1 stands once is, sorted, these numbers ascending.
-- Assumes nothing.
use mathlib.Core.Path.{◌≡◌, refl, sym, ap, ◌∙◌}
use mathlib.Core.Bool.{Bool, true, false, cond, ◌&&◌}
use mathlib.Core.Logic.{◌≢◌, ⊎_elim}
use mathlib.Core.List.{List, [], ◌∷◌, map}
use Prim.Native.Nat.{ℕ, zero, suc, ◌+◌, ◌-◌, ◌≤◌, ◌<◌}
use native.Mathlib.Omega.{arith}
use borrow.Author.Tests.{eq-eqb, ne_eqb, leb-true, leb-false, ltb-true, ltb-false}
use lib.Dec.{leb, ltb, eqb}
use lib.ListN.{length}
use Rattle.tables.specs.Written.{times, EachOnce}
use Rattle.tables.specs.Writing.{ascending, inserted, sorted}
use Rattle.tables.proofs.Progress.{same-or-other}

-- ---- sorting anything by a key

-- what numbers stand for is sorted as the numbers are
inserted-map : {A B : Type 0} (key : B → ℕ) (f : A → B) (a : A) (bs : List A)
    → inserted key (f a) (map f bs) ≡ map f (inserted (λ x. key (f x)) a bs)
unfolding inserted
inserted-map key f a [] = refl
inserted-map {A} {B} key f a (b ∷ bs) = go (leb (key (f a)) (key (f b))) (inserted-map key f a bs)
  where
    go : (c : Bool) → inserted key (f a) (map f bs) ≡ map f (inserted (λ x. key (f x)) a bs)
        → cond c (f a ∷ f b ∷ map f bs) (f b ∷ inserted key (f a) (map f bs))
        ≡ map f (cond c (a ∷ b ∷ bs) (b ∷ inserted (λ x. key (f x)) a bs))
    go true e = refl
    go false e = ap (λ (l : List B). f b ∷ l) e

pub sorted-map : {A B : Type 0} (key : B → ℕ) (f : A → B) (bs : List A)
    → sorted key (map f bs) ≡ map f (sorted (λ x. key (f x)) bs)
unfolding sorted
sorted-map key f [] = refl
sorted-map key f (a ∷ bs) =
    ap (inserted key (f a)) (sorted-map key f bs) ∙ inserted-map key f a (sorted (λ x. key (f x)) bs)

inserted-length : {A : Type 0} (key : A → ℕ) (a : A) (bs : List A) → length (inserted key a bs) ≡ suc (length bs)
unfolding inserted
inserted-length key a [] = refl
inserted-length key a (b ∷ bs) = go (leb (key a) (key b)) (inserted-length key a bs)
  where
    go : (c : Bool) → length (inserted key a bs) ≡ suc (length bs)
        → length (cond c (a ∷ b ∷ bs) (b ∷ inserted key a bs)) ≡ suc (suc (length bs))
    go true e = refl
    go false e = ap suc e

pub sorted-length : {A : Type 0} (key : A → ℕ) (bs : List A) → length (sorted key bs) ≡ length bs
unfolding sorted
sorted-length key [] = refl
sorted-length key (a ∷ bs) = inserted-length key a (sorted key bs) ∙ ap suc (sorted-length key bs)

-- ---- numbers

abbrev insertion : ℕ → List ℕ → List ℕ
insertion j ks = inserted (λ k. k) j ks

abbrev pub sorted_numbers : List ℕ → List ℕ
sorted_numbers js = sorted (λ k. k) js

times-inserted : (k j : ℕ) (ks : List ℕ) → times k (insertion j ks) ≡ cond (eqb k j) 1 0 + times k ks
unfolding inserted times
times-inserted k j [] = refl
times-inserted k j (q ∷ qs) = go (leb j q) (times-inserted k j qs)
  where
    go : (c : Bool) → times k (insertion j qs) ≡ cond (eqb k j) 1 0 + times k qs
        → times k (cond c (j ∷ q ∷ qs) (q ∷ insertion j qs)) ≡ cond (eqb k j) 1 0 + (cond (eqb k q) 1 0 + times k qs)
    go true e = refl
    go false e = omega arith

times-sorted : (k : ℕ) (js : List ℕ) → times k (sorted_numbers js) ≡ times k js
unfolding sorted times
times-sorted k [] = refl
times-sorted k (j ∷ js) = let e = times-sorted k js in times-inserted k j (sorted_numbers js) ∙ omega arith

none : (k : ℕ) → times k [] ≡ 0
unfolding times
none k = refl

-- another number before them does not count
times-cons : (k j : ℕ) (ks : List ℕ) → k ≢ j → times k (j ∷ ks) ≡ times k ks
unfolding times
times-cons k j ks n = rw (ne_eqb k j n) (omega arith)

times-first : (j : ℕ) (ks : List ℕ) → times j (j ∷ ks) ≡ suc (times j ks)
unfolding times
times-first j ks = rw (eq-eqb j j refl) (omega arith)

times-rest : (k x y : ℕ) (xs ys : List ℕ) → x ≡ y → times k (x ∷ xs) ≡ times k (y ∷ ys) → times k xs ≡ times k ys
unfolding times
times-rest k x y xs ys same e = let f = rw same at e in omega arith

-- no number stands before a smaller one
unfoldable Rising : List ℕ → Type 0
Rising [] = Unit {0}
Rising (j ∷ ks) = ((k : ℕ) → k < j → times k ks ≡ 0) × Rising ks

rising-inserted : (j : ℕ) (ks : List ℕ) → Rising ks → Rising (insertion j ks)
unfolding inserted Rising
rising-inserted j [] r = (λ k h. none k, tt)
rising-inserted j (q ∷ qs) r = go (leb j q) refl (rising-inserted j qs r.1)
  where
    go : (c : Bool) → leb j q ≡ c → Rising (insertion j qs) → Rising (cond c (j ∷ q ∷ qs) (q ∷ insertion j qs))
    go true e f =
        let l = leb-true j q e in
        (λ k h. times-cons k q qs (λ z. omega arith) ∙ r.0 k (omega arith), r)
    go false e f =
        let l = leb-false j q e in
        (λ k h. times-inserted k j qs ∙ rw (ne_eqb k j (λ z. omega arith), r.0 k h), f)

rising-sorted : (js : List ℕ) → Rising (sorted_numbers js)
unfolding sorted Rising
rising-sorted [] = tt
rising-sorted (j ∷ js) = rising-inserted j (sorted_numbers js) (rising-sorted js)

-- the first of a rising list is not above any number in another with the same numbers
first-least : (x y : ℕ) (xs ys : List ℕ) → Rising (y ∷ ys) → times x (x ∷ xs) ≡ times x (y ∷ ys) → y ≤ x
unfolding Rising
first-least x y xs ys r e = go (ltb x y) refl
  where
    go : (b : Bool) → ltb x y ≡ b → y ≤ x
    go true q =
        let l = ltb-true x y q in
        let z = times-cons x y ys (λ p. omega arith) ∙ r.0 x l in
        let s = times-first x xs in
        omega arith
    go false q = ltb-false x y q

-- rising lists with the same numbers are equal
rising-unique : (xs ys : List ℕ) → Rising xs → Rising ys → ((k : ℕ) → times k xs ≡ times k ys) → xs ≡ ys
unfolding Rising
rising-unique [] [] r s f = refl
rising-unique [] (y ∷ ys) r s f =
    let e = f y in let a = none y in let b = times-first y ys in absurd (omega arith)
rising-unique (x ∷ xs) [] r s f =
    let e = f x in let a = none x in let b = times-first x xs in absurd (omega arith)
rising-unique (x ∷ xs) (y ∷ ys) r s f =
    let a = first-least x y xs ys s (f x) in
    let b = first-least y x ys xs r (sym (f y)) in
    let same : x ≡ y = omega arith in
    ap (λ (k : ℕ). k ∷ xs) same
    ∙ ap (λ (l : List ℕ). y ∷ l) (rising-unique xs ys r.1 s.1 (λ k. times-rest k x y xs ys same (f k)))

-- ---- ascending numbers

times-low : (k j c : ℕ) → k < j → times k (ascending j c) ≡ 0
unfolding times ascending
times-low k j zero h = refl
times-low k j (suc c) h = rw (ne_eqb k j (λ q. omega arith), times-low k (suc j) c (omega arith))

times-high : (k j c : ℕ) → j + c ≤ k → times k (ascending j c) ≡ 0
unfolding times ascending
times-high k j zero h = refl
times-high k j (suc c) h = rw (ne_eqb k j (λ q. omega arith), times-high k (suc j) c (omega arith))

times-within : (k j c : ℕ) → j ≤ k → k < j + c → times k (ascending j c) ≡ 1
unfolding times ascending
times-within k j zero h l = absurd (omega arith)
times-within k j (suc c) h l = ⊎_elim same (other (times-within k (suc j) c)) (same-or-other k j)
  where
    same : k ≡ j → cond (eqb k j) 1 0 + times k (ascending (suc j) c) ≡ 1
    same q = rw (eq-eqb k j q, times-low k (suc j) c (omega arith))

    other : (suc j ≤ k → k < suc j + c → times k (ascending (suc j) c) ≡ 1) → k ≢ j
        → cond (eqb k j) 1 0 + times k (ascending (suc j) c) ≡ 1
    other f q = rw (ne_eqb k j q, f (omega arith) (omega arith))

rising-ascending : (j c : ℕ) → Rising (ascending j c)
unfolding ascending Rising
rising-ascending j zero = tt
rising-ascending j (suc c) = (λ k h. times-low k (suc j) c (omega arith), rising-ascending (suc j) c)

pub each_once : (n : ℕ) → 1 ≤ n → EachOnce n (ascending 1 (n - 1))
each_once n h k = go (leb 1 k) refl (ltb k n) refl
  where
    go : (a : Bool) → leb 1 k ≡ a → (b : Bool) → ltb k n ≡ b → times k (ascending 1 (n - 1)) ≡ cond (a && b) 1 0
    go true p true q =
        let l = ltb-true k n q in
        times-within k 1 (n - 1) (leb-true 1 k p) (omega arith)
    go true p false q = let l = ltb-false k n q in times-high k 1 (n - 1) (omega arith)
    go false p b q = let l = leb-false 1 k p in times-low k 1 (n - 1) (omega arith)

pub sorted-once : (n : ℕ) (js : List ℕ) → 1 ≤ n → EachOnce n js → sorted_numbers js ≡ ascending 1 (n - 1)
sorted-once n js h e =
    rising-unique (sorted_numbers js) (ascending 1 (n - 1)) (rising-sorted js) (rising-ascending 1 (n - 1))
    (λ k. times-sorted k js ∙ e k ∙ sym (each_once n h k))
