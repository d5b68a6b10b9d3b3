-- What the two parts of a reading, the parse and the first clash, say together. Assumes nothing.
use mathlib.Core.Path.{◌≡◌, refl, sym, ap, ◌∙◌, subst}
use mathlib.Core.Bool.{Bool, true, false, false≢true, cond}
use mathlib.Core.Logic.{◌≢◌}
use mathlib.Core.List.{List, [], ◌∷◌}
use Rattle.std.specs.Prelude.{Option, None, Some, Result, Ok, Err}
use Prim.Native.Nat.{ℕ, zero, suc, ◌+◌, ◌≤◌, ◌<◌}
use native.Mathlib.Omega.{arith}
use borrow.Author.Tests.{eqb-true, eqb-false, ltb-true}
use lib.Dec.{ltb, eqb}
use lib.ListN.{length, drop, length-drop}
use Rattle.tables.specs.declared.table.Table.{Table}
use Rattle.tables.specs.declared.judge.Clash.{Clash}
use Rattle.tables.specs.declared.judge.Unsound.{Unsound}
use Rattle.tables.specs.declared.judge.Unsound.TheVariants.{NotFit, Clashing}
use Rattle.tables.specs.declared.read.ReadError.{ReadError}
use Rattle.tables.specs.declared.read.ReadError.TheVariants.{Refused, Unsuitable}
use Rattle.tables.specs.Code.{Suitable}
use Rattle.tables.specs.Clash.{triple, first_clash, First}
use Rattle.tables.specs.Table.{rows_of, fit}
use Rattle.tables.specs.Judging.{judging}
use Rattle.tables.specs.declared.read.Progress.{Progress}
use Rattle.tables.specs.Format.{kind, size, ended, unknown, cut, misplaced, sizes_out, misnumbered, too_long}
use Rattle.tables.specs.Format.{missing, followed, fault, place, after, begun, Parse, refused, parsed, parse_from}
use Rattle.tables.specs.Format.{parse, fault_of, fault_number}
use Rattle.tables.specs.declared.read.Fault.{Fault}
use Rattle.tables.specs.Reading.{read_numbers, read_table, read_parse, reading, clash_result, read_result, Read}
use Rattle.tables.specs.Reading.{AcceptedSuitable, SuitableAccepted, RefusedRange, RefusedPlace}
use Rattle.tables.specs.Reading.{RefusedNumbers, RefusedUnsuitable, UnsuitableNumbers}
use Rattle.tables.proofs.Clash.{first-clash, no-clash}
use Rattle.tables.proofs.Judging.{judged}
use Rattle.tables.proofs.Progress.{parse-fit, never-refused}
use Rattle.tables.proofs.Fit.{and_right}
use Rattle.tables.proofs.Format.{fault-sound, fault-ended, size-some, sound-whole}
use Rattle.tables.proofs.Refusal.{first_range, first-applies}

-- ---- the number of a parse that is refused

pub fault-range : (g : Progress) (s : List ℕ) → fault g s ≢ 0 → (1 ≤ fault g s) × (fault g s < 10)
unfolding fault
fault-range g s =
    first_range 1 (ended s ∷ unknown s ∷ cut s ∷ misplaced g s ∷ sizes_out s ∷ misnumbered g s ∷ too_long g s
    ∷ missing g s ∷ followed s ∷ [])

range-pick : (b : Bool) (u : Table) (next : Parse) (k p i q : ℕ) → (k ≢ 0 → (1 ≤ k) × (k < 10))
    → (next ≡ refused i q → (1 ≤ i) × (i ≤ 9))
    → cond (eqb k 0) (cond b (parsed u) next) (refused k p) ≡ refused i q → (1 ≤ i) × (i ≤ 9)
range-pick b u next k p i q below f e = go (eqb k 0) refl b e
  where
    go : (a : Bool) → eqb k 0 ≡ a → (c : Bool) → cond a (cond c (parsed u) next) (refused k p) ≡ refused i q
        → (1 ≤ i) × (i ≤ 9)
    go true z true h = never-refused (sym h)
    go true z false h = f h
    go false z c h =
        let same : k ≡ i = cc in
        let r = below (eqb-false k 0 z) in
        omega arith

range-from : (left p : ℕ) (g : Progress) (s : List ℕ) (i q : ℕ) → parse_from left p g s ≡ refused i q → (1 ≤ i) × (i ≤ 9)
unfolding parse_from
range-from zero p g s i q e = let same : 1 ≡ i = cc in omega arith
range-from (suc left) p g s i q e =
    range-pick (eqb (kind s) 0) g.table (parse_from left (p + size (kind s)) (after g s) (drop (size (kind s)) s))
    (fault g s) (place (fault g s) p) i q
    (fault-range g s) (range-from left (p + size (kind s)) (after g s) (drop (size (kind s)) s) i q) e

pub refused-range : RefusedRange
unfolding parse
refused-range bytes k p e = range-from (length bytes) 0 begun bytes k p e

-- the fault of a number has that number
pub number-of : (k : ℕ) → 1 ≤ k → k ≤ 9 → fault_number (fault_of k) ≡ k
unfolding fault_of
number-of zero from to = absurd (omega arith)
number-of (suc zero) from to = refl
number-of (suc (suc zero)) from to = refl
number-of (suc (suc (suc zero))) from to = refl
number-of (suc (suc (suc (suc zero)))) from to = refl
number-of (suc (suc (suc (suc (suc zero))))) from to = refl
number-of (suc (suc (suc (suc (suc (suc zero)))))) from to = refl
number-of (suc (suc (suc (suc (suc (suc (suc zero))))))) from to = refl
number-of (suc (suc (suc (suc (suc (suc (suc (suc zero)))))))) from to = refl
number-of (suc (suc (suc (suc (suc (suc (suc (suc (suc k))))))))) from to =
    let none : k ≡ 0 = omega arith in rw none

-- ---- by the parse

reading-by : (bytes : List ℕ) (p : Parse) → parse bytes ≡ p → reading bytes ≡ read_parse p
unfolding reading
reading-by bytes p e = ap read_parse e

-- the answer that is given, and its numbers
pub read_by : (bytes : List ℕ) (p : Parse) (r : Result Table ReadError) → parse bytes ≡ p → r ≡ read_parse p → Read bytes r
read_by bytes p r q e = record {
  answer = e ∙ sym (reading-by bytes p q);
  numbers = ap read_numbers e ∙ numbers-due p q ∙ ap read_result (sym q);
}
  where
    clash-due : (t : Table) (o : Option Clash) → read_numbers (read_table t o) ≡ clash_result o
    clash-due t None = refl
    clash-due t (Some c) = refl

    numbers-due : (p : Parse) → parse bytes ≡ p → read_numbers (read_parse p) ≡ read_result p
    numbers-due (refused k p) q =
        let range = refused-range bytes k p q in
        ap (λ (i : ℕ). i ∷ p ∷ []) (number-of k range.0 range.1)
    numbers-due (parsed t) q = clash-due t (first_clash t.span (rows_of t))

-- ---- by the judgement

pub clash_read : (t : Table) (c : Clash) → judging t ≡ Err (Clashing c)
    → read_parse (parsed t) ≡ Err (Unsuitable c)
clash_read t c e =
    ap (read_table t) ((first-clash t.span (rows_of t) c.l c.e0 c.e1).1 ((judged t (Err (Clashing c))).0 e).1)

-- a fit table that has no clash
pub sound-read : (t : Table) (j : Result (Unit {0}) Unsound) → fit t ≡ true → judging t ≡ j
    → ((c : Clash) → j ≡ Err (Clashing c) → ⊥)
    → read_parse (parsed t) ≡ Ok t
sound-read t (Err NotFit) f e n = absurd (false≢true (sym ((judged t (Err NotFit)).0 e) ∙ f))
sound-read t (Err (Clashing c)) f e n = absurd (n c refl)
sound-read t (Ok sound) f e n = ap (read_table t) ((no-clash t.span (rows_of t)).1 ((judged t (Ok sound)).0 e).1)

-- ---- by the answer

-- what an answer says of the bytes
abbrev Told : List ℕ → Result Table ReadError → Type 0
Told bytes (Ok u) = (parse bytes ≡ parsed u) × Suitable u.span (rows_of u)
Told bytes (Err (Refused f p)) = (k : ℕ) × (f ≡ fault_of k) × (parse bytes ≡ refused k p)
Told bytes (Err (Unsuitable c)) = (t : Table) × (parse bytes ≡ parsed t) × First t.span (rows_of t) c.l c.e0 c.e1

told : (bytes : List ℕ) → Told bytes (reading bytes)
unfolding reading
told bytes = go (parse bytes) refl
  where
    table : (t : Table) → parse bytes ≡ parsed t → (o : Option Clash) → first_clash t.span (rows_of t) ≡ o
        → Told bytes (read_table t o)
    table t q None e = (q, (no-clash t.span (rows_of t)).0 e)
    table t q (Some c) e = (t, q, (first-clash t.span (rows_of t) c.l c.e0 c.e1).0 e)

    go : (p : Parse) → parse bytes ≡ p → Told bytes (read_parse p)
    go (refused k p) q = (k, refl, q)
    go (parsed t) q = table t q (first_clash t.span (rows_of t)) refl

told-by : (bytes : List ℕ) (a : Result Table ReadError) → reading bytes ≡ a → Told bytes a
told-by bytes a e = subst (Told bytes) e (told bytes)

pub accepted-suitable : AcceptedSuitable
accepted-suitable bytes t a =
    let s = told-by bytes (Ok t) a in
    (s.0, parse-fit bytes t s.0, s.1)

-- a place is answered of a parse that is refused only
pub refused-parse : (bytes : List ℕ) (f : Fault) (p : ℕ) → reading bytes ≡ Err (Refused f p)
    → parse bytes ≡ refused (fault_number f) p
refused-parse bytes f p a =
    let (k, same, q) = told-by bytes (Err (Refused f p)) a in
    let range = refused-range bytes k p q in
    q ∙ ap (λ (i : ℕ). refused i p) (sym (number-of k range.0 range.1) ∙ ap fault_number (sym same))

pub refused-unsuitable : RefusedUnsuitable
refused-unsuitable bytes l e0 e1 a =
    let (t, q, first) = told-by bytes (Err (Unsuitable (triple l e0 e1))) a in
    (t, q, first, (l, e0, e1, first.clashes))

-- ---- a table that was parsed

pub suitable-accepted : SuitableAccepted
suitable-accepted bytes t e suits =
    reading-by bytes (parsed t) e ∙ ap (read_table t) ((no-clash t.span (rows_of t)).1 suits)

pub unsuitable-numbers : UnsuitableNumbers
unsuitable-numbers bytes t q f = go (first_clash t.span (rows_of t)) refl
  where
    go : (o : Option Clash) → first_clash t.span (rows_of t) ≡ o
        → (l : ℕ) × (e0 : ℕ) × (e1 : ℕ) × (read_numbers (reading bytes) ≡ 10 ∷ l ∷ e0 ∷ e1 ∷ [])
        × First t.span (rows_of t) l e0 e1 × (reading bytes ≡ Err (Unsuitable (triple l e0 e1)))
    go None e = absurd (f ((no-clash t.span (rows_of t)).0 e))
    go (Some c) e =
        let r = reading-by bytes (parsed t) q ∙ ap (read_table t) e in (
          c.l,
          c.e0,
          c.e1,
          ap read_numbers r,
          (first-clash t.span (rows_of t) c.l c.e0 c.e1).0 e,
          r,
        )

-- ---- the place of a parse that is refused

-- where a parse from the place p on, with the bytes s to come, is refused
abbrev Placed : ℕ → List ℕ → ℕ → ℕ → Type 0
Placed p s k q = (q ≤ p + length s) × (k ≡ 1 → q ≡ p + length s) × (k ≢ 1 → q < p + length s)

tests : Progress → List ℕ → List Bool
tests g s =
    ended s ∷ unknown s ∷ cut s ∷ misplaced g s ∷ sizes_out s ∷ misnumbered g s ∷ too_long g s ∷ missing g s
    ∷ followed s ∷ []

fault-one : (g : Progress) (s : List ℕ) → fault g s ≡ 1 → length s ≡ 0
unfolding fault tests
fault-one g s e = eqb-true (length s) 0 (first-applies 1 (tests g s) 0 (omega arith) e).1

-- 9 says that bytes follow
fault-nine : (g : Progress) (s : List ℕ) → fault g s ≡ 9 → 1 < length s
unfolding fault tests
fault-nine g s e =
    ltb-true 1 (length s)
    (and_right (eqb (kind s) 0) (ltb 1 (length s)) (first-applies 1 (tests g s) 8 (omega arith) e).1)

place_here : (p : ℕ) (g : Progress) (s : List ℕ) → fault g s ≢ 0 → Placed p s (fault g s) (place (fault g s) p)
unfolding place
place_here p g s fails = go (eqb (fault g s) 9) refl
  where
    go : (b : Bool) → eqb (fault g s) 9 ≡ b → Placed p s (fault g s) (cond b (p + 1) p)
    go true e =
        let nine = eqb-true (fault g s) 9 e in
        let long = fault-nine g s nine in
        (omega arith, λ one. absurd (omega arith), λ other. omega arith)
    go false e = (
      omega arith,
      λ one. let empty = fault-one g s one in omega arith,
      λ other. let l : length s ≢ 0 = (λ z. other (fault-ended g s z)) in omega arith,
    )

place-from : (left p : ℕ) (g : Progress) (s : List ℕ) (k q : ℕ) → length s ≤ left → parse_from left p g s ≡ refused k q
    → Placed p s k q
unfolding parse_from
place-from zero p g s k q h e =
    let one : 1 ≡ k = cc in
    let here : p ≡ q = cc in
    (omega arith, λ z. omega arith, λ other. absurd (other (sym one)))
place-from (suc left) p g s k q h e =
    go (eqb (fault g s) 0) refl (eqb (kind s) 0)
    (place-from left (p + size (kind s)) (after g s) (drop (size (kind s)) s) k q) e
  where
    n : ℕ
    n = size (kind s)

    go : (a : Bool) → eqb (fault g s) 0 ≡ a → (b : Bool)
        → (length (drop n s) ≤ left → parse_from left (p + n) (after g s) (drop n s) ≡ refused k q
        → Placed (p + n) (drop n s) k q)
        → cond a (cond b (parsed g.table) (parse_from left (p + n) (after g s) (drop n s)))
        (refused (fault g s) (place (fault g s) p))
        ≡ refused k q
        → Placed p s k q
    go true z true rest e = never-refused (sym e)
    go true z false rest e =
        let f = eqb-true (fault g s) 0 z in
        let whole = sound-whole g s (fault-sound g s f) in
        let d = length-drop n s in
        let size-from = size-some (kind s) in
        let r = rest (omega arith) e in
        (omega (arith, r.0), λ one. omega (arith, r.1 one), λ other. omega (arith, r.2 other))
    go false z b rest e =
        let same : fault g s ≡ k = cc in
        let here : place (fault g s) p ≡ q = cc in
        subst (λ (x : ℕ). Placed p s x q) same
        (subst (Placed p s (fault g s)) here (place_here p g s (eqb-false (fault g s) 0 z)))

pub refused-place : RefusedPlace
unfolding parse
refused-place bytes k p e =
    let r = place-from (length bytes) 0 begun bytes k p (omega arith) e in
    (omega (arith, r.0), λ one. omega (arith, r.1 one), λ other. omega (arith, r.2 other))

pub refused-numbers : RefusedNumbers
refused-numbers bytes k p e =
    let r = reading-by bytes (refused k p) e in
    let range = refused-range bytes k p e in
    (ap read_numbers r ∙ ap (λ (i : ℕ). i ∷ p ∷ []) (number-of k range.0 range.1), r)
