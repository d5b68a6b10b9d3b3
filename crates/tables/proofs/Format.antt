-- The fault of a record, by its kind, and one record of a parse. Assumes nothing.
--
--   word_fits                     a row's number fits a word
--   fault-ended, -unknown, -cut   refusals 1 to 3
--   fault-sizes, -row, -end       the tests of a whole record
--   header, Passed                the first of 1 to 4, and what it says where there is none
--   passed-sizes, -row, -end      the tests that are left then
--   fault-sound                   what a fault of 0 says
--   parse-refused, -done, -next   what one record does to a parse
--   parse-step                    the same in one law
--   Reaches                       the parse of the whole comes by a place
use mathlib.Core.Path.{◌≡◌, refl, sym, ap, ◌∙◌, subst}
use mathlib.Core.Bool.{Bool, true, false, cond, not, ◌&&◌, ◌||◌}
use mathlib.Core.Logic.{◌≢◌}
use mathlib.Core.List.{List, [], ◌∷◌}
use Prim.Native.Nat.{ℕ, zero, suc, ◌+◌, ◌-◌, ◌^◌, ◌≤◌, ◌<◌}
use native.Mathlib.Nat.{pow-succ', pow-le-pow_right}
use native.Mathlib.Omega.{arith}
use lib.ListN.{length, get_or, drop, length-drop}
use lib.Seq.{drop-drop}
use borrow.Author.Tests.{ltb-true, ltb-false, leb-true, leb-false, eqb-true, eqb-false, not-false, eq-eqb, ne_eqb}
use borrow.Author.Tests.{lt-ltb, le-ltb}
use lib.Dec.{leb, ltb, eqb}
use Rattle.span.proofs.Word.{and-false}
use Rattle.tables.specs.Format.{kind, size, word, row_word, all_given, unavailable, fault, place, begun, after}
use Rattle.tables.specs.Format.{refused, parsed, parse_from, parse, ended, unknown, cut, misplaced, parse_at}
use Rattle.tables.specs.Format.{ParseStep, header, fault_of, checked, kind_of, kind_number}
use Rattle.std.specs.Prelude.{Result, Ok, Err, IsErr, IsErrAnd}
use Rattle.tables.specs.declared.read.Fault.{Fault}
use Rattle.tables.specs.declared.read.Kind.{Kind}
use Rattle.tables.specs.declared.read.Progress.{Progress}
use Rattle.tables.specs.Table.{sizes_fit}
use Rattle.tables.specs.Refusal.{first_of}

-- ---- the number of a row record

pub word_lt : (s : List ℕ) → ((i : ℕ) → get_or s i 0 < 256) → (k c : ℕ) → word s k c < 256 ^ c
unfolding word
word_lt s b k zero = omega arith
word_lt s b k (suc c) = rw (pow-succ' 256 c) (omega (arith, word_lt s b (suc k) c, b k))

pub word_fits : (s : List ℕ) → ((i : ℕ) → get_or s i 0 < 256) → (k c : ℕ) → c ≤ 8 → word s k c < 2 ^ 64
word_fits s b k c h =
    let p : 256 ^ c ≤ 256 ^ 8 = pow-le-pow_right (omega arith) h in
    omega (arith, word_lt s b k c)

-- ---- rows given

lt_of : (i c : ℕ) → i < suc c → (i ≡ c → ⊥) → i < c
lt_of i c h n = omega arith

pub given-none : (given : List Bool) (i c : ℕ) → i < c → get_or given i false ≡ false → all_given given c ≡ false
unfolding all_given
given-none given i zero h e = absurd (omega arith)
given-none given i (suc c) h e = go (eqb i c) refl (given-none given i c)
  where
    go : (s : Bool) → eqb i c ≡ s → (i < c → get_or given i false ≡ false → all_given given c ≡ false)
        → (all_given given c && get_or given c false) ≡ false
    go true q f = rw (← eqb-true i c q, e) (and-false (all_given given i))
    go false q f = rw (f (let n = eqb-false i c q in lt_of i c h n) e)

-- ---- the fault of a record that is not whole

pub fault-ended : (g : Progress) (s : List ℕ) → length s ≡ 0 → fault g s ≡ 1
unfolding fault first_of
fault-ended g s e = simp (eq-eqb (length s) 0 e)

pub fault-unknown : (g : Progress) (s : List ℕ) → 1 ≤ length s → 2 < kind s → fault g s ≡ 2
unfolding fault first_of
fault-unknown g s h k = simp (ne_eqb (length s) 0 (omega arith), lt-ltb 2 (kind s) k)

pub fault-cut : (g : Progress) (s : List ℕ) → 1 ≤ length s → kind s ≤ 2 → length s < size (kind s) → fault g s ≡ 3
unfolding fault first_of
fault-cut g s h k l = simp (ne_eqb (length s) 0 (omega arith), le-ltb 2 (kind s) k, lt-ltb (length s) (size (kind s)) l)

-- ---- the fault of a whole record, by its kind

pub size-some : (k : ℕ) → 1 ≤ size k
unfolding size
size-some k = go (eqb k 0) (eqb k 1)
  where
    go : (a b : Bool) → 1 ≤ cond a 1 (cond b 4 10)
    go true b = omega arith
    go false true = omega arith
    go false false = omega arith

pub size-end : (k : ℕ) → k ≡ 0 → size k ≡ 1
unfolding size
size-end k e = rw e

pub size-sizes : (k : ℕ) → k ≡ 1 → size k ≡ 4
unfolding size
size-sizes k e = rw e

pub size-row : (k : ℕ) → k ≡ 2 → size k ≡ 10
unfolding size
size-row k e = rw e

-- the tests of the other kinds do not apply
first-sizes : (a b : Bool) → first_of 4 (a ∷ b ∷ false ∷ false ∷ false ∷ false ∷ []) ≡ cond a 4 (cond b 5 0)
unfolding first_of
first-sizes true b = refl
first-sizes false true = refl
first-sizes false false = refl

first-row : (a b c : Bool) → first_of 4 (a ∷ false ∷ b ∷ c ∷ false ∷ false ∷ []) ≡ cond a 4 (cond b 6 (cond c 7 0))
unfolding first_of
first-row true b c = refl
first-row false true c = refl
first-row false false true = refl
first-row false false false = refl

first-end : (a b c : Bool) → first_of 4 (a ∷ false ∷ false ∷ false ∷ b ∷ c ∷ []) ≡ cond a 4 (cond b 8 (cond c 9 0))
unfolding first_of
first-end true b c = refl
first-end false true c = refl
first-end false false true = refl
first-end false false false = refl

pub fault-sizes : (g : Progress) (s : List ℕ) → kind s ≡ 1 → 4 ≤ length s
    → fault g s
    ≡ cond (not (eqb g.table.symbols 0)) 4 (cond (not (sizes_fit (get_or s 1 0) (get_or s 2 0) (get_or s 3 0))) 5 0)
unfolding fault first_of size
fault-sizes g s k h =
    simp (k, ne_eqb (length s) 0 (omega arith), le-ltb (length s) 4 h)
    (first-sizes (not (eqb g.table.symbols 0)) (not (sizes_fit (get_or s 1 0) (get_or s 2 0) (get_or s 3 0))))

pub fault-row : (g : Progress) (s : List ℕ) → kind s ≡ 2 → 10 ≤ length s
    → fault g s ≡ cond (eqb g.table.symbols 0) 4
    (cond (unavailable g (get_or s 1 0)) 6 (cond (leb (2 ^ g.table.span) (row_word s)) 7 0))
unfolding fault first_of size
fault-row g s k h =
    simp (k, ne_eqb (length s) 0 (omega arith), le-ltb (length s) 10 h)
    (first-row (eqb g.table.symbols 0) (unavailable g (get_or s 1 0)) (leb (2 ^ g.table.span) (row_word s)))

pub fault-end : (g : Progress) (s : List ℕ) → kind s ≡ 0 → 1 ≤ length s
    → fault g s ≡ cond (eqb g.table.symbols 0) 4
    (cond (not (all_given g.given (g.table.symbols - 1))) 8 (cond (ltb 1 (length s)) 9 0))
unfolding fault first_of size
fault-end g s k h =
    simp (k, ne_eqb (length s) 0 (omega arith), le-ltb (length s) 1 h)
    (first-end (eqb g.table.symbols 0) (not (all_given g.given (g.table.symbols - 1))) (ltb 1 (length s)))

-- ---- the faults that a record of any kind may have, before the others

first-header : (a b c d : Bool) (ts : List Bool) → (◌≡◌ {A = ℕ} (cond a 1 (cond b 2 (cond c 3 (cond d 4 0)))) 0 → ⊥)
    → first_of 1 (a ∷ b ∷ c ∷ d ∷ ts) ≡ cond a 1 (cond b 2 (cond c 3 (cond d 4 0)))
unfolding first_of
first-header true b c d ts h = refl
first-header false true c d ts h = refl
first-header false false true d ts h = refl
first-header false false false true ts h = refl
first-header false false false false ts h = absurd (h refl)

pub fault-header : (g : Progress) (s : List ℕ) → header (kind s) (length s) g.table.symbols ≢ 0
    → fault g s ≡ header (kind s) (length s) g.table.symbols
unfolding fault
fault-header g s h = first-header (ended s) (unknown s) (cut s) (misplaced g s) _ h

none_of_four : (a b c d : Bool) → ◌≡◌ {A = ℕ} (cond a 1 (cond b 2 (cond c 3 (cond d 4 0)))) 0
    → (a ≡ false) × (b ≡ false) × (c ≡ false) × (d ≡ false)
none_of_four true b c d e = absurd (omega arith)
none_of_four false true c d e = absurd (omega arith)
none_of_four false false true d e = absurd (omega arith)
none_of_four false false false true e = absurd (omega arith)
none_of_four false false false false e = (refl, refl, refl, refl)

pub record Passed (g : Progress) (s : List ℕ) : Type 0 where
  pub some : 1 ≤ length s
  pub known : kind s ≤ 2
  pub whole : size (kind s) ≤ length s
  pub placed : misplaced g s ≡ false

pub header-passed : (g : Progress) (s : List ℕ) → header (kind s) (length s) g.table.symbols ≡ 0 → Passed g s
header-passed g s e =
    let n = none_of_four (ended s) (unknown s) (cut s) (misplaced g s) e in
    let l = eqb-false (length s) 0 n.0 in
    record {
      some = omega arith;
      known = ltb-false 2 (kind s) n.1;
      whole = ltb-false (length s) (size (kind s)) n.2;
      placed = n.3;
    }

pub passed-sizes : (g : Progress) (s : List ℕ) → Passed g s → kind s ≡ 1
    → fault g s ≡ cond (not (sizes_fit (get_or s 1 0) (get_or s 2 0) (get_or s 3 0))) 5 0
passed-sizes g s p k =
    let n = rw k at p.placed in
    fault-sizes g s k (rw (size-sizes (kind s) k) at p.whole) ∙ rw n

pub passed-row : (g : Progress) (s : List ℕ) → Passed g s → kind s ≡ 2
    → fault g s ≡ cond (unavailable g (get_or s 1 0)) 6 (cond (leb (2 ^ g.table.span) (row_word s)) 7 0)
passed-row g s p k = let n = rw k at p.placed in fault-row g s k (rw (size-row (kind s) k) at p.whole) ∙ rw n

pub passed-end : (g : Progress) (s : List ℕ) → Passed g s → kind s ≡ 0
    → fault g s ≡ cond (not (all_given g.given (g.table.symbols - 1))) 8 (cond (ltb 1 (length s)) 9 0)
passed-end g s p k = let n = rw k at p.placed in fault-end g s k p.some ∙ rw n

-- an end that is not misplaced stands after the sizes
pub end-placed : (g : Progress) (s : List ℕ) → Passed g s → kind s ≡ 0 → 1 ≤ g.table.symbols
end-placed g s p k = let n = rw k at p.placed in let z = eqb-false g.table.symbols 0 n in omega arith

-- ---- what a fault of 0 says

pub data Sound (g : Progress) (s : List ℕ) : Type 0 where
  sizes : kind s ≡ 1 → 4 ≤ length s → g.table.symbols ≡ 0
      → sizes_fit (get_or s 1 0) (get_or s 2 0) (get_or s 3 0) ≡ true → Sound g s
  row : kind s ≡ 2 → 10 ≤ length s → unavailable g (get_or s 1 0) ≡ false → row_word s < 2 ^ g.table.span → Sound g s
  end : kind s ≡ 0 → length s ≡ 1 → g.table.symbols ≢ 0
      → all_given g.given (g.table.symbols - 1) ≡ true → Sound g s

none_of_two : (a b : Bool) (i j : ℕ) → cond a (suc i) (cond b (suc j) 0) ≡ 0 → (a ≡ false) × (b ≡ false)
none_of_two true b i j e = absurd (omega arith)
none_of_two false true i j e = absurd (omega arith)
none_of_two false false i j e = (refl, refl)

none-of-three : (a b c : Bool) (i j k : ℕ) → cond a (suc i) (cond b (suc j) (cond c (suc k) 0)) ≡ 0
    → (a ≡ false) × (b ≡ false) × (c ≡ false)
none-of-three true b c i j k e = absurd (omega arith)
none-of-three false true c i j k e = absurd (omega arith)
none-of-three false false true i j k e = absurd (omega arith)
none-of-three false false false i j k e = (refl, refl, refl)

sound-sizes : (g : Progress) (s : List ℕ) → fault g s ≡ 0 → kind s ≡ 1 → 4 ≤ length s → Sound g s
sound-sizes g s z k h =
    let n = none_of_two (not (eqb g.table.symbols 0)) (not (sizes_fit (get_or s 1 0) (get_or s 2 0) (get_or s 3 0))) 3 4
    (sym (fault-sizes g s k h) ∙ z) in
    sizes k h (eqb-true _ _ (not-false _ n.0)) (not-false _ n.1)

sound-row : (g : Progress) (s : List ℕ) → fault g s ≡ 0 → kind s ≡ 2 → 10 ≤ length s → Sound g s
sound-row g s z k h =
    let n = none-of-three (eqb g.table.symbols 0) (unavailable g (get_or s 1 0))
    (leb (2 ^ g.table.span) (row_word s)) 3 5 6 (sym (fault-row g s k h) ∙ z) in
    row k h n.1 (leb-false _ _ n.2)

sound-end : (g : Progress) (s : List ℕ) → fault g s ≡ 0 → kind s ≡ 0 → 1 ≤ length s → Sound g s
sound-end g s z k h =
    let n = none-of-three (eqb g.table.symbols 0) (not (all_given g.given (g.table.symbols - 1)))
    (ltb 1 (length s)) 3 7 8 (sym (fault-end g s k h) ∙ z) in
    let l = ltb-false 1 (length s) n.2 in
    end k (omega arith) (eqb-false _ _ n.0) (not-false _ n.1)

-- by the tests in their order
sound-at : (g : Progress) (s : List ℕ) → fault g s ≡ 0
    → (a : Bool) → eqb (length s) 0 ≡ a
    → (b : Bool) → ltb 2 (kind s) ≡ b
    → (c : Bool) → ltb (length s) (size (kind s)) ≡ c
    → (d : Bool) → eqb (kind s) 0 ≡ d
    → (e : Bool) → eqb (kind s) 1 ≡ e
    → Sound g s
sound-at g s z true p b q c r d t e u = let f = fault-ended g s (eqb-true _ _ p) in absurd (omega arith)
sound-at g s z false p true q c r d t e u =
    let n = eqb-false (length s) 0 p in
    let f = fault-unknown g s (omega arith) (ltb-true _ _ q) in
    absurd (omega arith)
sound-at g s z false p false q true r d t e u =
    let n = eqb-false (length s) 0 p in
    let f = fault-cut g s (omega arith) (ltb-false _ _ q) (ltb-true _ _ r) in
    absurd (omega arith)
sound-at g s z false p false q false r true t e u =
    let n = eqb-false (length s) 0 p in
    sound-end g s z (eqb-true _ _ t) (omega arith)
sound-at g s z false p false q false r false t true u =
    let k = eqb-true (kind s) 1 u in
    sound-sizes g s z k (rw (size-sizes (kind s) k) at (ltb-false (length s) (size (kind s)) r))
sound-at g s z false p false q false r false t false u =
    let k = ltb-false 2 (kind s) q in
    let n = eqb-false (kind s) 0 t in
    let m = eqb-false (kind s) 1 u in
    let two : kind s ≡ 2 = omega arith in
    sound-row g s z two (rw (size-row (kind s) two) at (ltb-false (length s) (size (kind s)) r))

pub fault-sound : (g : Progress) (s : List ℕ) → fault g s ≡ 0 → Sound g s
fault-sound g s z = sound-at g s z _ refl _ refl _ refl _ refl _ refl

available-parts : (a b c : Bool) → (not (a && b) || c) ≡ false → (a ≡ true) × (b ≡ true) × (c ≡ false)
available-parts true true true e = let z : ◌≡◌ {A = ℕ} 0 1 = cc in absurd (omega arith)
available-parts true true false e = (refl, refl, refl)
available-parts true false c e = let z : ◌≡◌ {A = ℕ} 0 1 = cc in absurd (omega arith)
available-parts false b c e = let z : ◌≡◌ {A = ℕ} 0 1 = cc in absurd (omega arith)

-- a row that may come: its number is in range, and it was not given
pub available : (g : Progress) (j : ℕ) → unavailable g j ≡ false
    → (1 ≤ j) × (j < g.table.symbols) × (get_or g.given (j - 1) false ≡ false)
unfolding unavailable
available g j e =
    let p = available-parts (leb 1 j) (ltb j g.table.symbols) (get_or g.given (j - 1) false) e in
    (leb-true _ _ p.0, ltb-true _ _ p.1, p.2)

-- ---- one record of a parse

pub parse-refused : (left p : ℕ) (g : Progress) (s : List ℕ) → (left ≡ 0 → length s ≡ 0) → fault g s ≢ 0
    → parse_from left p g s ≡ refused (fault g s) (place (fault g s) p)
unfolding parse_from place
parse-refused zero p g s e n = rw (fault-ended g s (e refl))
parse-refused (suc left) p g s e n = rw (ne_eqb (fault g s) 0 n)

pub parse-done : (left p : ℕ) (g : Progress) (s : List ℕ) → fault g s ≡ 0 → kind s ≡ 0
    → parse_from (suc left) p g s ≡ parsed g.table
unfolding parse_from
parse-done left p g s z k = rw (z, k)

pub parse-next : (left p : ℕ) (g : Progress) (s : List ℕ) → fault g s ≡ 0 → kind s ≢ 0
    → parse_from (suc left) p g s ≡ parse_from left (p + size (kind s)) (after g s) (drop (size (kind s)) s)
unfolding parse_from
parse-next left p g s z k = rw (z, ne_eqb (kind s) 0 k)

pub sound-whole : (g : Progress) (s : List ℕ) → Sound g s → size (kind s) ≤ length s
sound-whole g s (sizes k h n f) = rw (size-sizes (kind s) k) h
sound-whole g s (row k h f w) = rw (size-row (kind s) k) h
sound-whole g s (end k h n a) = rw (size-end (kind s) k, h) (omega arith)

pub ended-fault : (g : Progress) (s : List ℕ) → length s ≡ 0 → fault g s ≢ 0
ended-fault g s e z = let f = fault-ended g s e in omega arith

-- what is left to read bounds the records to come, and no greater bound says more
parse-enough : (left more p : ℕ) (g : Progress) (s : List ℕ) → length s ≤ left → length s ≤ more
    → parse_from left p g s ≡ parse_from more p g s
parse-enough zero more p g s h l =
    let e : length s ≡ 0 = omega arith in
    parse-refused zero p g s (λ z. e) (ended-fault g s e) ∙ sym (parse-refused more p g s (λ z. e) (ended-fault g s e))
parse-enough (suc left) zero p g s h l =
    let e : length s ≡ 0 = omega arith in
    parse-refused (suc left) p g s (λ z. e) (ended-fault g s e)
    ∙ sym (parse-refused zero p g s (λ z. e) (ended-fault g s e))
parse-enough (suc left) (suc more) p g s h l =
    go (eqb (fault g s) 0) refl (eqb (kind s) 0) refl
    (parse-enough left more (p + size (kind s)) (after g s) (drop (size (kind s)) s) (shorter left h) (shorter more l))
  where
    shorter : (k : ℕ) → length s ≤ suc k → length (drop (size (kind s)) s) ≤ k
    shorter k b = let n = size-some (kind s) in let d = length-drop (size (kind s)) s in omega arith

    go : (a : Bool) → eqb (fault g s) 0 ≡ a → (b : Bool) → eqb (kind s) 0 ≡ b
        → parse_from left (p + size (kind s)) (after g s) (drop (size (kind s)) s)
        ≡ parse_from more (p + size (kind s)) (after g s) (drop (size (kind s)) s)
        → parse_from (suc left) p g s ≡ parse_from (suc more) p g s
    go false e b k rest =
        let n = eqb-false (fault g s) 0 e in
        parse-refused (suc left) p g s (λ z. absurd (omega arith)) n
        ∙ sym (parse-refused (suc more) p g s (λ z. absurd (omega arith)) n)
    go true e true k rest =
        let f = eqb-true (fault g s) 0 e in
        let d = eqb-true (kind s) 0 k in
        parse-done left p g s f d ∙ sym (parse-done more p g s f d)
    go true e false k rest =
        let f = eqb-true (fault g s) 0 e in
        let d = eqb-false (kind s) 0 k in
        parse-next left p g s f d ∙ rest ∙ sym (parse-next more p g s f d)

pub parse-step : ParseStep
parse-step p g s = go (eqb (fault g s) 0) refl (eqb (kind s) 0) refl
  where
    -- a sound record has a byte
    some : fault g s ≡ 0 → suc (length s - 1) ≡ length s
    some f = let n : length s ≢ 0 = λ e. ended-fault g s e f in omega arith

    go : (a : Bool) → eqb (fault g s) 0 ≡ a → (b : Bool) → eqb (kind s) 0 ≡ b
        → parse_at p g s
        ≡ cond a (cond b (parsed g.table) (parse_at (p + size (kind s)) (after g s) (drop (size (kind s)) s)))
        (refused (fault g s) (place (fault g s) p))
    go false e b k = parse-refused (length s) p g s (λ z. z) (eqb-false (fault g s) 0 e)
    go true e true k =
        let f = eqb-true (fault g s) 0 e in
        subst (λ (n : ℕ). parse_from n p g s ≡ parsed g.table) (some f)
        (parse-done (length s - 1) p g s f (eqb-true (kind s) 0 k))
    go true e false k =
        let f = eqb-true (fault g s) 0 e in
        let n = size (kind s) in
        let one = size-some (kind s) in
        let d = length-drop n s in
        subst (λ (j : ℕ). parse_from j p g s ≡ parse_from (length s - 1) (p + n) (after g s) (drop n s)) (some f)
        (parse-next (length s - 1) p g s f (eqb-false (kind s) 0 k))
        ∙ parse-enough (length s - 1) (length (drop n s)) (p + n) (after g s) (drop n s) (omega arith) (omega arith)

-- the parse of the whole comes by the place p with the progress g
pub record Reaches (bytes : List ℕ) (p : ℕ) (g : Progress) : Type 0 where
  pub left : ℕ
  pub enough : length bytes ≤ p + left
  pub same : parse_from left p g (drop p bytes) ≡ parse bytes

pub reaches-start : (bytes : List ℕ) → Reaches bytes 0 begun
unfolding parse
reaches-start bytes = record { left = length bytes; enough = omega arith; same = refl }

pub reaches-refused : (bytes : List ℕ) (p : ℕ) (g : Progress) → Reaches bytes p g → fault g (drop p bytes) ≢ 0
    → parse bytes ≡ refused (fault g (drop p bytes)) (place (fault g (drop p bytes)) p)
reaches-refused bytes p g r n =
    let len = length-drop p bytes in
    let e = r.enough in
    sym r.same ∙ parse-refused r.left p g (drop p bytes) (λ z. omega arith) n

-- there is a record to come, so `left` is not used up
more : (left : ℕ) (bytes : List ℕ) (p : ℕ) → length bytes ≤ p + left → p < length bytes → suc (left - 1) ≡ left
more left bytes p e h = omega arith

module _ (bytes : List ℕ) (p : ℕ) (g : Progress) (r : Reaches bytes p g) (h : p < length bytes) where
  next : parse_from (suc (r.left - 1)) p g (drop p bytes) ≡ parse bytes
  next = rw (more r.left bytes p r.enough h) r.same

  pub reaches_done : fault g (drop p bytes) ≡ 0 → kind (drop p bytes) ≡ 0 → parse bytes ≡ parsed g.table
  reaches_done z k = sym next ∙ parse-done (r.left - 1) p g (drop p bytes) z k

  pub reaches_next : fault g (drop p bytes) ≡ 0 → kind (drop p bytes) ≢ 0
      → Reaches bytes (p + size (kind (drop p bytes))) (after g (drop p bytes))
  reaches_next z k =
      let n = size (kind (drop p bytes)) in
      let e = r.enough in
      let m = more r.left bytes p e h in
      let s = size-some (kind (drop p bytes)) in
      record {
        left = r.left - 1;
        enough = omega arith;
        same = rw (← drop-drop n p bytes) (sym (parse-next (r.left - 1) p g (drop p bytes) z k) ∙ next);
      }

-- ---- a fault as a result

pub checked-ok : {A : Type 0} (k : ℕ) (x y : A) → checked k x ≡ Ok y → (k ≡ 0) × (x ≡ y)
checked-ok k x y = go (eqb k 0) refl
  where
    go : (b : Bool) → eqb k 0 ≡ b → cond b (Ok x) (Err (fault_of k)) ≡ Ok y → (k ≡ 0) × (x ≡ y)
    go true q e = (eqb-true k 0 q, cc)
    go false q e = let z : ◌≡◌ {A = ℕ} 0 1 = cc in absurd (omega arith)

pub checked-err : {A : Type 0} (k : ℕ) (x : A) (f : Fault) → checked k x ≡ Err f → (k ≢ 0) × (f ≡ fault_of k)
checked-err k x f = go (eqb k 0) refl
  where
    go : (b : Bool) → eqb k 0 ≡ b → cond b (Ok x) (Err (fault_of k)) ≡ Err f → (k ≢ 0) × (f ≡ fault_of k)
    go true q e = let z : ◌≡◌ {A = ℕ} 0 1 = cc in absurd (omega arith)
    go false q e = (eqb-false k 0 q, cc)

pub kind-number : (k : ℕ) → k ≤ 2 → kind_number (kind_of k) ≡ k
unfolding kind_of
kind-number zero h = refl
kind-number (suc zero) h = refl
kind-number (suc (suc k)) h = let z : k ≡ 0 = omega arith in rw z refl

-- what the kind byte of a record says
pub kind-said : (k : ℕ) (x : Kind) → checked (cond (ltb 2 k) 2 0) (kind_of k) ≡ Ok x
    → (k ≤ 2) × (kind_of k ≡ x) × (kind_number x ≡ k)
kind-said k x e =
    let o = checked-ok (cond (ltb 2 k) 2 0) (kind_of k) x e in
    let small : k ≤ 2 = few (ltb 2 k) refl o.0 in
    (small, o.1, subst (λ (y : Kind). kind_number y ≡ k) o.1 (kind-number k small))
  where
    few : (b : Bool) → ltb 2 k ≡ b → ◌≡◌ {A = ℕ} (cond b 2 0) 0 → k ≤ 2
    few true q z = absurd (omega arith)
    few false q z = ltb-false 2 k q

-- what `?` hands on
pub handed-on : {A : Type 0} (r : Result A Fault) (f : Fault) → IsErr r → IsErrAnd r (λ x. x ≡ f) → r ≡ Err f
handed-on (Ok x) f i h = absurd h
handed-on (Err x) f i h = ap Err h
