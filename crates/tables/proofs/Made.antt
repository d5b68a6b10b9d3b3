-- Our columns: each made table is suitable, each column is forced by those before it, and no other triangle has all its
-- sizes suitable.
--
-- For each size n and shift l the pair of blocks that meets at 2^(l − 1) stands as a certificate; one computed test
-- over all sizes checks the pairs and that our next column has the parities they ask for, and `filled` carries it to
-- each size. `filling` does the rest. Assumes nothing.
use mathlib.Core.Path.{◌≡◌, refl, sym, ap, ap₂, ◌∙◌, subst}
use mathlib.Core.Bool.{Bool, true, false, xor, ◌&&◌, true≢false, false≢true, cond}
use mathlib.Core.Logic.{◌≢◌, ◌↔◌}
use mathlib.Core.List.{List, [], ◌∷◌, ◌++◌}
use Prim.Native.Nat.{ℕ, zero, suc, ◌+◌, ◌-◌, ◌*◌, ◌^◌, ◌≤◌, ◌<◌}
use native.Mathlib.Nat.{le_refl}
use native.Mathlib.Omega.{arith}
use borrow.Author.Tests.{ltb-true, eqb-true}
use lib.Dec.{ltb, eqb}
use lib.ListN.{length, get_or, take, replicate}
use lib.Seq.{take-suc, take_at, length-take-le, get_or-take, take_all}
use Rattle.span.specs.Word.{◌⊕◌, odd, bit, digit, common_parity, shifted}
use Rattle.span.specs.Combination.{combination, Below}
use Rattle.span.proofs.Combination.{below_left}
use Rattle.tables.specs.declared.table.Table.{Table}
use Rattle.std.specs.Prelude.{Result, Ok, Err}
use Rattle.tables.specs.declared.make.MakeError.{MakeError}
use Rattle.tables.specs.declared.make.MakeError.TheVariants.{OutOfRange}
use Rattle.tables.specs.Code.{image, shifted_image, Suitable}
use Rattle.tables.specs.Clash.{first_from, clash_of, clash_at, first_clash}
use Rattle.tables.specs.Triangle.{Forced, Unique, another, NotUnique, OurTriangle, MadeLaw, MadeDepth}
use Rattle.tables.specs.Table.{table, rows_of, sizes_fit, rows_fit, fit}
use Rattle.tables.specs.Made.{columns, upper, made_row, made_rows, triangle_rows, Triangle, made_table, making}
use Rattle.tables.proofs.Fit.{and_left, and_right, Fits, sizes-of, sizes-fit-of, rows-fit-of}
use Rattle.tables.proofs.Triangle.{made-length, triangular}
use Rattle.tables.proofs.Every.{every, every-at}
use Rattle.tables.proofs.Clash.{no-clash}
use Rattle.tables.proofs.Filling.{one-suitable, filling, filled}

-- ---- the certificate

-- p and q for l = 1, 2, .. of the table for n = 1, 2, ..: image p ⊕ (image q shifted by l) is 2^(l − 1).
-- `tests/columns.rs` derives it.
certificate : List (List ℕ)
certificate =
    (1 ∷ 0 ∷ [])
    ∷ (2 ∷ 0 ∷ 1 ∷ 1 ∷ [])
    ∷ (4 ∷ 0 ∷ 3 ∷ 5 ∷ 1 ∷ 3 ∷ [])
    ∷ (8 ∷ 0 ∷ 7 ∷ 13 ∷ 3 ∷ 10 ∷ 1 ∷ 7 ∷ [])
    ∷ (16 ∷ 0 ∷ 15 ∷ 29 ∷ 6 ∷ 17 ∷ 2 ∷ 3 ∷ 1 ∷ 15 ∷ [])
    ∷ (32 ∷ 0 ∷ 31 ∷ 61 ∷ 11 ∷ 26 ∷ 7 ∷ 53 ∷ 2 ∷ 6 ∷ 1 ∷ 31 ∷ [])
    ∷ (64 ∷ 0 ∷ 63 ∷ 125 ∷ 22 ∷ 49 ∷ 14 ∷ 98 ∷ 6 ∷ 69 ∷ 3 ∷ 83 ∷ 1 ∷ 63 ∷ [])
    ∷ (128 ∷ 0 ∷ 127 ∷ 253 ∷ 61 ∷ 235 ∷ 21 ∷ 86 ∷ 12 ∷ 130 ∷ 7 ∷ 213 ∷ 3 ∷ 166 ∷ 1 ∷ 127 ∷ [])
    ∷ (256 ∷ 0 ∷ 255 ∷ 509 ∷ 86 ∷ 177 ∷ 60 ∷ 449 ∷ 27 ∷ 360 ∷ 8 ∷ 2 ∷ 6 ∷ 277 ∷ 2 ∷ 51 ∷ 1 ∷ 255 ∷ [])
    ∷ (512 ∷ 0 ∷ 511 ∷ 1021 ∷ 235 ∷ 858 ∷ 103 ∷ 629 ∷ 46 ∷ 452 ∷ 27 ∷ 720 ∷ 11 ∷ 418 ∷ 7 ∷ 853
    ∷ 2 ∷ 102 ∷ 1 ∷ 511 ∷ [])
    ∷ (1024 ∷ 0 ∷ 1023 ∷ 2045 ∷ 445 ∷ 1515 ∷ 242 ∷ 1827 ∷ 104 ∷ 1281 ∷ 41 ∷ 605 ∷ 16 ∷ 2 ∷ 14 ∷ 1570
    ∷ 6 ∷ 1109 ∷ 3 ∷ 1331 ∷ 1 ∷ 1023 ∷ [])
    ∷ (2048 ∷ 0 ∷ 2047 ∷ 4093 ∷ 747 ∷ 1882 ∷ 347 ∷ 1460 ∷ 209 ∷ 2607 ∷ 75 ∷ 721 ∷ 59 ∷ 3489
    ∷ 28 ∷ 3093 ∷ 12 ∷ 2082 ∷ 7 ∷ 3413 ∷ 3 ∷ 2662 ∷ 1 ∷ 2047 ∷ [])
    ∷ (4096 ∷ 0 ∷ 4095 ∷ 8189 ∷ 1469 ∷ 3563 ∷ 974 ∷ 7394 ∷ 458 ∷ 6471 ∷ 204 ∷ 4868 ∷ 84 ∷ 2574
    ∷ 42 ∷ 2617 ∷ 31 ∷ 7859 ∷ 8 ∷ 34 ∷ 6 ∷ 4437 ∷ 2 ∷ 819 ∷ 1 ∷ 4095 ∷ [])
    ∷ (8192 ∷ 0 ∷ 8191 ∷ 16381 ∷ 2795 ∷ 5978 ∷ 1266 ∷ 3875 ∷ 582 ∷ 2245 ∷ 275 ∷ 1234 ∷ 142 ∷ 1809
    ∷ 105 ∷ 10612 ∷ 47 ∷ 7870 ∷ 30 ∷ 14489 ∷ 11 ∷ 6690 ∷ 7 ∷ 13653 ∷ 2 ∷ 1638 ∷ 1 ∷ 8191 ∷ [])
    ∷ (16384 ∷ 0 ∷ 16383 ∷ 32765 ∷ 8022 ∷ 31409 ∷ 3687 ∷ 26229 ∷ 1209 ∷ 5934 ∷ 934 ∷ 27018
    ∷ 476 ∷ 28170 ∷ 220 ∷ 23572 ∷ 64 ∷ 3 ∷ 61 ∷ 30113 ∷ 17 ∷ 3036 ∷ 14 ∷ 25122 ∷ 6 ∷ 17749
    ∷ 3 ∷ 21299 ∷ 1 ∷ 16383 ∷ [])
    ∷ []

first : ℕ → ℕ → ℕ
first i j = get_or (get_or certificate i []) (2 * j) 0

second : ℕ → ℕ → ℕ
second i j = get_or (get_or certificate i []) (2 * j + 1) 0

-- of the table for i + 1 with the rows rs, at the shift j + 1
meets : List ℕ → ℕ → ℕ → Bool
meets rs i j =
    ltb (first i j) (2 ^ suc i) && ltb (second i j) (2 ^ suc i)
    && eqb (image rs (first i j) ⊕ shifted (2 * suc i) (suc j) (image rs (second i j))) (2 ^ j)
    && xor (common_parity (suc i) (get_or columns i 0) (first i j)) (bit (2 * suc i - suc j) (image rs (second i j)))

all_meet : every (λ i. every (meets (triangle_rows (take i columns) (suc i)) i) (suc i)) 15 ≡ true
unfolding every meets first second certificate columns upper made_row made_rows image combination shifted common_parity bit
    odd xor ◌⊕◌
all_meet = refl

all-in-place : every (λ i. ltb (get_or columns i 0) (2 ^ suc i)) 15 ≡ true
unfolding every columns
all-in-place = refl

-- ---- the table for i + 1 from our columns

columns-length : length columns ≡ 15
unfolding columns
columns-length = refl

size-taken : (i : ℕ) → i ≤ 15 → length (take i columns) ≡ i
size-taken i h = length-take-le i columns (rw columns-length h)

our-triangle : (i : ℕ) → i ≤ 15 → Triangle (take i columns)
our-triangle i h k l =
    let inside : k < i = subst (λ (n : ℕ). k < n) (size-taken i h) l in
    subst (λ (c : ℕ). c < 2 ^ suc k) (sym (get_or-take i columns k 0 inside))
    (ltb-true (get_or columns k 0) (2 ^ suc k)
    (every-at (λ i. ltb (get_or columns i 0) (2 ^ suc i)) 15 all-in-place k (omega arith)))

next-column : (i : ℕ) → i < 15 → take (suc i) columns ≡ take i columns ++ (get_or columns i 0 ∷ [])
next-column i h = take-suc columns i 0 (rw columns-length h)

-- what the test says of one size and one shift
Pair : ℕ → ℕ → List ℕ → ℕ → Type 0
Pair n a rs l =
    (p : ℕ) × (q : ℕ) × (p < 2 ^ n) × (q < 2 ^ n) × (image rs p ⊕ shifted (2 * n) l (image rs q) ≡ 2 ^ (l - 1))
    × (common_parity n a p ≢ bit (2 * n - l) (image rs q))

differ-ne : (s t : Bool) → xor s t ≡ true → s ≢ t
unfolding xor
differ-ne true true e = absurd (false≢true e)
differ-ne true false e = true≢false
differ-ne false true e = false≢true
differ-ne false false e = absurd (false≢true e)

pair-here : (i j : ℕ) → i < 15 → j < suc i
    → Pair (suc i) (get_or columns i 0) (triangle_rows (take i columns) (suc i)) (suc j)
unfolding Pair meets
pair-here i j hi hj =
    let rs = triangle_rows (take i columns) (suc i) in
    let p = first i j in
    let q = second i j in
    let t1 = ltb p (2 ^ suc i) in
    let t2 = ltb q (2 ^ suc i) in
    let t3 = eqb (image rs p ⊕ shifted (2 * suc i) (suc j) (image rs q)) (2 ^ j) in
    let t4 = xor (common_parity (suc i) (get_or columns i 0) p) (bit (2 * suc i - suc j) (image rs q)) in
    let all : t1 && t2 && t3 && t4 ≡ true =
    every-at (meets rs i) (suc i)
    (every-at (λ i. every (meets (triangle_rows (take i columns) (suc i)) i) (suc i)) 15 all_meet i hi) j hj in
    let e3 = and_left (t1 && t2 && t3) t4 all in
    let e2 = and_left (t1 && t2) t3 e3 in
    let one : j ≡ suc j - 1 = omega arith in (
      p,
      q,
      ltb-true p (2 ^ suc i) (and_left t1 t2 e2),
      ltb-true q (2 ^ suc i) (and_right t1 t2 e2),
      eqb-true (image rs p ⊕ shifted (2 * suc i) (suc j) (image rs q)) (2 ^ j) (and_right (t1 && t2) t3 e3)
          ∙ ap (λ (k : ℕ). 2 ^ k) one,
      differ-ne (common_parity (suc i) (get_or columns i 0) p) (bit (2 * suc i - suc j) (image rs q))
          (and_right (t1 && t2 && t3) t4 all),
    )

-- `filled`, of a list of columns whose length is known
filled-by : (cs : List ℕ) (i a : ℕ) → length cs ≡ i → Triangle cs → Suitable (2 * suc i) (triangle_rows cs (suc i))
    → ((l : ℕ) → 1 ≤ l → l ≤ suc i → Pair (suc i) a (triangle_rows cs (suc i)) l)
    → Suitable (2 * suc (suc i)) (triangle_rows (cs ++ (a ∷ [])) (suc (suc i)))
unfolding Pair
filled-by cs i a e t =
    subst (λ (k : ℕ). Suitable (2 * suc k) (triangle_rows cs (suc k))
    → ((l : ℕ) → 1 ≤ l → l ≤ suc k → Pair (suc k) a (triangle_rows cs (suc k)) l)
    → Suitable (2 * suc (suc k)) (triangle_rows (cs ++ (a ∷ [])) (suc (suc k)))) e
    (λ suitable given. filled cs t suitable a given)

pub columns-suitable : (i : ℕ) → i ≤ 15 → Suitable (2 * suc i) (triangle_rows (take i columns) (suc i))
columns-suitable zero h = one-suitable
columns-suitable (suc i) h =
    subst (λ (cs : List ℕ). Suitable (2 * suc (suc i)) (triangle_rows cs (suc (suc i)))) (sym (next-column i h))
    (filled-by (take i columns) i (get_or columns i 0) (size-taken i (omega arith)) (our-triangle i (omega arith))
    (columns-suitable i (omega arith))
    (λ l from to. let e : suc (l - 1) ≡ l = omega arith in
    subst (Pair (suc i) (get_or columns i 0) (triangle_rows (take i columns) (suc i))) e
    (pair-here i (l - 1) h (omega arith))))

-- ---- our column is the only one

-- two fillings of one suitable table are the same
same-filling : (cs : List ℕ) (i c d : ℕ) → length cs ≡ i → Triangle cs → Suitable (2 * suc i) (triangle_rows cs (suc i))
    → c < 2 ^ suc i → Suitable (2 * suc (suc i)) (triangle_rows (cs ++ (c ∷ [])) (suc (suc i)))
    → d < 2 ^ suc i → Suitable (2 * suc (suc i)) (triangle_rows (cs ++ (d ∷ [])) (suc (suc i))) → c ≡ d
same-filling cs i c d e t =
    subst (λ (k : ℕ). Suitable (2 * suc k) (triangle_rows cs (suc k))
    → c < 2 ^ suc k → Suitable (2 * suc (suc k)) (triangle_rows (cs ++ (c ∷ [])) (suc (suc k)))
    → d < 2 ^ suc k → Suitable (2 * suc (suc k)) (triangle_rows (cs ++ (d ∷ [])) (suc (suc k))) → c ≡ d) e
    (λ suitable hc sc hd sd. let f = filling cs t suitable in f.3 c hc sc ∙ sym (f.3 d hd sd))

our-column : (i : ℕ) → i < 15 → (get_or columns i 0 < 2 ^ suc i)
    × Suitable (2 * suc (suc i)) (triangle_rows (take i columns ++ (get_or columns i 0 ∷ [])) (suc (suc i)))
our-column i h = (
  ltb-true (get_or columns i 0) (2 ^ suc i) (every-at (λ i. ltb (get_or columns i 0) (2 ^ suc i)) 15 all-in-place i h),
  subst (λ (cs : List ℕ). Suitable (2 * suc (suc i)) (triangle_rows cs (suc (suc i)))) (next-column i h)
      (columns-suitable (suc i) h),
)

column-forced : (i : ℕ) → i < 15 → (c : ℕ) → c < 2 ^ suc i
    → Suitable (2 * suc (suc i)) (triangle_rows (take i columns ++ (c ∷ [])) (suc (suc i))) ↔ (c ≡ get_or columns i 0)
column-forced i h c below = (
  λ suitable.
      same-filling (take i columns) i c (get_or columns i 0) (size-taken i (omega arith)) (our-triangle i (omega arith))
      (columns-suitable i (omega arith)) below suitable (our-column i h).0 (our-column i h).1,
  λ e. subst (λ (a : ℕ). Suitable (2 * suc (suc i)) (triangle_rows (take i columns ++ (a ∷ [])) (suc (suc i)))) (sym e)
      (our-column i h).1,
)

pub forced : Forced
forced n from to c below =
    let size : suc (suc (n - 2)) ≡ n = omega arith in
    let places : n - 1 ≡ suc (n - 2) = omega arith in
    subst (λ (k : ℕ). Suitable (2 * k) (triangle_rows (take (n - 2) columns ++ (c ∷ [])) k)
    ↔ (c ≡ get_or columns (n - 2) 0)) size
    (column-forced (n - 2) (omega arith) c (subst (λ (k : ℕ). c < 2 ^ k) places below))

-- any triangle all of whose sizes are suitable is ours, column by column
unique-part : (cs : List ℕ) → Triangle cs → length cs ≤ 15
    → ((n : ℕ) → 2 ≤ n → n ≤ suc (length cs) → Suitable (2 * n) (triangle_rows (take (n - 1) cs) n))
    → (k : ℕ) → k ≤ length cs → take k cs ≡ take k columns
unique-part cs t short suitable zero h = refl
unique-part cs t short suitable (suc k) h =
    let before = unique-part cs t short suitable k (omega arith) in
    let c = get_or cs k 0 in
    let with-c : take (suc k) cs ≡ take k columns ++ (c ∷ []) =
    take-suc cs k 0 h ∙ ap (λ (ds : List ℕ). ds ++ (c ∷ [])) before in
    let one : suc (suc k) - 1 ≡ suc k = omega arith in
    let here : Suitable (2 * suc (suc k)) (triangle_rows (take k columns ++ (c ∷ [])) (suc (suc k))) =
    subst (λ (ds : List ℕ). Suitable (2 * suc (suc k)) (triangle_rows ds (suc (suc k))))
    (ap (λ (i : ℕ). take i cs) one ∙ with-c)
    (suitable (suc (suc k)) (omega arith) (omega arith))
    in
    let ours : c ≡ get_or columns k 0 = (column-forced k (omega arith) c (t k h)).0 here in
    with-c ∙ ap (λ (a : ℕ). take k columns ++ (a ∷ [])) ours ∙ sym (next-column k (omega arith))

pub unique : Unique
unique cs t short suitable =
    sym (take_all (length cs) cs (le_refl (length cs)))
    ∙ unique-part cs t short suitable (length cs) (le_refl (length cs))

-- ---- the made tables

-- a table for n asks for the first n − 1 columns only
upper_first : (cs ds : List ℕ) (n j i : ℕ) → ((k : ℕ) → k < i → get_or cs k 0 ≡ get_or ds k 0)
    → upper cs n j i ≡ upper ds n j i
unfolding upper
upper_first cs ds n j zero same = refl
upper_first cs ds n j (suc i) same =
    ap₂ (λ (x c : ℕ). x + digit (bit (j - 1) c) * 2 ^ (n + i + 1))
    (upper_first cs ds n j i (λ k h. same k (omega arith))) (same i (le_refl (suc i)))

rows-first : (cs ds : List ℕ) (n i : ℕ) → ((k : ℕ) → k < n - 1 → get_or cs k 0 ≡ get_or ds k 0)
    → made_rows cs n i ≡ made_rows ds n i
unfolding made_rows made_row
rows-first cs ds n zero same = refl
rows-first cs ds n (suc i) same =
    ap₂ (λ (rs : List ℕ) (x : ℕ). rs ++ ((2 ^ (n - suc i) + x) ∷ [])) (rows-first cs ds n i same)
    (upper_first cs ds n (suc i) (n - 1) same)

-- the table for n asks for the first n − 1 of our columns
made-rows : (n m : ℕ) → rows_of (made_table n m) ≡ triangle_rows (take (n - 1) columns) n
unfolding made_table
made-rows n m =
    ap (λ (rs : List ℕ). rs ++ (1 ∷ []))
    (take_at (made_rows columns n (n - 1)) (replicate (16 - n) 0) (n - 1) (made-length columns n (n - 1))
    ∙ sym (rows-first (take (n - 1) columns) columns n (n - 1) (λ k h. get_or-take (n - 1) columns k 0 h)))

made-suitable : (n m : ℕ) → 2 ≤ n → n ≤ 16 → Suitable (2 * n) (rows_of (made_table n m))
made-suitable n m from to =
    let size : suc (n - 1) ≡ n = omega arith in
    subst (Suitable (2 * n)) (sym (made-rows n m))
    (subst (λ (k : ℕ). Suitable (2 * k) (triangle_rows (take (n - 1) columns) k)) size
    (columns-suitable (n - 1) (omega arith)))

made-fit : (n m : ℕ) → Fits n 2 m [] → fit (made_table n m) ≡ true
unfolding fit made_table
made-fit n m z =
    let rows = take_at (made_rows columns n (n - 1)) (replicate (16 - n) 0) (n - 1) (made-length columns n (n - 1)) in
    let size : suc (n - 1) ≡ n = omega arith in
    let low = subst (λ (k : ℕ). Below (2 * k) (triangle_rows columns k)) size (triangular columns (n - 1)).below in
    ap₂ ◌&&◌
    (sizes-fit-of n (2 * n) m [] (record {
      n_from = z.n_from;
      n_to = z.n_to;
      N_from = omega arith;
      N_to = omega arith;
      m_from = z.m_from;
      m_to = z.m_to;
      below = λ i l. absurd (omega arith);
    }))
    (ap (rows_fit (2 * n)) rows ∙ rows-fit-of (2 * n) (made_rows columns n (n - 1))
    (below_left (2 * n) (made_rows columns n (n - 1)) (1 ∷ []) low))

made_all : (n m : ℕ) → Fits n 2 m []
    → ((made_table n m).symbols ≡ n) × ((made_table n m).span ≡ 2 * n) × ((made_table n m).depth ≡ m)
    × (fit (made_table n m) ≡ true)
    × Suitable (made_table n m).span (rows_of (made_table n m))
    × (rows_of (made_table n m) ≡ triangle_rows (take (n - 1) columns) n)
unfolding made_table
made_all n m z = (refl, refl, refl, made-fit n m z, made-suitable n m z.n_from z.n_to, made-rows n m)

-- what making answers, by its test
abbrev pub answered : Bool → ℕ → ℕ → Result Table MakeError
answered s n m = cond s (Ok (made_table n m)) (Err OutOfRange)

-- what making answers where it made a table
pub made_table_lem : (n m : ℕ) (t : Table) → making n m ≡ Ok t → (sizes_fit n 2 m ≡ true) × (t ≡ made_table n m)
unfolding making
made_table_lem n m t = go (sizes_fit n 2 m) refl
  where
    go : (s : Bool) → sizes_fit n 2 m ≡ s → answered s n m ≡ Ok t → (sizes_fit n 2 m ≡ true) × (t ≡ made_table n m)
    go true e a = (e, cc)
    go false e a = let z : ◌≡◌ {A = ℕ} 0 1 = cc in absurd (omega arith)

pub made : MadeLaw
made n m t a =
    let h = made_table_lem n m t a in
    let z = sizes-of n 2 m h.0 in
    subst (λ (t : Table). (t.symbols ≡ n) × (t.span ≡ 2 * n) × (t.depth ≡ m) × (fit t ≡ true)
    × Suitable t.span (rows_of t)
    × (rows_of t ≡ triangle_rows (take (n - 1) columns) n)) (sym h.1) (made_all n m z)

pub made-depth : MadeDepth
unfolding made_table
made-depth n m m' t t' a a' =
    (made_table_lem n m' t' a').1
    ∙ sym (ap (λ (u : Table). table u.symbols u.span m' u.rows) (made_table_lem n m t a).1)

-- sizes in range are never refused, and others are
pub is_made : (n m : ℕ) → sizes_fit n 2 m ≡ true → making n m ≡ Ok (made_table n m)
unfolding making
is_made n m e = rw e refl

pub not_made : (n m : ℕ) → sizes_fit n 2 m ≡ false → making n m ≡ Err OutOfRange
unfolding making
not_made n m e = rw e refl

pub our-columns : OurTriangle
our-columns = (columns-length, λ n to. our-triangle (n - 1) (omega arith))

-- ---- another triangle

another-suitable : Suitable 10 (triangle_rows another 5)
unfolding first_clash clash_at clash_of first_from image shifted_image combination shifted made_rows made_row upper bit
    odd xor ◌⊕◌
another-suitable = (no-clash 10 (triangle_rows another 5)).0 refl

another-in-place : every (λ i. ltb (get_or another i 0) (2 ^ suc i)) 4 ≡ true
unfolding every
another-in-place = refl

pub not-unique : NotUnique
unfolding columns
not-unique = (
  λ i h. ltb-true (get_or another i 0) (2 ^ suc i)
      (every-at (λ i. ltb (get_or another i 0) (2 ^ suc i)) 4 another-in-place i h),
  another-suitable,
  λ e. let z : ◌≡◌ {A = ℕ} 2 3 = ap (λ (cs : List ℕ). get_or cs 1 0) e in omega arith,
)
