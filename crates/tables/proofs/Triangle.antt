-- Tables from a triangle of bits, as the theorem of their columns needs them: what is known of the rows of one size
-- (`Triangular`), and how the rows of the next one arise (`Extends`). The low n bits of an image are those of its
-- block, mirrored. Assumes nothing.
use mathlib.Core.Path.{◌≡◌, refl, sym, ap, ap₂, ◌∙◌, subst}
use mathlib.Core.Bool.{Bool, true, false}
use mathlib.Core.List.{List, [], ◌∷◌, ◌++◌}
use Prim.Native.Nat.{ℕ, zero, suc, ◌+◌, ◌-◌, ◌*◌, ◌%◌, ◌^◌, ◌≤◌, ◌<◌}
use native.Mathlib.Nat.{le_refl, le_of_eq, zero-mod, add-mod, mod-eq_of_lt, lt_of_lt_of_le, one-mul, zero-mul, zero-add}
use native.Mathlib.Nat.{add-zero, add_comm, mul-add, mul_left_comm, pow-succ'}
use native.Mathlib.Numerals.{add-one}
use native.Mathlib.Decide.{dec_le, ℕ_discrete}
use native.Mathlib.Omega.{arith}
use lib.ListN.{length, get_or, length-append, get_or-append}
use lib.Pow.{pow_pos, pow-lt, pow_mono}
use lib.Seq.{get_or_at, get_or-append_seam}
use Rattle.span.specs.Word.{◌⊕◌, bit, sel, digit}
use Rattle.span.specs.Combination.{Below}
use Rattle.span.proofs.Word.{xor_comm, xor_zero_r, bit-xor, bit-none, bit-pow, bit-pow-other, pow-add-xor, bit-low}
use Rattle.span.proofs.Combination.{combination-xor, combination-pow, combination-low, combination-lt}
use Rattle.tables.specs.Code.{image}
use Rattle.tables.specs.Made.{upper, made_row, made_rows, triangle_rows, Triangle}
use Rattle.tables.specs.Triangle.{NestedRows}
use Rattle.span.proofs.Linear.{listed, listed-zero, listed_suc, length-listed, get_or-listed, shl-low, bits_none}
use Rattle.span.proofs.Linear.{Linear}
use Rattle.span.proofs.Linear.{linear-zero, parity-same}

-- ---- a table of n rows in 2n bits, and one with a row and two bits more

-- The low n bits of an image determine the block.
pub record Triangular (n : ℕ) (rs : List ℕ) : Type 0 where
  pub size : length rs ≡ n
  pub below : Below (2 * n) rs
  pub low : (e : ℕ) → e < 2 ^ n → image rs e % 2 ^ n ≡ 0 → e ≡ 0

-- Column a gives each row one bit more, and the last row is 1.
pub record Extends (n a : ℕ) (rs ts : List ℕ) : Type 0 where
  pub row : (i : ℕ) → i < n → get_or ts i 0 ≡ 2 * get_or rs i 0 ⊕ sel (bit i a) (2 ^ suc (2 * n))
  pub last : get_or ts n 0 ≡ 1

pub image-xor : (rs : List ℕ) → Linear (image rs)
unfolding image
image-xor rs = combination-xor rs

pub image-row : (rs : List ℕ) (i : ℕ) → image rs (2 ^ i) ≡ get_or rs i 0
unfolding image
image-row rs i = combination-pow rs i

pub image_lt : (n : ℕ) (rs : List ℕ) → Triangular n rs → (e : ℕ) → image rs e < 2 ^ (2 * n)
unfolding image
image_lt n rs T e = combination-lt (2 * n) rs e T.below

pub image-low : (n : ℕ) (rs : List ℕ) → Triangular n rs → (e : ℕ) → image rs (e % 2 ^ n) ≡ image rs e
unfolding image
image-low n rs T e = subst (λ (k : ℕ). image rs (e % 2 ^ k) ≡ image rs e) T.size (combination-low rs e)

pub image-zero : (rs : List ℕ) → image rs 0 ≡ 0
image-zero rs = linear-zero (image rs) (image-xor rs)

-- ---- the rows of a triangle

made-listed : (cs : List ℕ) (n i : ℕ) → made_rows cs n i ≡ listed (λ p. made_row cs n (suc p)) i
unfolding made_rows
made-listed cs n zero = sym (listed-zero (λ p. made_row cs n (suc p)))
made-listed cs n (suc i) =
    ap (λ (l : List ℕ). l ++ (made_row cs n (suc i) ∷ [])) (made-listed cs n i)
    ∙ sym (listed_suc (λ p. made_row cs n (suc p)) i)

pub made-length : (cs : List ℕ) (n i : ℕ) → length (made_rows cs n i) ≡ i
made-length cs n i = ap length (made-listed cs n i) ∙ length-listed (λ p. made_row cs n (suc p)) i

-- from here on n = suc m, so that the rows but the last are m
module _ (cs : List ℕ) (m : ℕ) where
  rows-length : length (triangle_rows cs (suc m)) ≡ suc m
  rows-length =
      length-append (made_rows cs (suc m) (suc m - 1)) (1 ∷ [])
      ∙ ap (λ (k : ℕ). k + 1) (made-length cs (suc m) (suc m - 1)) ∙ omega arith

  row_made : (p : ℕ) → p < m → get_or (triangle_rows cs (suc m)) p 0 ≡ made_row cs (suc m) (suc p)
  row_made p h =
      let l : p < suc m - 1 = omega arith in
      get_or-append (made_rows cs (suc m) (suc m - 1)) (1 ∷ []) 0 p (rw (made-length cs (suc m) (suc m - 1)) l)
      ∙ ap (λ (r : List ℕ). get_or r p 0) (made-listed cs (suc m) (suc m - 1))
      ∙ get_or-listed (λ p. made_row cs (suc m) (suc p)) (suc m - 1) p l

  row_last : get_or (triangle_rows cs (suc m)) m 0 ≡ 1
  row_last = get_or_at (made_rows cs (suc m) (suc m - 1)) 1 [] 0 m (made-length cs (suc m) (suc m - 1) ∙ omega arith)

digit-le : (s : Bool) (w : ℕ) → digit s * w ≤ w
digit-le true w = le_of_eq (one-mul w)
digit-le false w = rw (zero-mul w) (omega arith)

-- the columns' bits stand above the low n and below 2n
upper-bound : (cs : List ℕ) (n j i : ℕ) → upper cs n j i + 2 ^ (n + 1) ≤ 2 ^ (n + i + 1)
unfolding upper
upper-bound cs n j zero =
    let e : 2 ^ (n + 0 + 1) ≡ 2 ^ (n + 1) = ap (λ (k : ℕ). 2 ^ k) (omega arith) in
    omega arith
upper-bound cs n j (suc i) =
    let ih = upper-bound cs n j i in
    let d = digit-le (bit (j - 1) (get_or cs i 0)) (2 ^ (n + i + 1)) in
    let e : 2 ^ (n + suc i + 1) ≡ 2 ^ suc (n + i + 1) = ap (λ (k : ℕ). 2 ^ k) (omega arith) in
    omega arith

upper-low : (cs : List ℕ) (n j i : ℕ) → upper cs n j i % 2 ^ n ≡ 0
unfolding upper
upper-low cs n j zero = zero-mod (2 ^ n)
upper-low cs n j (suc i) =
    let d = digit (bit (j - 1) (get_or cs i 0)) in
    add-mod (upper cs n j i) (d * 2 ^ (n + i + 1)) (2 ^ n)
    ∙ ap₂ (λ (x y : ℕ). (x + y) % 2 ^ n) (upper-low cs n j i) (shl-low d n (n + i + 1) (omega arith))
    ∙ zero-mod (2 ^ n)

-- below its place a column has no bits
upper-none : (cs : List ℕ) → Triangle cs → (n p i : ℕ) → i ≤ p → i ≤ length cs → upper cs n (suc p) i ≡ 0
unfolding upper
upper-none cs t n p zero h l = refl
upper-none cs t n p (suc i) h l =
    let none : bit (suc p - 1) (get_or cs i 0) ≡ false =
    bit-none (suc p - 1) (get_or cs i 0) (lt_of_lt_of_le (t i l) (pow_mono (omega arith)))
    in
    ap₂ (λ (x : ℕ) (s : Bool). x + digit s * 2 ^ (n + i + 1)) (upper-none cs t n p i (omega arith) (omega arith)) none
    ∙ zero-add (0 * 2 ^ (n + i + 1)) ∙ zero-mul (2 ^ (n + i + 1))

-- one column more doubles what the others give
upper-nested : (cs : List ℕ) (a n j i : ℕ) → i ≤ length cs → upper (cs ++ (a ∷ [])) (suc n) j i ≡ 2 * upper cs n j i
unfolding upper
upper-nested cs a n j zero h = refl
upper-nested cs a n j (suc i) h =
    let d = digit (bit (j - 1) (get_or cs i 0)) in
    let same : get_or (cs ++ (a ∷ [])) i 0 ≡ get_or cs i 0 = get_or-append cs (a ∷ []) 0 i h in
    let twice : 2 ^ (suc n + i + 1) ≡ 2 * 2 ^ (n + i + 1) =
    ap (λ (k : ℕ). 2 ^ k) (omega arith) ∙ pow-succ' 2 (n + i + 1) in
    ap₂ ◌+◌ (upper-nested cs a n j i (omega arith))
    (ap₂ (λ (x y : ℕ). digit (bit (j - 1) x) * y) same twice ∙ mul_left_comm d 2 (2 ^ (n + i + 1)))
    ∙ sym (mul-add 2 (upper cs n j i) (d * 2 ^ (n + i + 1)))

module _ (cs : List ℕ) (m : ℕ) where
  made-lt : (j : ℕ) → made_row cs (suc m) j < 2 ^ (2 * suc m)
  unfolding made_row
  made-lt j =
      let b = upper-bound cs (suc m) j (suc m - 1) in
      let e : 2 ^ (suc m + (suc m - 1) + 1) ≡ 2 ^ (2 * suc m) = ap (λ (k : ℕ). 2 ^ k) (omega arith) in
      let l : 2 ^ (suc m - j) < 2 ^ (suc m + 1) = pow-lt (omega arith) in
      omega arith

  rows-below : Below (2 * suc m) (triangle_rows cs (suc m))
  rows-below i h = go (dec_le (suc i) m)
    where
      go : Dec (i < m) → get_or (triangle_rows cs (suc m)) i 0 < 2 ^ (2 * suc m)
      go (yes l) = rw (row_made cs m i l) (made-lt (suc i))
      go (no l) =
          let e : i ≡ m = let n = rows-length cs m in omega arith in
          rw (e, row_last cs m) (pow-lt {i = 0} (omega arith))

  -- row j has bit n − j alone among the low n
  row_low : (p : ℕ) → p < suc m → get_or (triangle_rows cs (suc m)) p 0 % 2 ^ suc m ≡ 2 ^ (suc m - suc p)
  unfolding made_row
  row_low p h = go (dec_le (suc p) m)
    where
      one : 2 ^ (suc m - suc p) < 2 ^ suc m
      one = pow-lt (omega arith)

      go : Dec (p < m) → get_or (triangle_rows cs (suc m)) p 0 % 2 ^ suc m ≡ 2 ^ (suc m - suc p)
      go (yes l) =
          ap (λ (x : ℕ). x % 2 ^ suc m) (row_made cs m p l)
          ∙ add-mod (2 ^ (suc m - suc p)) (upper cs (suc m) (suc p) (suc m - 1)) (2 ^ suc m)
          ∙ ap₂ (λ (x y : ℕ). (x + y) % 2 ^ suc m) (mod-eq_of_lt one) (upper-low cs (suc m) (suc p) (suc m - 1))
          ∙ ap (λ (x : ℕ). x % 2 ^ suc m) (add-zero (2 ^ (suc m - suc p)))
          ∙ mod-eq_of_lt one
      go (no l) =
          let e : p ≡ m = omega arith in
          let none : suc m - suc p ≡ 0 = omega arith in
          let z : 2 ^ (suc m - suc p) ≡ 1 = ap (λ (k : ℕ). 2 ^ k) none in
          ap (λ (x : ℕ). x % 2 ^ suc m) (ap (λ (k : ℕ). get_or (triangle_rows cs (suc m)) k 0) e ∙ row_last cs m ∙ sym z)
          ∙ mod-eq_of_lt one

  -- so the low n bits of an image are those of the block, mirrored
  mirrored : (i : ℕ) → i < suc m → (e : ℕ) → e < 2 ^ suc m
      → bit (suc m - suc i) (image (triangle_rows cs (suc m)) e) ≡ bit i e
  mirrored i h =
      parity-same (λ e. bit (suc m - suc i) (image rs e)) (bit i)
      (λ x y. ap (bit (suc m - suc i)) (image-xor rs x y) ∙ bit-xor (suc m - suc i) (image rs x) (image rs y))
      (bit-xor i) (suc m)
      (λ j l. ap (bit (suc m - suc i)) (image-row rs j)
      ∙ sym (bit-low (suc m - suc i) (suc m) (get_or rs j 0) (omega arith))
      ∙ ap (bit (suc m - suc i)) (row_low j l)
      ∙ go j l (ℕ_discrete i j))
    where
      rs : List ℕ
      rs = triangle_rows cs (suc m)

      go : (j : ℕ) → j < suc m → Dec (i ≡ j) → bit (suc m - suc i) (2 ^ (suc m - suc j)) ≡ bit i (2 ^ j)
      go j l (yes e) = rw e (bit-pow (suc m - suc j) ∙ sym (bit-pow j))
      go j l (no e) = bit-pow-other (suc m - suc i) (suc m - suc j) (λ f. e (omega arith)) ∙ sym (bit-pow-other i j e)

  pub triangular : Triangular (suc m) (triangle_rows cs (suc m))
  triangular = record {
    size = rows-length cs m;
    below = rows-below;
    low = λ e h none. bits_none (suc m) e h (λ i l. sym (mirrored i l e h)
        ∙ sym (bit-low (suc m - suc i) (suc m) (image (triangle_rows cs (suc m)) e) (omega arith))
        ∙ ap (bit (suc m - suc i)) none ∙ bit-none (suc m - suc i) 0 (pow_pos (suc m - suc i)));
  }

-- ---- one column more

-- row n, 1, is also what the columns would give: they have no bit there
row_any : (cs : List ℕ) → Triangle cs → (p : ℕ) → p ≤ length cs
    → get_or (triangle_rows cs (suc (length cs))) p 0 ≡ made_row cs (suc (length cs)) (suc p)
unfolding made_row
row_any cs t p h = go (dec_le (suc p) (length cs))
  where
    m : ℕ
    m = length cs

    go : Dec (p < m) → get_or (triangle_rows cs (suc m)) p 0 ≡ made_row cs (suc m) (suc p)
    go (yes l) = row_made cs m p l
    go (no l) =
        let e : p ≡ m = omega arith in
        let none : suc m - suc p ≡ 0 = omega arith in
        let z : 2 ^ (suc m - suc p) ≡ 1 = ap (λ (k : ℕ). 2 ^ k) none in
        ap (λ (k : ℕ). get_or (triangle_rows cs (suc m)) k 0) e ∙ row_last cs m
        ∙ sym (ap₂ ◌+◌ z (upper-none cs t (suc m) p (suc m - 1) (omega arith) (omega arith)) ∙ refl)

pub nested-row : (cs : List ℕ) → Triangle cs → (a p : ℕ) → p ≤ length cs
    → made_row (cs ++ (a ∷ [])) (suc (suc (length cs))) (suc p)
    ≡ 2 * get_or (triangle_rows cs (suc (length cs))) p 0 + digit (bit p a) * 2 ^ suc (2 * suc (length cs))
unfolding made_row upper
nested-row cs t a p h =
    let m = length cs in
    let n = suc (length cs) in
    let more = cs ++ (a ∷ []) in
    let one : 2 ^ (suc n - suc p) ≡ 2 * 2 ^ (n - suc p) =
    ap (λ (k : ℕ). 2 ^ k) (omega arith) ∙ pow-succ' 2 (n - suc p) in
    let less : n - 1 ≡ m = omega arith in
    let count : suc n - 1 ≡ suc m = omega arith in
    let place : suc p - 1 ≡ p = omega arith in
    let top : suc n + m + 1 ≡ suc (2 * n) = omega arith in
    let last : upper more (suc n) (suc p) (suc n - 1)
    ≡ 2 * upper cs n (suc p) (n - 1) + digit (bit p a) * 2 ^ suc (2 * n) =
    ap (upper more (suc n) (suc p)) count
    ∙ ap₂ ◌+◌ (upper-nested cs a n (suc p) m (le_refl m) ∙ ap (λ (i : ℕ). 2 * upper cs n (suc p) i) (sym less))
    (ap₂ (λ (x y : ℕ). digit (bit x y) * 2 ^ (suc n + m + 1)) place (get_or-append_seam cs a [] 0)
    ∙ ap (λ (k : ℕ). digit (bit p a) * 2 ^ k) top)
    in
    let row : get_or (triangle_rows cs n) p 0 ≡ 2 ^ (n - suc p) + upper cs n (suc p) (n - 1) = row_any cs t p h in
    omega arith

pub nested-rows : NestedRows
nested-rows cs t a zero h l = absurd (omega arith)
nested-rows cs t a (suc p) h l =
    let place : suc p - 1 ≡ p = omega arith in
    rw (place, add-one (2 * suc (length cs))) (nested-row cs t a p (omega arith))

add-top : (m x : ℕ) (s : Bool) → x < 2 ^ m → x + digit s * 2 ^ m ≡ x ⊕ sel s (2 ^ m)
add-top m x true h =
    ap (λ (y : ℕ). x + y) (one-mul (2 ^ m)) ∙ add_comm x (2 ^ m) ∙ pow-add-xor m x h ∙ xor_comm (2 ^ m) x
add-top m x false h = ap (λ (y : ℕ). x + y) (zero-mul (2 ^ m)) ∙ add-zero x ∙ sym (xor_zero_r x)

pub extends : (cs : List ℕ) → Triangle cs → (a : ℕ)
    → Extends (suc (length cs)) a (triangle_rows cs (suc (length cs)))
    (triangle_rows (cs ++ (a ∷ [])) (suc (suc (length cs))))
extends cs t a = record {
  row = λ i h.
      let n = suc (length cs) in
      let rs = triangle_rows cs n in
      let small : get_or rs i 0 < 2 ^ (2 * n) = rows-below cs (length cs) i (rw (rows-length cs (length cs)) h) in
      row_made (cs ++ (a ∷ [])) n i h ∙ nested-row cs t a i (omega arith)
      ∙ add-top (suc (2 * n)) (2 * get_or rs i 0) (bit i a) (omega arith);
  last = row_last (cs ++ (a ∷ [])) (suc (length cs));
}
