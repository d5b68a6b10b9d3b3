-- How far one bit reaches: the coded forms of two messages that differ in one symbol differ by the coded form of that
-- symbol alone, since coded forms add. Assumes nothing.
--
--   changed-symbol     the block with one symbol changed
--   impulse_response, bits-changed, one_bit_reach, one-bit-reach-sharp   the theorems
use mathlib.Core.Path.{◌≡◌, refl, sym, ap, ap₂, ◌∙◌, subst}
use mathlib.Core.Bool.{Bool, xor}
use mathlib.Core.List.{List, [], ◌∷◌, ◌++◌, map, zip_with, sum}
use Prim.Native.Nat.{ℕ, zero, suc, ◌+◌, ◌-◌, ◌*◌, ◌/◌, ◌%◌, ◌^◌, ◌≤◌, ◌<◌}
use native.Mathlib.Nat.{zero-add, add_comm, mul_comm, mod-eq_of_lt, le-div_iff_mul-le}
use native.Mathlib.Decide.{dec_lt, ℕ_discrete}
use native.Mathlib.Omega.{arith}
use borrow.Author.Tests.{eq-eqb, ne_eqb}
use lib.Count.{ones, ones-ones}
use lib.Dec.{eqb}
use lib.ListN.{length, get_or, length-append, get_or-append}
use lib.Pow.{pow_mono, pow-lt}
use lib.Seq.{get_or-append-add}
use Rattle.span.specs.Word.{◌⊕◌, bit, sel, digit}
use Rattle.span.specs.Combination.{Below}
use Rattle.span.proofs.Word.{xor_zero_l, xor_zero_r, xor-twice, xor_lt, sel-lt, bit-xor, bit-pow, bit-pow-other}
use Rattle.span.proofs.Word.{bit-ext}
use Rattle.tables.specs.declared.table.Table.{Table}
use Rattle.tables.specs.Table.{sizes_fit, rows_fit, fit, info_rows}
use Rattle.tables.proofs.Fit.{fit-facts}
use Rattle.link.specs.Memory.{started, coder_words, delay_of}
use Rattle.link.specs.Massey.{row_of, symbol}
use Rattle.link.specs.Computed.{Z}
use Rattle.link.specs.Sums.{coded_from, coded_form}
use Rattle.link.specs.Reach.{ChangedSymbol, OneSymbol, response, ImpulseResponse, distance, BitsChanged}
use Rattle.link.specs.Reach.{OneBitReach, OneBitReachSharp}
use Rattle.link.proofs.Taken.{none_refused}
use Rattle.link.proofs.Sums.{zip_size, blocks_at, blocks-below, coded_at, coded_ext, coded_at_lem, coded-forms-differ}
use Rattle.link.proofs.OneTable.{from_one}
use Rattle.link.proofs.Formed.{started_formed}
use Rattle.link.proofs.Computed.{each_at}
use Rattle.link.proofs.Spread.{total, total_ext, total-none, total_first, total-split, total-add, total-list}
use Rattle.link.proofs.Spread.{ones-pow, ones-topped, spread, spread_cut}
use Rattle.link.proofs.Impulse.{impulse, row_lt, parity_before, parity_after}

-- ---- one symbol changed

unit-symbol : (i j : ℕ) → 1 ≤ i → 1 ≤ j → symbol i (2 ^ (j - 1)) ≡ eqb i j
unit-symbol i j a b = go (ℕ_discrete i j)
  where
    go : Dec (i ≡ j) → symbol i (2 ^ (j - 1)) ≡ eqb i j
    go (yes e) = ap (λ (k : ℕ). bit (k - 1) (2 ^ (j - 1))) e ∙ bit-pow (j - 1) ∙ sym (eq-eqb i j e)
    go (no e) = bit-pow-other (i - 1) (j - 1) (λ z. e (omega arith)) ∙ sym (ne_eqb i j e)

flipped : (j x i : ℕ) → 1 ≤ i → 1 ≤ j → symbol i (x ⊕ 2 ^ (j - 1)) ≡ xor (symbol i x) (eqb i j)
flipped j x i a b = bit-xor (i - 1) x (2 ^ (j - 1)) ∙ ap (xor (symbol i x)) (unit-symbol i j a b)

pub changed-symbol : ChangedSymbol
changed-symbol j x y from = (
  λ c. bit-ext y (x ⊕ 2 ^ (j - 1)) (λ i.
      ap (λ (k : ℕ). bit k y) (sym (from_one i)) ∙ c (suc i) (omega arith)
      ∙ sym (flipped j x (suc i) (omega arith) from)
      ∙ ap (λ (k : ℕ). bit k (x ⊕ 2 ^ (j - 1))) (from_one i)),
  λ e i a. ap (symbol i) e ∙ flipped j x i a from,
)

-- ---- two messages that differ in one symbol

eqb-add : (a d : ℕ) → eqb (a + d) a ≡ eqb d 0
eqb-add a d = go (ℕ_discrete d 0)
  where
    go : Dec (d ≡ 0) → eqb (a + d) a ≡ eqb d 0
    go (yes e) = eq-eqb (a + d) a (omega arith) ∙ sym (eq-eqb d 0 e)
    go (no e) = ne_eqb (a + d) a (λ z. e (omega arith)) ∙ sym (ne_eqb d 0 e)

module _ (t : Table) (s before after : List ℕ) (x y j : ℕ) (c : OneSymbol t s before after x y j) where
  abbrev xs : List ℕ
  xs = before ++ (x ∷ after)

  abbrev ys : List ℕ
  ys = before ++ (y ∷ after)

  abbrev alone : ℕ → ℕ
  alone = impulse (length before) (2 ^ (j - 1))

  x-size : length xs ≡ length before + suc (length after)
  x-size = length-append before (x ∷ after)

  same_size : length xs ≡ length ys
  same_size = x-size ∙ sym (length-append before (y ∷ after))

  -- from the block on
  changed-from : (d : ℕ) → get_or (y ∷ after) d 0 ≡ get_or (x ∷ after) d 0 ⊕ alone (length before + d)
  changed-from zero =
      (changed-symbol j x y c.symbol_from).0 c.changed
      ∙ ap (λ (s : Bool). x ⊕ sel s (2 ^ (j - 1))) (sym (eq-eqb (length before + 0) (length before) (omega arith)))
  changed-from (suc d) =
      sym (xor_zero_r (get_or after d 0))
      ∙ ap (λ (s : Bool). get_or after d 0 ⊕ sel s (2 ^ (j - 1)))
      (sym (ne_eqb (length before + suc d) (length before) (λ z. omega arith)))

  changed-at : (p : ℕ) → get_or ys p 0 ≡ get_or xs p 0 ⊕ alone p
  changed-at p = go (dec_lt p (length before))
    where
      go : Dec (p < length before) → get_or ys p 0 ≡ get_or xs p 0 ⊕ alone p
      go (yes h) =
          get_or-append before (y ∷ after) 0 p h ∙ sym (get_or-append before (x ∷ after) 0 p h)
          ∙ sym (xor_zero_r (get_or xs p 0))
          ∙ ap (λ (s : Bool). get_or xs p 0 ⊕ sel s (2 ^ (j - 1))) (sym (ne_eqb p (length before) (λ z. omega arith)))
      go (no h) =
          subst (λ (q : ℕ). get_or ys q 0 ≡ get_or xs q 0 ⊕ alone q)
          (let e : length before + (p - length before) ≡ p = omega arith in e)
          (get_or-append-add before (y ∷ after) (p - length before) 0 ∙ changed-from (p - length before)
          ∙ ap (λ (z : ℕ). z ⊕ alone (length before + (p - length before)))
          (sym (get_or-append-add before (x ∷ after) (p - length before) 0)))

  unit-lt : (s : Bool) → sel s (2 ^ (j - 1)) < 2 ^ (t.symbols - 1)
  unit-lt s =
      let from = c.symbol_from in
      let to = c.symbol_to in
      let below : j - 1 < t.symbols - 1 = omega arith in
      sel-lt (t.symbols - 1) s (2 ^ (j - 1)) (pow-lt below)

  y-below : Below (t.symbols - 1) ys
  y-below i h =
      let size = same_size in
      rw (changed-at i)
      (xor_lt (t.symbols - 1) (get_or xs i 0) (alone i) (c.below i (omega arith)) (unit-lt (eqb i (length before))))

  -- their exclusive or is the impulse, and the exclusive or of what is coded its coded form
  abbrev both : List ℕ
  both = zip_with ◌⊕◌ xs ys

  both_at : (p : ℕ) → get_or both p 0 ≡ alone p
  both_at p =
      blocks_at xs ys same_size p ∙ ap (λ (z : ℕ). get_or xs p 0 ⊕ z) (changed-at p) ∙ xor-twice (get_or xs p 0) (alone p)

  both_below : Below (t.symbols - 1) both
  both_below = blocks-below (t.symbols - 1) xs ys same_size c.below y-below

  coded-both : zip_with ◌⊕◌ (coded_from t s xs) (coded_from t s ys) ≡ coded_form t both
  coded-both = sym (coded-forms-differ t s c.fits c.formed xs ys same_size c.below y-below)

  coded-alone : (p : ℕ) → p < length xs → get_or (coded_form t both) p 0 ≡ coded_at t alone p
  coded-alone p h =
      let size = zip_size ◌⊕◌ xs ys same_size in
      coded_at_lem t c.fits both both_below p (omega arith) ∙ coded_ext t (λ i. get_or both i 0) alone both_at p

  alone-before : (p : ℕ) → p < length before → get_or (coded_form t both) p 0 ≡ 0
  alone-before p h =
      let size = x-size in
      coded-alone p (omega arith)
      ∙ ap₂ (λ (s q : Bool). sel s (2 ^ (j - 1)) + digit q * 2 ^ (t.symbols - 1))
      (ne_eqb p (length before) (λ z. omega arith)) (parity_before t c.fits j (length before) p h)
      ∙ (let e : 0 + 0 * 2 ^ (t.symbols - 1) ≡ 0 = omega arith in e)

  alone-after : (d : ℕ) → d ≤ length after → get_or (coded_form t both) (length before + d) 0 ≡ response t j d
  alone-after d h =
      let size = x-size in
      coded-alone (length before + d) (omega arith)
      ∙ ap₂ (λ (s q : Bool). sel s (2 ^ (j - 1)) + digit q * 2 ^ (t.symbols - 1))
      (eqb-add (length before) d) (parity_after t c.fits j (length before) d)

  was-size : length (coded_from t s xs) ≡ length xs
  was-size = ((none_refused t s xs c.fits).0 c.formed).1 c.below

  is-size : length (coded_from t s ys) ≡ length ys
  is-size = ((none_refused t s ys c.fits).0 c.formed).1 y-below

  both-size : length (coded_form t both) ≡ length before + suc (length after)
  both-size =
      ((none_refused t (started (coder_words t)) both c.fits).0 (started_formed t c.fits).0).1 both_below
      ∙ zip_size ◌⊕◌ xs ys same_size ∙ x-size

  differ : (p : ℕ) → get_or (coded_from t s ys) p 0 ≡ get_or (coded_from t s xs) p 0 ⊕ get_or (coded_form t both) p 0
  differ p =
      sym (xor-twice (get_or (coded_from t s xs) p 0) (get_or (coded_from t s ys) p 0))
      ∙ ap (λ (z : ℕ). get_or (coded_from t s xs) p 0 ⊕ z)
      (sym (blocks_at (coded_from t s xs) (coded_from t s ys) (was-size ∙ same_size ∙ sym is-size) p)
      ∙ ap (λ (l : List ℕ). get_or l p 0) coded-both)

  -- ---- how many bits

  abbrev row : ℕ
  row = row_of (info_rows t) j

  response-ones : (d : ℕ)
      → ones (response t j d) ≡ digit (spread t.depth row d) + ones (sel (eqb d 0) (2 ^ (j - 1)))
  response-ones d =
      ones-topped (t.symbols - 1) (sel (eqb d 0) (2 ^ (j - 1))) (spread t.depth row d) (unit-lt (eqb d 0))

  unit-total : (count : ℕ) → total (suc count) (λ d. ones (sel (eqb d 0) (2 ^ (j - 1)))) ≡ 1
  unit-total count =
      total_first count (λ d. ones (sel (eqb d 0) (2 ^ (j - 1))))
      (λ d h. ap (λ (s : Bool). ones (sel s (2 ^ (j - 1)))) (ne_eqb (suc d) 0 (λ z. omega arith)) ∙ ones-ones 0)
      ∙ ap (λ (s : Bool). ones (sel s (2 ^ (j - 1)))) (eq-eqb 0 0 refl) ∙ ones-pow (j - 1)

  response-total : total (suc (length after)) (λ d. ones (response t j d))
      ≡ 1 + ones (row % 2 ^ suc (length after / t.depth))
  response-total =
      let count = suc (length after) in
      total_ext count (λ d. ones (response t j d))
      (λ d. digit (spread t.depth row d) + ones (sel (eqb d 0) (2 ^ (j - 1)))) (λ d h. response-ones d)
      ∙ total-add count (λ d. digit (spread t.depth row d)) (λ d. ones (sel (eqb d 0) (2 ^ (j - 1))))
      ∙ ap₂ ◌+◌ (spread_cut t.depth (fit-facts t c.fits).m_from row (length after)) (unit-total (length after))
      ∙ add_comm (ones (row % 2 ^ suc (length after / t.depth))) 1

  changed-bits : distance (coded_from t s xs) (coded_from t s ys) ≡ 1 + ones (row % 2 ^ suc (length after / t.depth))
  changed-bits =
      let at = length before in
      let code = coded_form t both in
      ap (λ (l : List ℕ). sum ◌+◌ zero (map ones l)) coded-both
      ∙ total-list ones code
      ∙ ap (λ (k : ℕ). total k (λ p. ones (get_or code p 0))) both-size
      ∙ total-split at (suc (length after)) (λ p. ones (get_or code p 0))
      ∙ ap₂ ◌+◌
      (total-none at (λ p. ones (get_or code p 0)) (λ p h. ap ones (alone-before p h) ∙ ones-ones 0))
      (total_ext (suc (length after)) (λ d. ones (get_or code (at + d) 0)) (λ d. ones (response t j d))
      (λ d h. ap ones (alone-after d (omega arith)))
      ∙ response-total)
      ∙ zero-add (1 + ones (row % 2 ^ suc (length after / t.depth)))

  -- where so many blocks follow, all of the row counts
  whole_row : delay_of t ≤ length after → row % 2 ^ suc (length after / t.depth) ≡ row
  whole_row many =
      let f = fit-facts t c.fits in
      let from = f.N_from in
      let last : t.span - 1 ≤ length after / t.depth =
      (le-div_iff_mul-le f.m_from).1 (let e = mul_comm (t.span - 1) t.depth in omega arith) in
      let most : t.span ≤ suc (length after / t.depth) = omega arith in
      let low = row_lt t c.fits j in
      let all = pow_mono most in
      mod-eq_of_lt (omega arith)

pub impulse_response : ImpulseResponse
impulse_response t s before after x y j c =
    let was = coded_from t s (before ++ (x ∷ after)) in (
      λ p h.
          differ t s before after x y j c p
          ∙ ap (λ (z : ℕ). get_or was p 0 ⊕ z) (alone-before t s before after x y j c p h) ∙ xor_zero_r (get_or was p 0),
      λ d h.
          differ t s before after x y j c (length before + d)
          ∙ ap (λ (z : ℕ). get_or was (length before + d) 0 ⊕ z) (alone-after t s before after x y j c d h),
    )

pub bits-changed : BitsChanged
bits-changed = changed-bits

pub one_bit_reach : OneBitReach
one_bit_reach t s before after x y j c many =
    changed-bits t s before after x y j c ∙ ap (λ (z : ℕ). 1 + ones z) (whole_row t s before after x y j c many)

-- ---- how far the number goes

z-changed : OneSymbol (Z 1) (started 2) [] (0 ∷ 0 ∷ []) 0 1 1
unfolding fit sizes_fit rows_fit
z-changed = record {
  fits = refl;
  formed = (started_formed (Z 1) refl).0;
  below = each_at (λ i. get_or (0 ∷ 0 ∷ 0 ∷ []) i 0 < 2) 3 (omega arith, (omega arith, (omega arith, tt)));
  symbol_from = omega arith;
  symbol_to = omega arith;
  changed = (changed-symbol 1 0 1 (omega arith)).1 (sym (xor_zero_l 1));
}

-- row 10 has two ones, and one of them below bit 3
pub one-bit-reach-sharp : OneBitReachSharp
unfolding ones
one-bit-reach-sharp law =
    let z : ◌≡◌ {A = ℕ} 2 3 =
    sym (bits-changed (Z 1) (started 2) [] (0 ∷ 0 ∷ []) 0 1 1 z-changed)
    ∙ law (Z 1) (started 2) [] (0 ∷ 0 ∷ []) 0 1 1 z-changed (omega arith) in
    omega arith
