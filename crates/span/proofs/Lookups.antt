-- The laws of tables for lookup: four bits at a time give the combination, and a table is made by doubling, one word
-- after another. Assumes nothing.
use Rattle.std.proofs.Common.{◌≡◌, ℕ, zero, suc, ◌+◌, ◌-◌, ◌*◌, ◌/◌, ◌%◌, ◌^◌, ◌<◌, ◌≤◌, Bool, List, [], ◌∷◌, ◌++◌}
use Rattle.std.proofs.Common.{length, get_or, drop, set, replicate, sym, refl, ap, ◌∙◌, subst, ap₂, zero-add, div-one}
use Rattle.std.proofs.Common.{add-one, one-add, arith, length-append, length-set, drop_of_length-le, get_or-drop}
use Rattle.std.proofs.Common.{get_or-set_other, get_or-set_same, drop-drop, get_or-append-add, ext_get_or, shr-shr}
use native.Mathlib.Nat.{mod-one}
use native.Mathlib.Decide.{dec_le, dec_lt}
use lib.ListN.{get_or-append}
use lib.Pow.{mod-mod-pow, field}
use lib.Seq.{get_or_at}
use Rattle.span.specs.Word.{◌⊕◌, odd, sel}
use Rattle.span.specs.Combination.{combination}
use Rattle.span.specs.Lookup.{combinations, lookup_tables, lookup_of, looked_up, LookedUp, Doubled, Grouped}
use Rattle.span.proofs.Word.{xor_zero_l, xor_zero_r, xor_assoc, xor_comm, odd-of, odd-mod, pow-add-xor}
use Rattle.span.proofs.Combination.{combination-zero, combination-xor, combination-pow}

-- ---- four bits at a time

-- the first k words are selected by the low k bits, the others by those above
split-bits : (k : ℕ) (ws : List ℕ) (c : ℕ)
    → combination ws c ≡ combination ws (c % 2 ^ k) ⊕ combination (drop k ws) (c / 2 ^ k)
unfolding combination
split-bits zero ws c =
    sym (ap₂ (λ (x y : ℕ). combination ws x ⊕ combination ws y) (mod-one c) (div-one c)
    ∙ ap (λ (x : ℕ). x ⊕ combination ws c) (combination-zero ws)
    ∙ xor_zero_l (combination ws c))
split-bits (suc k) [] c = sym (xor_zero_l 0)
split-bits (suc k) (w ∷ ws) c =
    let low : odd (c % 2 ^ suc k) ≡ odd c =
    odd-of (odd c) (c % 2 ^ suc k) (rw (← add-one k) (mod-mod-pow c k 1) ∙ odd-mod c) in
    let half : c % 2 ^ suc k / 2 ≡ c / 2 % 2 ^ k = rw (← add-one k) (field c k 1) in
    let high : c / 2 / 2 ^ k ≡ c / 2 ^ suc k = rw (← one-add k) (shr-shr c 1 k) in
    ap (λ (x : ℕ). sel (odd c) w ⊕ x)
    (split-bits k ws (c / 2) ∙ ap₂ (λ (x y : ℕ). combination ws x ⊕ combination (drop k ws) y) (sym half) high)
    ∙ sym (xor_assoc (sel (odd c) w) (combination ws (c % 2 ^ suc k / 2)) (combination (drop k ws) (c / 2 ^ suc k)))
    ∙ ap (λ (s : Bool). sel s w ⊕ combination ws (c % 2 ^ suc k / 2) ⊕ combination (drop k ws) (c / 2 ^ suc k))
    (sym low)

-- ---- what the tables hold

combinations-length : (ws : List ℕ) (c : ℕ) → length (combinations ws c) ≡ c
unfolding combinations
combinations-length ws zero = refl
combinations-length ws (suc c) =
    let n = combinations-length ws c in
    length-append (combinations ws c) (combination ws c ∷ []) ∙ omega arith

combinations-at : (ws : List ℕ) (c v : ℕ) → v < c → get_or (combinations ws c) v 0 ≡ combination ws v
unfolding combinations
combinations-at ws zero v h = absurd (omega arith)
combinations-at ws (suc c) v h = go (λ l. combinations-at ws c v l) (dec_lt v c)
  where
    n : length (combinations ws c) ≡ c
    n = combinations-length ws c

    go : (v < c → get_or (combinations ws c) v 0 ≡ combination ws v) → Dec (v < c)
        → get_or (combinations ws c ++ (combination ws c ∷ [])) v 0 ≡ combination ws v
    go below (yes l) =
        get_or-append (combinations ws c) (combination ws c ∷ []) 0 v (let m = n in omega arith) ∙ below l
    go below (no l) =
        let last : c ≡ v = omega arith in
        get_or_at (combinations ws c) (combination ws c) [] 0 v (let m = n in omega arith) ∙ ap (combination ws) last

tables-length : (g : ℕ) (ws : List ℕ) → length (lookup_tables g ws) ≡ 16 * g
unfolding lookup_tables
tables-length zero ws = refl
tables-length (suc g) ws =
    let n = combinations-length ws 16 in
    let m = tables-length g (drop 4 ws) in
    length-append (combinations ws 16) (lookup_tables g (drop 4 ws)) ∙ omega arith

-- word 16 g + v of the tables is the combination of words 4 g to 4 g + 3 by v
tables-at : (g : ℕ) (ws : List ℕ) (i : ℕ) → i < 16 * g
    → get_or (lookup_tables g ws) i 0 ≡ combination (drop (4 * (i / 16)) ws) (i % 16)
unfolding lookup_tables
tables-at zero ws i h = absurd (omega arith)
tables-at (suc g) ws i h = go (λ l. tables-at g (drop 4 ws) (i - 16) l) (dec_lt i 16)
  where
    go : (i - 16 < 16 * g
        → get_or (lookup_tables g (drop 4 ws)) (i - 16) 0
        ≡ combination (drop (4 * ((i - 16) / 16)) (drop 4 ws)) ((i - 16) % 16))
        → Dec (i < 16)
        → get_or (combinations ws 16 ++ lookup_tables g (drop 4 ws)) i 0 ≡ combination (drop (4 * (i / 16)) ws) (i % 16)
    go rest (yes l) =
        let n = combinations-length ws 16 in
        let first : 4 * (i / 16) ≡ 0 = omega arith in
        let by : i % 16 ≡ i = omega arith in
        get_or-append (combinations ws 16) (lookup_tables g (drop 4 ws)) 0 i (omega arith)
        ∙ combinations-at ws 16 i l
        ∙ sym (ap₂ (λ (k d : ℕ). combination (drop k ws) d) first by)
    go rest (no l) =
        let n = combinations-length ws 16 in
        let past : i ≡ length (combinations ws 16) + (i - 16) = omega arith in
        let next : 4 + 4 * ((i - 16) / 16) ≡ 4 * (i / 16) = omega arith in
        let by : (i - 16) % 16 ≡ i % 16 = omega arith in
        ap (λ (k : ℕ). get_or (combinations ws 16 ++ lookup_tables g (drop 4 ws)) k 0) past
        ∙ get_or-append-add (combinations ws 16) (lookup_tables g (drop 4 ws)) (i - 16) 0
        ∙ rest (omega arith)
        ∙ ap₂ combination (drop-drop (4 * ((i - 16) / 16)) 4 ws ∙ ap (λ (k : ℕ). drop k ws) next) by

-- what one table holds
table_at : (ws : List ℕ) (g c : ℕ) → g < 4
    → get_or (lookup_of ws) (16 * g + c % 16) 0 ≡ combination (drop (4 * g) ws) (c % 16)
table_at ws g c h =
    let i = 16 * g + c % 16 in
    let at : i / 16 ≡ g = omega arith in
    let by : i % 16 ≡ c % 16 = omega arith in
    tables-at 4 ws i (omega arith) ∙ ap₂ (λ (j d : ℕ). combination (drop (4 * j) ws) d) at by

pub looked-up : LookedUp
unfolding looked_up combination
looked-up ws c room =
    let sixteenth : c / 16 / 16 ≡ c / 256 = omega arith in
    let next : c / 256 / 16 ≡ c / 4096 = omega arith in
    let rest : ℕ → ℕ → ℕ = λ k x. combination (drop k ws) x in
    let a = combination ws (c % 16) in
    let b = rest 4 (c / 16 % 16) in
    let d = rest 8 (c / 256 % 16) in
    let e = rest 12 (c / 4096 % 16) in
    let first : combination ws c ≡ a ⊕ rest 4 (c / 16) = split-bits 4 ws c in
    let second : rest 4 (c / 16) ≡ b ⊕ rest 8 (c / 256) =
    split-bits 4 (drop 4 ws) (c / 16)
    ∙ ap₂ (λ (l : List ℕ) (x : ℕ). b ⊕ combination l x) (drop-drop 4 4 ws) sixteenth in
    let third : rest 8 (c / 256) ≡ d ⊕ rest 12 (c / 4096) =
    split-bits 4 (drop 8 ws) (c / 256) ∙ ap₂ (λ (l : List ℕ) (x : ℕ). d ⊕ combination l x) (drop-drop 4 8 ws) next in
    let fourth : rest 12 (c / 4096) ≡ e =
    split-bits 4 (drop 12 ws) (c / 4096)
    ∙ ap (λ (l : List ℕ). e ⊕ combination l (c / 4096 / 16)) (drop-drop 4 12 ws ∙ drop_of_length-le ws room)
    ∙ xor_zero_r e in
    ap₂ ◌⊕◌
    (ap₂ ◌⊕◌ (ap₂ ◌⊕◌ (rw zero-add at (table_at ws 0 c (omega arith))) (table_at ws 1 (c / 16) (omega arith)))
    (table_at ws 2 (c / 256) (omega arith)))
    (table_at ws 3 (c / 4096) (omega arith))
    ∙ xor_assoc (a ⊕ b) d e ∙ xor_assoc a b (d ⊕ e)
    ∙ sym (first ∙ ap (λ (x : ℕ). a ⊕ x) (second ∙ ap (λ (x : ℕ). b ⊕ x)
    (third ∙ ap (λ (x : ℕ). d ⊕ x) fourth)))

-- ---- one word more

pub doubled-none : (at width row : ℕ) (ls : List ℕ) → Doubled at width 0 row ls ls
doubled-none at width row ls =
    record { size = refl; more = λ v l. absurd (omega arith); below = λ i l. refl; above = λ i l. refl }

pub doubled-more : (at width n row : ℕ) (ls ms : List ℕ) → Doubled at width n row ls ms → n < width
    → at + width + n < length ms
    → Doubled at width (n + 1) row ls (set ms (at + width + n) (get_or ms (at + n) 0 ⊕ row))
doubled-more at width n row ls ms d h fits =
    let new = get_or ms (at + n) 0 ⊕ row in
    let other : (i : ℕ) → (i ≡ at + width + n → ⊥) → get_or (set ms (at + width + n) new) i 0 ≡ get_or ms i 0 =
    λ i ne. get_or-set_other ms (at + width + n) i new 0 ne in
    record {
      size = length-set ms (at + width + n) new ∙ d.size;
      more = λ v l. go v (dec_le (suc v) n) l;
      below = λ i l. other i (λ e. omega arith) ∙ d.below i l;
      above = λ i l. other i (λ e. omega arith) ∙ d.above i (omega arith);
    }
  where
    go : (v : ℕ) → Dec (v < n) → v < n + 1
        → get_or (set ms (at + width + n) (get_or ms (at + n) 0 ⊕ row)) (at + width + v) 0 ≡ get_or ls (at + v) 0 ⊕ row
    go v (yes l) u =
        get_or-set_other ms (at + width + n) (at + width + v) (get_or ms (at + n) 0 ⊕ row) 0 (λ e. omega arith)
        ∙ d.more v l
    go v (no l) u =
        let e : n ≡ v = omega arith in
        subst (λ (k : ℕ). get_or (set ms (at + width + n) (get_or ms (at + n) 0 ⊕ row)) (at + width + k) 0
        ≡ get_or ls (at + k) 0 ⊕ row) e
        (get_or-set_same ms (at + width + n) (get_or ms (at + n) 0 ⊕ row) 0 fits
        ∙ ap (λ (x : ℕ). x ⊕ row) (d.below (at + n) (omega arith)))

-- ---- one table

module _ (ws : List ℕ) (g : ℕ) where
  -- the first 2^k entries of the table are made
  abbrev Filled : ℕ → List ℕ → Type 0
  Filled k ls = (v : ℕ) → v < 2 ^ k → get_or ls (16 * g + v) 0 ≡ combination (drop (4 * g) ws) v

  filled_none : (ls : List ℕ) → get_or ls (16 * g) 0 ≡ 0 → Filled 0 ls
  filled_none ls e v h =
      let none : v ≡ 0 = omega arith in
      ap (λ (i : ℕ). get_or ls i 0) (omega arith) ∙ e ∙ sym (combination-zero (drop (4 * g) ws))
      ∙ ap (combination (drop (4 * g) ws)) (sym none)

  filled_more : (k row : ℕ) (ls ms : List ℕ) → Filled k ls → Doubled (16 * g) (2 ^ k) (2 ^ k) row ls ms
      → row ≡ get_or ws (4 * g + k) 0 → Filled (suc k) ms
  filled_more k row ls ms f d e v h = go (dec_le (2 ^ k) v)
    where
      go : Dec (2 ^ k ≤ v) → get_or ms (16 * g + v) 0 ≡ combination (drop (4 * g) ws) v
      go (no l) = d.below (16 * g + v) (omega arith) ∙ f v (omega arith)
      go (yes l) =
          let u = v - 2 ^ k in
          let us = drop (4 * g) ws in
          let low : u < 2 ^ k = omega arith in
          let whole : v ≡ u ⊕ 2 ^ k =
          subst (λ (x : ℕ). x ≡ u ⊕ 2 ^ k) (omega arith) (pow-add-xor k u low ∙ xor_comm (2 ^ k) u) in
          ap (λ (i : ℕ). get_or ms i 0) (omega arith)
          ∙ d.more u low
          ∙ ap₂ ◌⊕◌ (f u low) (e ∙ sym (combination-pow us k ∙ get_or-drop (4 * g) ws k 0))
          ∙ sym (combination-xor us u (2 ^ k))
          ∙ ap (combination us) (sym whole)

  pub grouped : (ls ms₁ ms₂ ms₃ ms : List ℕ) (row₀ row₁ row₂ row₃ : ℕ) → Doubled (16 * g) 1 1 row₀ ls ms₁
      → Doubled (16 * g) 2 2 row₁ ms₁ ms₂ → Doubled (16 * g) 4 4 row₂ ms₂ ms₃ → Doubled (16 * g) 8 8 row₃ ms₃ ms
      → row₀ ≡ get_or ws (4 * g) 0 → row₁ ≡ get_or ws (4 * g + 1) 0 → row₂ ≡ get_or ws (4 * g + 2) 0
      → row₃ ≡ get_or ws (4 * g + 3) 0 → Grouped ws g ls ms
  grouped ls ms₁ ms₂ ms₃ ms row₀ row₁ row₂ row₃ d₀ d₁ d₂ d₃ e₀ e₁ e₂ e₃ = record {
    size = d₃.size ∙ d₂.size ∙ d₁.size ∙ d₀.size;
    made = λ e. filled_more 3 row₃ ms₃ ms (filled_more 2 row₂ ms₂ ms₃ (filled_more 1 row₁ ms₁ ms₂
        (filled_more 0 row₀ ls ms₁ (filled_none ls e) d₀ (e₀ ∙ ap (λ (i : ℕ). get_or ws i 0) (omega arith))) d₁ e₁) d₂ e₂)
        d₃ e₃;
    below = λ i l. d₃.below i (omega arith) ∙ d₂.below i (omega arith) ∙ d₁.below i (omega arith)
        ∙ d₀.below i (omega arith);
    above = λ i l. d₃.above i (omega arith) ∙ d₂.above i (omega arith) ∙ d₁.above i (omega arith)
        ∙ d₀.above i (omega arith);
  }

-- ---- table by table

get_or-zeros : (n i : ℕ) → ◌≡◌ {A = ℕ} (get_or (replicate n 0) i 0) 0
get_or-zeros zero i = refl
get_or-zeros (suc n) zero = refl
get_or-zeros (suc n) (suc i) = get_or-zeros n i

-- the first g tables are made, and the others are 0
pub record Made (ws : List ℕ) (g : ℕ) (ls : List ℕ) : Type 0 where
  pub size : length ls ≡ 64
  pub made : (i : ℕ) → i < 16 * g → get_or ls i 0 ≡ combination (drop (4 * (i / 16)) ws) (i % 16)
  pub rest : (i : ℕ) → 16 * g ≤ i → get_or ls i 0 ≡ 0

pub made_none : (ws : List ℕ) → Made ws 0 (replicate 64 0)
made_none ws = record { size = refl; made = λ i l. absurd (omega arith); rest = λ i l. get_or-zeros 64 i }

pub made_more : (ws : List ℕ) (g : ℕ) (ls ms : List ℕ) → Made ws g ls → Grouped ws g ls ms → Made ws (g + 1) ms
made_more ws g ls ms m d = record {
  size = d.size ∙ m.size;
  made = λ i l. go i l (dec_le (16 * g) i);
  rest = λ i l. d.above i (omega arith) ∙ m.rest i (omega arith);
}
  where
    go : (i : ℕ) → i < 16 * (g + 1) → Dec (16 * g ≤ i)
        → get_or ms i 0 ≡ combination (drop (4 * (i / 16)) ws) (i % 16)
    go i l (no h) = d.below i (omega arith) ∙ m.made i (omega arith)
    go i l (yes h) =
        let at : g ≡ i / 16 = omega arith in
        ap (λ (j : ℕ). get_or ms j 0) (omega arith)
        ∙ d.made (m.rest (16 * g) (omega arith)) (i % 16) (omega arith)
        ∙ ap (λ (j : ℕ). combination (drop (4 * j) ws) (i % 16)) at

pub made_all : (ws ls : List ℕ) → Made ws 4 ls → ls ≡ lookup_of ws
made_all ws ls m =
    ext_get_or 0 ls (lookup_of ws) (m.size ∙ sym (tables-length 4 ws))
    (λ i l. let n = m.size in m.made i (omega arith) ∙ sym (tables-at 4 ws i (omega arith)))
