use mathlib.Core.Path.{◌≡◌, refl, sym, ap, ◌∙◌, subst}
use mathlib.Core.Logic.{◌≢◌}
use mathlib.Core.List.{List, ◌++◌, map}
use Prim.Native.Nat.{ℕ, ◌+◌, ◌-◌, ◌≤◌, ◌<◌, min}
use native.Mathlib.Decide.{dec_lt, ℕ_discrete}
use native.Mathlib.Omega.{arith}
use lib.ListN.{length, get_or, set, take, length-append, length-map, length-set, get_or-append, get_or-map}
use lib.Seq.{ext_get_or, get_or-take, get_or-append-add, get_or-set_same, get_or-set_other, length-take-le}
use Rattle.span.specs.Word.{shifted}
use Rattle.span.proofs.Word.{shifted-zero}
use Rattle.tables.proofs.judge.clash_words.Goals as goal
use Rattle.tables.proofs.judge.clash_words.Invariants.{Filled}

-- one more row, stored twice
filled_more : (n N l : ℕ) (rows : List ℕ) (i : ℕ) (words : List ℕ) (s r : ℕ) → i < n → n + i < length words
    → s ≡ shifted N l r → r ≡ get_or rows i 0
    → Filled n N l rows i words → Filled n N l rows (i + 1) (set (set words i s) (n + i) r)
filled_more n N l rows i words s r h room es er f k below = go (ℕ_discrete k i)
  where
    go : Dec (k ≡ i) → (get_or (set (set words i s) (n + i) r) k 0 ≡ shifted N l (get_or rows k 0))
        × (get_or (set (set words i s) (n + i) r) (n + k) 0 ≡ get_or rows k 0)
    go (yes e) =
        let other : k ≢ n + i = omega arith in
        let same : n + k ≡ n + i = omega arith in
        let here : k < length words = omega arith in
        let there : n + i < length (set words i s) = simp length-set room in (
          get_or-set_other (set words i s) (n + i) k r 0 other ∙ ap (λ (j : ℕ). get_or (set words i s) j 0) e
              ∙ get_or-set_same words i s 0 (omega arith) ∙ es
              ∙ ap (shifted N l) (er ∙ ap (λ (j : ℕ). get_or rows j 0) (sym e)),
          ap (λ (j : ℕ). get_or (set (set words i s) (n + i) r) j 0) same
              ∙ get_or-set_same (set words i s) (n + i) r 0 there
              ∙ er ∙ ap (λ (j : ℕ). get_or rows j 0) (sym e),
        )
    go (no e) =
        let old = f k (omega arith) in
        let a : k ≢ n + i = omega arith in
        let b : k ≢ i = omega arith in
        let d : n + k ≢ n + i = omega arith in
        let g : n + k ≢ i = omega arith in (
          get_or-set_other (set words i s) (n + i) k r 0 a ∙ get_or-set_other words i k s 0 b ∙ old.0,
          get_or-set_other (set words i s) (n + i) (n + k) r 0 d ∙ get_or-set_other words i (n + k) s 0 g ∙ old.1,
        )

-- a list whose first n elements are those of one list and the next n those of another begins with the two
halves : (n : ℕ) (ws us vs : List ℕ) → length us ≡ n → length vs ≡ n → n + n ≤ length ws
    → ((k : ℕ) → k < n → (get_or ws k 0 ≡ get_or us k 0) × (get_or ws (n + k) 0 ≡ get_or vs k 0)) → take (n + n) ws ≡ us ++ vs
halves n ws us vs hu hv room f =
    ext_get_or 0 (take (n + n) ws) (us ++ vs) (whole ∙ sym (length-append us vs ∙ sums))
    (λ i l. get_or-take (n + n) ws i 0 (subst (λ (m : ℕ). i < m) whole l)
    ∙ at i (subst (λ (m : ℕ). i < m) whole l) (dec_lt i n))
  where
    whole : length (take (n + n) ws) ≡ n + n
    whole = length-take-le (n + n) ws room

    sums : length us + length vs ≡ n + n
    sums = omega arith

    at : (i : ℕ) → i < n + n → Dec (i < n) → get_or ws i 0 ≡ get_or (us ++ vs) i 0
    at i l (yes h) = (f i h).0 ∙ sym (get_or-append us vs 0 i (subst (λ (m : ℕ). i < m) (sym hu) h))
    at i l (no h) =
        let k : n + (i - n) ≡ i = omega arith in
        let k' : length us + (i - n) ≡ i = omega arith in
        ap (λ (j : ℕ). get_or ws j 0) (sym k) ∙ (f (i - n) (omega arith)).1
        ∙ sym (ap (λ (j : ℕ). get_or (us ++ vs) j 0) (sym k') ∙ get_or-append-add us vs (i - n) 0)

map_at : (N l : ℕ) (rows : List ℕ) (k : ℕ) → get_or (map (shifted N l) rows) k 0 ≡ shifted N l (get_or rows k 0)
map_at N l rows k =
    ap (get_or (map (shifted N l) rows) k) (sym (shifted-zero N l)) ∙ get_or-map (shifted N l) rows k 0

pub loop-i-preserved : goal.loop-i-preserved
loop-i-preserved c =
    let a = c.args in
    let i = c.loop-i.i in
    let row = get_or a.rows.now i 0 in
    let span : min a.span 64 ≡ a.span = omega arith in (
      simp length-set c.loop-i.invariant.0,
      filled_more (length a.rows.now) a.span a.l a.rows.now i c.loop-i.words c.shift.result row
          (omega arith) (omega arith) (c.shift.ensures ∙ ap (λ (N : ℕ). shifted N a.l row) span) refl
          c.loop-i.invariant.1,
    )

pub returns : goal.returns
returns c =
    let a = c.args in
    let R = a.rows.now in
    let n = length R in
    halves n c.loop-i.words (map (shifted a.span a.l) R) R
    (length-map R (shifted a.span a.l)) refl (omega arith)
    (λ k h. let f = c.loop-i.invariant.1 k (omega arith) in (f.0 ∙ sym (map_at a.span a.l R k), f.1))
