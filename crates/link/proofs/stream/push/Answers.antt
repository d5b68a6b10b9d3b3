use mathlib.Core.Path.{◌≡◌, refl, sym, ap, ◌∙◌}
use mathlib.Core.List.{List, [], ◌∷◌, ◌++◌}
use Prim.Native.Nat.{ℕ, suc, ◌+◌, ◌-◌, ◌≤◌, ◌<◌}
use native.Mathlib.Decide.{dec_lt, ℕ_discrete}
use native.Mathlib.Omega.{arith}
use lib.ListN.{length, get_or, set, take, drop, length-append, length-drop, length-set, get_or-append}
use lib.Seq.{ext_get_or, length-take-le, get_or-take, get_or-drop, get_or-set_same, get_or-set_other, get_or-append-add}
use lib.Seq.{get_or_at}
use Rattle.link.proofs.Memory.{pushed_none, pushed-some}
use Rattle.link.proofs.stream.push.Invariants.{Moved}
use Rattle.link.proofs.stream.push.Goals as goal

moved_more : (f : ℕ) (old new : List ℕ) (i : ℕ) → suc i < length old → Moved f old new i
    → Moved f old (set new i (get_or new (i + 1) 0)) (i + 1)
moved_more f old new i h m = record {
  from = let z = m.from in omega arith;
  to = omega arith;
  size = length-set new i (get_or new (i + 1) 0) ∙ m.size;
  front = λ j l. let z = m.from in
      get_or-set_other new i j (get_or new (i + 1) 0) 0 (λ (e : j ≡ i). omega arith) ∙ m.front j l;
  moved = λ j l u. here j l u (ℕ_discrete j i);
  rest = λ j l. get_or-set_other new i j (get_or new (i + 1) 0) 0 (λ (e : j ≡ i). omega arith) ∙ m.rest j (omega arith);
}
  where
    here : (j : ℕ) → f ≤ j → j < i + 1 → Dec (j ≡ i) → get_or (set new i (get_or new (i + 1) 0)) j 0 ≡ get_or old (suc j) 0
    here j l u (yes e) =
        let z = m.size in
        ap (λ (k : ℕ). get_or (set new i (get_or new (i + 1) 0)) k 0) e
        ∙ get_or-set_same new i (get_or new (i + 1) 0) 0 (omega arith)
        ∙ m.rest (i + 1) (omega arith) ∙ ap (λ (k : ℕ). get_or old k 0) (let q : i + 1 ≡ suc j = omega arith in q)
    here j l u (no e) = get_or-set_other new i j (get_or new (i + 1) 0) 0 e ∙ m.moved j l (omega arith)

-- with the youngest at the end all have moved
moved_all : (f : ℕ) (old new : List ℕ) (i y : ℕ) → suc i ≡ length old → Moved f old new i
    → set new i y ≡ take f old ++ (drop (suc f) old ++ (y ∷ []))
moved_all f old new i y last m =
    ext_get_or 0 (set new i y) goal (length-set new i y ∙ m.size ∙ sym whole)
    (λ j l. at j (dec_lt j f) (ℕ_discrete j i) (l-of j l))
  where
    goal : List ℕ
    goal = take f old ++ (drop (suc f) old ++ (y ∷ []))

    two : length (take f old) ≡ f
    two = length-take-le f old (let z = m.from in omega arith)

    tail : length (drop (suc f) old) ≡ i - f
    tail = let z = m.from in let l = length-drop (suc f) old in omega arith

    whole : length goal ≡ length old
    whole =
        let z = m.from in
        let a = length-append (take f old) (drop (suc f) old ++ (y ∷ [])) in
        let b = length-append (drop (suc f) old) (y ∷ []) in
        let c = two in
        let d = tail in
        omega arith

    l-of : (j : ℕ) → j < length (set new i y) → j < suc i
    l-of j l = let a = length-set new i y in let b = m.size in omega arith

    past : (q : ℕ) → get_or goal (f + q) 0 ≡ get_or (drop (suc f) old ++ (y ∷ [])) q 0
    past q =
        ap (λ (k : ℕ). get_or goal (k + q) 0) (sym two) ∙ get_or-append-add (take f old) (drop (suc f) old ++ (y ∷ [])) q 0

    at : (j : ℕ) → Dec (j < f) → Dec (j ≡ i) → j < suc i → get_or (set new i y) j 0 ≡ get_or goal j 0
    at j (yes a) e l =
        let z = m.from in
        get_or-set_other new i j y 0 (λ (q : j ≡ i). omega arith) ∙ m.front j a
        ∙ sym (get_or-append (take f old) (drop (suc f) old ++ (y ∷ [])) 0 j (let t = two in omega arith)
        ∙ get_or-take f old j 0 a)
    at j (no a) (yes e) l =
        let z = m.size in
        let p : j ≡ f + (j - f) = omega arith in
        ap (λ (k : ℕ). get_or (set new i y) k 0) e ∙ get_or-set_same new i y 0 (omega arith)
        ∙ sym (ap (λ (k : ℕ). get_or goal k 0) p ∙ past (j - f)
        ∙ get_or_at (drop (suc f) old) y [] 0 (j - f) (let t = tail in omega arith))
    at j (no a) (no e) l =
        let p : j ≡ f + (j - f) = omega arith in
        let q : suc f + (j - f) ≡ suc j = omega arith in
        get_or-set_other new i j y 0 e ∙ m.moved j (omega arith) (omega arith)
        ∙ sym (ap (λ (k : ℕ). get_or goal k 0) p ∙ past (j - f)
        ∙ get_or-append (drop (suc f) old) (y ∷ []) 0 (j - f) (let t = tail in omega arith)
        ∙ get_or-drop (suc f) old (j - f) 0 ∙ ap (λ (k : ℕ). get_or old k 0) q)

pub returns-then-words-from : goal.returns-then-words-from
returns-then-words-from c =
    let a = c.args in
    sym (pushed_none a.from a.youngest a.words.now c.if-words-from.true)

pub loop-i-init : goal.loop-i-init
loop-i-init c = record {
  from = omega arith;
  to = omega arith;
  size = refl;
  front = λ j l. refl;
  moved = λ j l u. absurd (omega arith);
  rest = λ j l. refl;
}

pub loop-i-preserved : goal.loop-i-preserved
loop-i-preserved c =
    let l = c.loop-i in
    let a = c.args in
    moved_more a.from a.words.now l.words l.i (omega arith) l.invariant

pub shape_of-words : goal.shape_of-words
shape_of-words c =
    let l = c.loop-i in
    let a = c.args in
    length-set l.words (length a.words.now - 1) a.youngest ∙ l.invariant.size

pub returns : goal.returns
returns c =
    let l = c.loop-i in
    let a = c.args in
    let e : length a.words.now - 1 ≡ l.i = omega arith in
    ap (λ (k : ℕ). set l.words k a.youngest) e
    ∙ moved_all a.from a.words.now l.words l.i a.youngest (omega arith) l.invariant
    ∙ sym (pushed-some a.from a.youngest a.words.now (omega arith))
