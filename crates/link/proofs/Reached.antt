-- A loop over the blocks of a batch: from one block to the next, and to its end. Assumes nothing.
--
--   reached_start   before the first block
--   reached_next    one more block is taken
--   reached_refused, reached_all   the batch is done: the next block is refused, and no block or no room is left
--   batch_idle, fills_idle   a batch whose every call would be refused
--   fills-part      the filled part by itself
--   reached_rest    the blocks that are left, as a batch by themselves
use mathlib.Core.Path.{◌≡◌, refl, sym, ap, ap₂, subst, ◌∙◌}
use mathlib.Core.List.{List, [], ◌∷◌, ◌++◌, append_assoc, append-nil}
use Prim.Native.Nat.{ℕ, suc, ◌+◌, ◌-◌, ◌≤◌, ◌<◌, min}
use native.Mathlib.Decide.{dec_lt}
use native.Mathlib.Omega.{arith}
use borrow.Rule.Slice.PartMut.{mid_of, put_mid}
use lib.ListN.{length, get_or, set, take, drop, length-set, length-append, length-drop, take-append-drop}
use lib.ListN.{drop_of_length-le}
use lib.Seq.{drop-cons, drop-drop, append_snoc, take-suc-set, drop-set-lt, length-take-le}
use lib.Seq.{take-append_seam}
use Rattle.link.specs.Batch.{Batch, ended, batch, followed, Fills, FillsPart, Reached}
use Rattle.link.proofs.Parts.{mid-rest, put_rest}
use Rattle.link.proofs.Batch.{batch_none, batch_full, batch_refused, batch_taken}

module _ (entries memory : List ℕ → ℕ → List ℕ) where
  abbrev rest : ℕ → List ℕ → List ℕ → Batch
  rest = batch entries memory

  pub batch_idle : (s : List ℕ) → ((b : ℕ) → entries s b ≡ []) → (room : ℕ) (bs : List ℕ) → rest room s bs ≡ ended s
  batch_idle s idle room [] = batch_none entries memory room s
  batch_idle s idle room (b ∷ bs) = batch_refused entries memory room s b bs (idle b)

  pub fills_idle : (s bs out : List ℕ) → ((b : ℕ) → entries s b ≡ []) → Fills (rest (length out) s bs) out 0 s out
  fills_idle s bs out idle =
      let e = batch_idle s idle (length out) bs in
      let es = ap (λ (b : Batch). b.entries) e in
      record {
        count = sym (ap length es);
        memory = sym (ap (λ (b : Batch). b.memory) e);
        output = sym (ap (λ (l : List ℕ). l ++ drop (length l) out) es);
      }

  module _ (before bs out : List ℕ) where
    pub reached_start : Reached rest before bs out 0 before out
    reached_start = record {
      left = omega arith;
      room = omega arith;
      size = refl;
      comes = ap (λ (k : ℕ). rest k before bs) (let e : length out ≡ length out - 0 = omega arith in e);
      past = refl;
    }

    module _ (i : ℕ) (s out' : List ℕ) (r : Reached rest before bs out i s out') where
      longer : (es : List ℕ) (e : ℕ) (b : Batch)
          → followed es (record { entries = e ∷ b.entries; memory = b.memory }) ≡ followed (es ++ (e ∷ [])) b
      longer es e b =
          ap (λ (l : List ℕ). record { entries = l; memory = b.memory }) (sym (append_snoc es e b.entries))

      module _ (left : i < length bs) (room : i < length out) (e : ℕ) (one : entries s (get_or bs i 0) ≡ e ∷ []) where
        abbrev on : Batch
        on = rest (length out - suc i) (memory s (get_or bs i 0)) (drop (suc i) bs)

        one_more : rest (length out - i) s (drop i bs) ≡ record { entries = e ∷ on.entries; memory = on.memory }
        one_more =
            ap₂ (λ (k : ℕ) (l : List ℕ). rest k s l)
            (let z : length out - i ≡ suc (length out - suc i) = omega arith in z) (drop-cons bs i 0 left)
            ∙ batch_taken entries memory (length out - suc i) s (get_or bs i 0) (drop (suc i) bs) e one

        next : Reached rest before bs out (suc i) (memory s (get_or bs i 0)) (set out' i e)
        next = record {
          left = omega arith;
          room = omega arith;
          size = length-set out' i e ∙ r.size;
          comes = r.comes ∙ ap (followed (take i out')) one_more ∙ longer (take i out') e on
              ∙ ap (λ (l : List ℕ). followed l on)
              (sym (take-suc-set out' i e (let z = r.size in omega arith)));
          past = drop-set-lt (suc i) out' i e (omega arith) ∙ onward out' ∙ ap (drop 1) r.past ∙ sym (onward out);
        }
          where
            onward : (l : List ℕ) → drop (suc i) l ≡ drop 1 (drop i l)
            onward l = sym (drop-drop 1 i l ∙ ap (λ (k : ℕ). drop k l) (let z : i + 1 ≡ suc i = omega arith in z))

        pub reached_next : Reached rest before bs out (i + 1) (memory s (get_or bs i 0)) (set out' i e)
        reached_next =
            subst (λ (k : ℕ). Reached rest before bs out k (memory s (get_or bs i 0)) (set out' i e))
            (let z : suc i ≡ i + 1 = omega arith in z) next

      done : rest (length out - i) s (drop i bs) ≡ ended s → Fills (rest (length out) before bs) out i s out'
      done e =
          let whole = r.comes ∙ ap (followed (take i out')) e in
          let filled : (rest (length out) before bs).entries ≡ take i out' =
          ap (λ (b : Batch). b.entries) whole ∙ append-nil (take i out') in
          let count : length (rest (length out) before bs).entries ≡ i =
          ap length filled ∙ length-take-le i out' (let z = r.size in let w = r.room in omega arith) in
          record {
            count = sym count;
            memory = sym (ap (λ (b : Batch). b.memory) whole);
            output = sym (ap₂ (λ (es : List ℕ) (k : ℕ). es ++ drop k out) filled count
                ∙ ap (λ (l : List ℕ). take i out' ++ l) (sym r.past) ∙ take-append-drop i out');
          }

      pub reached_refused : i < length bs → entries s (get_or bs i 0) ≡ [] → Fills (rest (length out) before bs) out i s
          out'
      reached_refused left none =
          done (ap (rest (length out - i) s) (drop-cons bs i 0 left)
          ∙ batch_refused entries memory (length out - i) s (get_or bs i 0) (drop (suc i) bs) none)

      pub reached_all : min (length bs) (length out) ≤ i → Fills (rest (length out) before bs) out i s out'
      reached_all h = go (dec_lt i (length bs))
        where
          go : Dec (i < length bs) → Fills (rest (length out) before bs) out i s out'
          go (no all) =
              done (ap (rest (length out - i) s) (drop_of_length-le bs {i = i} (omega arith))
              ∙ batch_none entries memory (length out - i) s)
          go (yes left) =
              done (ap (λ (k : ℕ). rest k s (drop i bs)) (let z : length out - i ≡ 0 = omega arith in z)
              ∙ batch_full entries memory s (drop i bs))

-- what is filled is the first of the output, as many entries as were counted
pub fills-part : (b : Batch) (out : List ℕ) (count : ℕ) (after out' : List ℕ) → Fills b out count after out'
    → (count ≡ length (take count out')) × FillsPart b (take count out') after
fills-part b out count after out' f =
    let part : take count out' ≡ b.entries =
    ap₂ take f.count f.output ∙ take-append_seam b.entries (drop (length b.entries) out) in
    (f.count ∙ sym (ap length part), record { entries = part; memory = f.memory })

-- the blocks that are left, on the output that is left, are a batch by themselves
module _ (rest : ℕ → List ℕ → List ℕ → Batch) (before bs out : List ℕ) (i : ℕ) (s out' : List ℕ)
    (r : Reached rest before bs out i s out') where
  joined : (k : ℕ) (after part : List ℕ) → Fills (rest (length (drop i out')) s (drop i bs)) (drop i out') k after part
      → Fills (rest (length out) before bs) out (i + k) after (take i out' ++ part)
  joined k after part f =
      let room : length (drop i out') ≡ length out - i =
      length-drop i out' ∙ ap (λ (n : ℕ). n - i) r.size in
      let B = rest (length (drop i out')) s (drop i bs) in
      let whole : rest (length out) before bs ≡ followed (take i out') B =
      r.comes ∙ ap (λ (n : ℕ). followed (take i out') (rest n s (drop i bs))) (sym room) in
      let here : length (take i out') ≡ i =
      length-take-le i out' (let z = r.size in let y = r.room in omega arith) in
      let long : length (followed (take i out') B).entries ≡ i + length B.entries =
      length-append (take i out') B.entries ∙ ap (λ (n : ℕ). n + length B.entries) here in
      subst (λ (b : Batch). Fills b out (i + k) after (take i out' ++ part)) (sym whole) (record {
        count = ap (λ (n : ℕ). i + n) f.count ∙ sym long;
        memory = f.memory;
        output = ap (λ (l : List ℕ). take i out' ++ l) f.output
            ∙ sym (append_assoc (take i out') B.entries (drop (length B.entries) (drop i out')))
            ∙ ap (λ (l : List ℕ). (take i out' ++ B.entries) ++ l)
            (ap (drop (length B.entries)) r.past ∙ drop-drop (length B.entries) i out
            ∙ ap (λ (n : ℕ). drop n out) (sym long));
      })

  -- with both parts as they are lent on
  pub reached_rest : (k : ℕ) (after part : List ℕ)
      → Fills (rest (length (mid_of i (length out' - i) out')) s (mid_of i (length bs - i) bs))
      (mid_of i (length out' - i) out') k after part
      → Fills (rest (length out) before bs) out (i + k) after (put_mid i (length out' - i) out' part)
  reached_rest k after part f =
      let z = r.size in
      let y = r.room in
      subst (Fills (rest (length out) before bs) out (i + k) after) (sym (put_rest out' part i (omega arith)))
      (joined k after part
      (subst (λ (l : List ℕ). Fills (rest (length l) s (drop i bs)) l k after part) (mid-rest out' i)
      (subst (λ (l : List ℕ). Fills (rest (length (mid_of i (length out' - i) out')) s l)
      (mid_of i (length out' - i) out') k after part) (mid-rest bs i) f)))
