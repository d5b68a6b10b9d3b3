-- A loop that stores the elements of a list in turn. Assumes nothing.
--
--   Storing s d out i   after i turns `out` has the first i elements of s, and then those of d, as they were
--   storing-first, storing-next, storing-all   at first, after a turn's store, and at the end
use Rattle.std.proofs.Common.{◌≡◌, ℕ, suc, ◌+◌, ◌<◌, ◌≤◌, List, [], ◌∷◌, ◌++◌, length, get_or, take, drop, set, sym}
use Rattle.std.proofs.Common.{refl, ap, ◌∙◌, append-nil, add-one, arith, length-set, drop_of_length-le, length-take-le}
use Rattle.std.proofs.Common.{take_all, drop-cons, take-suc}
use lib.Seq.{set_at, append_snoc}

abbrev stored : List ℕ → List ℕ → ℕ → List ℕ
stored s d i = take i s ++ drop i d

pub record Storing (s d out : List ℕ) (i : ℕ) : Type 0 where
  pub inside : i ≤ length d
  pub size : length out ≡ length d
  pub is : out ≡ stored s d i

pub storing-first : (s d : List ℕ) → Storing s d d 0
storing-first s d = record { inside = omega arith; size = refl; is = refl }

stored_next : (s d : List ℕ) (i v : ℕ) → i < length s → i < length d → v ≡ get_or s i 0
    → set (stored s d i) i v ≡ stored s d (i + 1)
stored_next s d i v hs hd e =
    ap (λ (l : List ℕ). set (take i s ++ l) i v) (drop-cons d i 0 hd)
    ∙ set_at (take i s) (get_or d i 0) (drop (suc i) d) v i (length-take-le i s (omega arith))
    ∙ sym (append_snoc (take i s) v (drop (suc i) d))
    ∙ ap (λ (x : ℕ). take i s ++ (x ∷ []) ++ drop (suc i) d) e
    ∙ ap (λ (l : List ℕ). l ++ drop (suc i) d) (sym (take-suc s i 0 hs))
    ∙ ap (stored s d) (sym (add-one i))

pub storing-next : (s d out : List ℕ) (i v : ℕ) → length s ≡ length d → i < length d → v ≡ get_or s i 0
    → Storing s d out i → Storing s d (set out i v) (i + 1)
storing-next s d out i v same h e k = record {
  inside = omega arith;
  size = length-set out i v ∙ k.size;
  is = ap (λ (l : List ℕ). set l i v) k.is ∙ stored_next s d i v (omega arith) h e;
}

pub storing-all : (s d out : List ℕ) (i : ℕ) → length s ≡ length d → length d ≤ i → Storing s d out i → out ≡ s
storing-all s d out i same h k =
    let inside = k.inside in
    let all : i ≡ length d = omega arith in
    k.is ∙ ap (stored s d) all
    ∙ ap (λ (l : List ℕ). take (length d) s ++ l) (drop_of_length-le d {i = length d} (omega arith))
    ∙ append-nil (take (length d) s) ∙ take_all (length d) s (omega arith)
