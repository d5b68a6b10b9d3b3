-- A part of the memory that is lent on and comes back: what it holds, and the memory with it. Assumes nothing.
--
--   mid-word   a word of a part is one of the memory
--   put_word   a part of one word that comes back with another
--   put-part   the memory with a part that comes back
--   mid-drop   a part without its first words
--   mid-rest, put_rest   a part from a place to the end
use mathlib.Core.Path.{◌≡◌, sym, ap, ◌∙◌}
use mathlib.Core.List.{List, ◌++◌, append-nil}
use Prim.Native.Nat.{ℕ, ◌+◌, ◌-◌, ◌≤◌, ◌<◌}
use native.Mathlib.Nat.{add-zero}
use native.Mathlib.Omega.{arith}
use borrow.Rule.Slice.PartMut.{mid_of, put_mid, set_mid_at, mid_len, Post-is}
use lib.ListN.{length, get_or, set, take, drop, length-drop}
use lib.Seq.{get_or-take, get_or-drop, take-add, take_all, drop_at, drop-drop, drop-length, length-take-le}

pub mid-word : (s : List ℕ) (a e j : ℕ) → a + j < e → get_or (mid_of a (e - a) s) j 0 ≡ get_or s (a + j) 0
mid-word s a e j h = get_or-take (e - a) (drop a s) j 0 (omega arith) ∙ get_or-drop a s j 0

pub put_word : (s part : List ℕ) (a v : ℕ) → a < length s → part ≡ set (mid_of a (a + 1 - a) s) 0 v
    → put_mid a (a + 1 - a) s part ≡ set s a v
put_word s part a v h e =
    ap (put_mid a (a + 1 - a) s) e
    ∙ set_mid_at a (a + 1 - a) 0 s v (let l = mid_len a (a + 1) s (omega arith) in omega arith)
    ∙ ap (λ (i : ℕ). set s i v) (add-zero a)

-- the part as a take of a drop, and the memory around it as the definitions have it
pub put-part : (s part : List ℕ) (a e : ℕ) → a ≤ e → put_mid a (e - a) s part ≡ take a s ++ (part ++ drop e s)
put-part s part a e h = ap (λ (l : List ℕ). take a s ++ (part ++ l)) (Post-is a e s h)

pub mid-drop : (s : List ℕ) (a e j : ℕ) → a ≤ e → e ≤ length s → drop j (mid_of a (e - a) s) ≡ drop (a + j) (take e s)
mid-drop s a e j h room =
    let whole : take e s ≡ take a s ++ mid_of a (e - a) s =
    ap (λ (k : ℕ). take k s) (let q : e ≡ a + (e - a) = omega arith in q) ∙ take-add a (e - a) s in
    ap (drop j) (sym (drop_at (take a s) (mid_of a (e - a) s) a (length-take-le a s (omega arith)))
    ∙ ap (drop a) (sym whole)) ∙ drop-drop j a (take e s)

-- a part from a place to the end
pub mid-rest : (s : List ℕ) (a : ℕ) → mid_of a (length s - a) s ≡ drop a s
mid-rest s a = take_all (length s - a) (drop a s) (let l = length-drop a s in omega arith)

pub put_rest : (s part : List ℕ) (a : ℕ) → a ≤ length s → put_mid a (length s - a) s part ≡ take a s ++ part
put_rest s part a h =
    put-part s part a (length s) h
    ∙ ap (λ (l : List ℕ). take a s ++ (part ++ l)) (drop-length s) ∙ ap (λ (l : List ℕ). take a s ++ l)
    (append-nil part)
