-- The word that joins, and words that move by one place. Assumes nothing.
--
--   joining-is                 pending word and image
--   pushed_none, pushed-some   where no word stands from there on, and where one does
use mathlib.Core.Path.{◌≡◌, refl}
use mathlib.Core.List.{List, [], ◌∷◌, ◌++◌}
use Prim.Native.Nat.{ℕ, suc, ◌≤◌, ◌<◌}
use borrow.Author.Tests.{lt-ltb, le-ltb}
use lib.ListN.{length, take, drop}
use Rattle.span.specs.Word.{◌⊕◌}
use Rattle.span.specs.Combination.{combination}
use Rattle.link.specs.Memory.{joining, pushed}

pub joining-is : (infos : List ℕ) (pending info : ℕ) → joining infos pending info ≡ pending ⊕ combination infos info
unfolding joining
joining-is infos pending info = refl

pub pushed_none : (from y : ℕ) (s : List ℕ) → length s ≤ from → pushed from y s ≡ s
unfolding pushed
pushed_none from y s h = rw (le-ltb from (length s) h)

pub pushed-some : (from y : ℕ) (s : List ℕ) → from < length s
    → pushed from y s ≡ take from s ++ (drop (suc from) s ++ (y ∷ []))
unfolding pushed
pushed-some from y s h = rw (lt-ltb from (length s) h)
