-- `link::stream::push`: after i − f turns the words from f to i − 1 are those that stood one place later. Assumes
-- nothing.
use mathlib.Core.Path.{◌≡◌}
use mathlib.Core.List.{List}
use Prim.Native.Nat.{ℕ, suc, ◌≤◌, ◌<◌}
use lib.ListN.{length, get_or}
use Rattle.link.proofs.stream.push.Given as goal

-- the words as they were below f and from i on, and those between moved by one place
pub record Moved (f : ℕ) (old new : List ℕ) (i : ℕ) : Type 0 where
  pub from : f ≤ i
  pub to : suc i ≤ length old
  pub size : length new ≡ length old
  pub front : (j : ℕ) → j < f → get_or new j 0 ≡ get_or old j 0
  pub moved : (j : ℕ) → f ≤ j → j < i → get_or new j 0 ≡ get_or old (suc j) 0
  pub rest : (j : ℕ) → i ≤ j → get_or new j 0 ≡ get_or old j 0

abbrev pub invariant-loop-i : goal.invariant-loop-i
invariant-loop-i l = Moved l.from l.initial.words l.words l.i
