-- A start: what it answers and leaves. Assumes nothing.
use mathlib.Core.Path.{◌≡◌, refl, sym, ap, ◌∙◌}
use mathlib.Core.Bool.{Bool, true, false, cond, not}
use mathlib.Core.Logic.{◌≢◌}
use mathlib.Core.List.{List, []}
use Prim.Native.Nat.{ℕ, ◌<◌}
use native.Mathlib.Omega.{arith}
use borrow.Author.Tests.{eq-eqb, ne_eqb}
use lib.Dec.{eqb}
use lib.ListN.{length}
use Rattle.tables.specs.declared.table.Table.{Table}
use Rattle.tables.specs.Table.{fit}
use Rattle.std.specs.Prelude.{⊤, Ok}
use Rattle.link.specs.Memory.{started}
use Rattle.link.specs.Refusals.{Answer, start_fault, answered, leaves, refused}
use Rattle.link.specs.Start.{start_answer, start_memory, start_numbers, length_fault, StartsWords, Starts, StartedLaw}
use Rattle.tables.proofs.Refusal.{first-nil, first-cons}
use Rattle.link.proofs.Refusals.{start-fault, start-range, numbered, refuses, takes, call-numbers}

pub start-memory : (t : Table) (words : ℕ) (s : List ℕ)
    → start_memory t words s ≡ leaves (start_fault t words s) (started words) s
unfolding start_memory
start-memory t words s = refl

pub start-refuses : (t : Table) (words : ℕ) (s : List ℕ) (k : ℕ) → start_fault t words s ≡ k → 0 < k
    → (refused k ≡ start_answer t words s) × (s ≡ start_memory t words s)
unfolding start_answer start_memory
start-refuses t words s = refuses refused (start_fault t words s) (Ok tt) (started words) s

pub starts : (t : Table) (words : ℕ) (s : List ℕ) → start_fault t words s ≡ 0
    → ((Ok tt) ≡ start_answer t words s) × (started words ≡ start_memory t words s)
unfolding start_answer start_memory
starts t words s = takes refused (start_fault t words s) (Ok tt) (started words) s

starts-so : (t : Table) (words : ℕ) (s : List ℕ) (r : Answer ⊤) (after : List ℕ)
    → r ≡ start_answer t words s → after ≡ start_memory t words s → Starts t words s r after
unfolding start_answer
starts-so t words s r after p q = record {
  answer = p;
  memory = q;
  numbers = ap start_numbers p ∙ call-numbers start_numbers (start_fault t words s) (Ok tt) refused [] refl
      (λ some. let l = start-range t words s some in numbered _ (l.0, omega (arith, l.1)));
}

-- what a start promises, of one that is refused
pub refused-so : (t : Table) (words : ℕ) (s : List ℕ) (k : ℕ) → start_fault t words s ≡ k → 0 < k
    → Starts t words s (refused k) s
refused-so t words s k e some =
    let r = start-refuses t words s k e some in
    starts-so t words s (refused k) s r.0 r.1

pub unfit-so : (t : Table) (words : ℕ) (s : List ℕ) → fit t ≡ false → Starts t words s (refused 12) s
unfit-so t words s f = refused-so t words s 12 (start-fault t words s ∙ simp f) (omega arith)

-- ---- a memory that is to have so many words

pub length-fault : (words : ℕ) (s : List ℕ) → length_fault words s ≡ cond (not (eqb (length s) words)) 13 0
unfolding length_fault
length-fault words s =
    let long = not (eqb (length s) words) in
    first-cons 13 long [] ∙ ap (cond long 13) (first-nil 14)

pub length-range : (words : ℕ) (s : List ℕ) → (length_fault words s ≡ 0 → ⊥) → length_fault words s ≡ 13
length-range words s some = go (eqb (length s) words) refl
  where
    go : (b : Bool) → eqb (length s) words ≡ b → length_fault words s ≡ 13
    go true e = absurd (some (length-fault words s ∙ simp e))
    go false e = length-fault words s ∙ simp e

-- answer and memory are all that is promised: the numbers follow
words-so : (words : ℕ) (s : List ℕ) (r : Answer ⊤) (after : List ℕ)
    → r ≡ answered (length_fault words s) (Ok tt) refused → after ≡ leaves (length_fault words s) (started words) s
    → StartsWords words s r after
words-so words s r after p q = record {
  answer = p;
  memory = q;
  numbers = ap start_numbers p ∙ call-numbers start_numbers (length_fault words s) (Ok tt) refused [] refl
      (λ some. let l = length-range words s some in numbered _ (omega (arith, l), omega (arith, l)));
}

pub refused-words : (words : ℕ) (s : List ℕ) → length s ≢ words → StartsWords words s (refused 13) s
refused-words words s ne =
    let e : length_fault words s ≡ 13 = length-fault words s ∙ simp (ne_eqb (length s) words ne) in
    let r = refuses refused (length_fault words s) (Ok tt) (started words) s 13 e (omega arith) in
    words-so words s (refused 13) s r.0 r.1

pub started-words : (words : ℕ) (s after : List ℕ) → length s ≡ words → after ≡ started words
    → StartsWords words s (Ok tt) after
started-words words s after size zeros =
    let e : length_fault words s ≡ 0 = length-fault words s ∙ simp (eq-eqb (length s) words size) in
    let r = takes refused (length_fault words s) (Ok tt) (started words) s e in
    words-so words s (Ok tt) after r.0 (zeros ∙ r.1)

-- with a fit table 13 is all that is left to be refused
pub starts_fit : (t : Table) (words : ℕ) (s : List ℕ) (r : Answer ⊤) (after : List ℕ) → fit t ≡ true
    → StartsWords words s r after → Starts t words s r after
unfolding start_answer start_memory
starts_fit t words s r after f h =
    let e : length_fault words s ≡ start_fault t words s =
    length-fault words s ∙ sym (start-fault t words s ∙ simp f) in
    starts-so t words s r after (h.answer ∙ ap (λ (k : ℕ). answered k (Ok tt) refused) e)
    (h.memory ∙ ap (λ (k : ℕ). leaves k (started words) s) e)

pub started-whole : StartedLaw
started-whole t words s f size =
    let e = starts t words s (start-fault t words s ∙ simp (f, eq-eqb (length s) words size)) in
    (sym e.0, sym e.1)
