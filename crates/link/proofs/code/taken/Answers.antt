-- `link::code::taken`: the turn's part is its pending word; around it nothing changes but the turn. Assumes nothing.
use mathlib.Core.Path.{◌≡◌, ap, ap₂, ◌∙◌}
use mathlib.Core.List.{List}
use Prim.Native.Nat.{ℕ, ◌+◌, ◌-◌, ◌/◌, ◌<◌}
use native.Mathlib.Nat.{add-zero}
use native.Mathlib.Omega.{arith}
use borrow.Rule.Slice.PartMut.{mid_of, put_mid}
use lib.ListN.{length, get_or, set}
use Rattle.span.specs.Word.{◌⊕◌, odd, sel}
use Rattle.link.specs.Memory.{turn_of, pending_at}
use Rattle.link.proofs.Parts.{mid-word, put_word}
use Rattle.link.proofs.Coder.{sel-most}
use Rattle.link.proofs.code.taken.Goals as goal

-- the turn's part, in plain terms: its word is the pending word, and the memory as the part comes back
module _ (s : List ℕ) (image : ℕ) where
  abbrev at : ℕ
  at = 1 + turn_of s

  abbrev part : List ℕ
  part = mid_of at (at + 1 - at) s

  joined : get_or part 0 0 ⊕ image ≡ pending_at s (turn_of s) ⊕ image
  joined =
      ap (λ (p : ℕ). p ⊕ image) (mid-word s at (at + 1) 0 (omega arith) ∙ ap (λ (i : ℕ). get_or s i 0) (add-zero at))

  memory_is : at < length s → (last : List ℕ) → last ≡ set part 0 ((get_or part 0 0 ⊕ image) / 2)
      → put_mid at (at + 1 - at) s last ≡ set s at ((pending_at s (turn_of s) ⊕ image) / 2)
  memory_is h last e =
      put_word s last at ((pending_at s (turn_of s) ⊕ image) / 2) h (e ∙ ap (λ (w : ℕ). set part 0 (w / 2)) joined)

word : (c : goal.After-select)
    → let a = c.args in
    c.select.result ≡ sel (odd (pending_at a.state.now (turn_of a.state.now) ⊕ a.image)) a.weight
word c =
    let a = c.args in
    c.select.ensures
    ∙ ap (λ (w : ℕ). sel (odd w) a.weight)
    (c.join-w.ensures.word ∙ joined a.state.now a.image)

pub overflow_add-result : goal.overflow_add-result
overflow_add-result c =
    let l = sel-most (odd (pending_at c.args.state.now (turn_of c.args.state.now) ⊕ c.args.image))
    c.args.weight in
    let e = word c in
    record { fits = omega arith }

pub returns : goal.returns
returns c =
    let a = c.args in
    let j = c.join-w in record {
      block = ap (λ (x : ℕ). a.info + x) (word c);
      memory = ap₂ (λ (x : List ℕ) (y : ℕ). set x 0 y)
          (memory_is a.state.now a.image (omega arith) j.new.part j.ensures.part)
          (c.next_turn.ensures.inside c.requires.1);
    }
