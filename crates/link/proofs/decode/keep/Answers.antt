-- `link::decode::keep`: the turn's part as it comes back; around it nothing changes but fill and turn. Assumes nothing.
use mathlib.Core.Path.{◌≡◌, sym, ap, ap₂, ◌∙◌}
use mathlib.Core.Bool.{cond}
use lib.Dec.{ltb}
use mathlib.Core.List.{List, [], ◌∷◌, ◌++◌}
use Prim.Native.Nat.{ℕ, ◌+◌, ◌-◌, ◌/◌, ◌≤◌}
use native.Mathlib.Nat.{add-zero}
use native.Mathlib.Omega.{arith}
use borrow.Author.Rules.{rules}
use borrow.Rule.Slice.PartMut.{mid_of, put_mid}
use lib.ListN.{length, get_or, set, take, drop, length-set}
use Rattle.tables.specs.Table.{table}
use Rattle.link.specs.Memory.{turn_of, stream_at, delayed_of, fill_of, fill_next, next_turn}
use Rattle.link.specs.Decoder.{advanced}
use Rattle.link.proofs.Parts.{mid-word, mid-drop, put-part}
use Rattle.link.specs.Fit.{table_of}
use Rattle.link.proofs.Malformed.{fine-decoder}
use Rattle.link.proofs.Room.{turn-room}
use Rattle.link.proofs.decode.keep.Goals as goal

-- the turn's part, in plain terms: its oldest delayed block, and the memory as the part comes back
module _ (N m : ℕ) (s : List ℕ) (room : stream_at (table 0 N m []) (turn_of s) + (N + 1) ≤ length s) (span_from : 2 ≤ N)
  where
    abbrev at : ℕ
    at = stream_at (table 0 N m []) (turn_of s)

    abbrev end : ℕ
    end = at + (N + 1)

    abbrev part : List ℕ
    part = mid_of at (end - at) s

    oldest-is : get_or part 2 0 ≡ delayed_of (table 0 N m []) s (turn_of s) 0
    oldest-is = mid-word s at end 2 (omega arith) ∙ ap (λ (i : ℕ). get_or s i 0) (sym (add-zero (at + 2)))

    memory_is : (pending kept young : ℕ) (last : List ℕ) → last ≡ pending ∷ kept ∷ (drop 3 part ++ (young ∷ []))
        → (fill turn : ℕ) → fill ≡ fill_next (table 0 N m []) (fill_of s) → turn ≡ next_turn m (turn_of s)
        → set (set (put_mid at (end - at) s last) 1 fill) 0 turn ≡ advanced N m s pending kept young
    memory_is pending kept young last e fill turn f u =
        ap (λ (l : List ℕ). set (set (put_mid at (end - at) s l) 1 fill) 0 turn)
        (e ∙ ap (λ (l : List ℕ). pending ∷ kept ∷ (l ++ (young ∷ []))) (mid-drop s at end 3 (omega arith) room))
        ∙ ap (λ (l : List ℕ). set (set l 1 fill) 0 turn) (put-part s (pending ∷ kept ∷
        (drop (at + 3) (take end s) ++ (young ∷ []))) at end (omega arith))
        ∙ ap₂ (λ (i j : ℕ). set (set (take at s ++ ((pending ∷ kept ∷ (drop (at + 3) (take end s) ++ (young ∷ [])))
        ++ drop end s)) 1 i) 0 j) f u

pub bounds-state-0-2 : goal.bounds-state-0-2
bounds-state-0-2 c = simp length-set (search rules)

pub returns : goal.returns
returns c =
    let a = c.args in
    let s = a.state.now in
    let t = table_of a.t.now in
    let d = c.advance-oldest in
    let inside = turn-room t (turn_of s) (fine-decoder t s c.requires.formed).turn in
    let size = c.requires.size in
    let room : stream_at t (turn_of s) + (t.span + 1) ≤ length s = omega arith in record {
      oldest = d.ensures.oldest ∙ oldest-is t.span t.depth s room (omega arith);
      memory = memory_is t.span t.depth s room (omega arith) (a.w / 2) a.kept a.youngest d.new.part
          d.ensures.part c.next_fill.result c.next_turn.result
          (c.next_fill.ensures ∙ ap (λ (k : ℕ). cond (ltb (fill_of s) k) (fill_of s + 1) (fill_of s)) c.delay.ensures)
          (c.next_turn.ensures.inside (fine-decoder t s c.requires.formed).turn);
    }
