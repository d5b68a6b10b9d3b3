-- Writing one thing after another. Assumes nothing.
use mathlib.Core.Path.{◌≡◌, refl, sym, ap, ◌∙◌}
use mathlib.Core.Bool.{true, false}
use mathlib.Core.List.{List, [], ◌∷◌, ◌++◌, append_assoc}
use Prim.Native.Nat.{ℕ, ◌+◌, ◌-◌, ◌≤◌, ◌<◌}
use native.Mathlib.Omega.{arith}
use native.Mathlib.Numerals.{add-one}
use native.Mathlib.Nat.{add-zero, add_assoc}
use borrow.Author.Tests.{leb-true}
use borrow.Rule.Slice.PartMut.{put_mid, Post-is}
use lib.ListN.{length, take, drop, set, length-append, length-drop, take-append-drop}
use lib.Seq.{set_split, length-take-le, take_at, drop_at, drop-drop}
use Rattle.link.specs.declared.decode.Mark.{Mark}
use Rattle.link.specs.declared.decode.Mark.TheVariants.{Clean, Held, Corrected, Doubtful, Parity}
use Rattle.link.specs.declared.decode.Delivered.{Delivered}
use Rattle.link.specs.Decoder.{mark_error}
use Rattle.report.specs.Text.{mark_word}
use Rattle.report.specs.Text.{decimal_of, space, newline, line_of}
use Rattle.report.specs.declared.text.Lines.{Lines}
use Rattle.report.specs.Writing.{written, Wrote, longest, room, put, put_end, Pushes, Puts}

-- nothing is written
pub wrote_nothing : (out : List ℕ) (at : ℕ) → Wrote out at [] out at
unfolding written
wrote_nothing out at =
    record {
      bytes = sym (ap (λ (k : ℕ). take at out ++ drop k out) (add-zero at) ∙ take-append-drop at out);
      position = omega arith;
    }

-- one byte is stored
pub wrote-byte : (out : List ℕ) (at b : ℕ) → at < length out → Wrote out at (b ∷ []) (set out at b) (at + 1)
unfolding written
wrote-byte out at b h = record {
  bytes = set_split out at b h ∙ ap (λ (k : ℕ). take at out ++ (b ∷ drop k out)) (sym (add-one at));
  position = refl;
}

-- some bytes are stored
pub wrote-part : (out bs : List ℕ) (at : ℕ) → Wrote out at bs (put_mid at (at + length bs - at) out bs) (at + length bs)
unfolding written
wrote-part out bs at = record {
  bytes = ap (λ (l : List ℕ). take at out ++ (bs ++ l)) (Post-is at (at + length bs) out (omega arith));
  position = refl;
}

-- the bytes before the end of what was written, and those from there on
before-end : (out : List ℕ) (at : ℕ) (a : List ℕ) → at + length a ≤ length out
    → take (at + length a) (written out at a) ≡ take at out ++ a
unfolding written
before-end out at a h =
    ap (take (at + length a)) (sym (append_assoc (take at out) a (drop (at + length a) out)))
    ∙ take_at (take at out ++ a) (drop (at + length a) out) (at + length a)
    (length-append (take at out) a ∙ ap (λ (k : ℕ). k + length a) (length-take-le at out (omega arith)))

from_end : (out : List ℕ) (at : ℕ) (a : List ℕ) → at + length a ≤ length out
    → drop (at + length a) (written out at a) ≡ drop (at + length a) out
unfolding written
from_end out at a h =
    ap (drop (at + length a)) (sym (append_assoc (take at out) a (drop (at + length a) out)))
    ∙ drop_at (take at out ++ a) (drop (at + length a) out) (at + length a)
    (length-append (take at out) a ∙ ap (λ (k : ℕ). k + length a) (length-take-le at out (omega arith)))

-- written after one another is written together
pub written-append : (out : List ℕ) (at : ℕ) (a b : List ℕ) → at + length a ≤ length out
    → written (written out at a) (at + length a) b ≡ written out at (a ++ b)
unfolding written
written-append out at a b h =
    let rest : drop (at + length a + length b) (written out at a) ≡ drop (at + length (a ++ b)) out =
    sym (drop-drop (length b) (at + length a) (written out at a))
    ∙ ap (drop (length b)) (from_end out at a h)
    ∙ drop-drop (length b) (at + length a) out
    ∙ ap (λ (k : ℕ). drop k out)
    (add_assoc at (length a) (length b) ∙ ap (λ (k : ℕ). at + k) (sym (length-append a b))) in
    ap (λ (l : List ℕ). l ++ (b ++ drop (at + length a + length b) (written out at a))) (before-end out at a h)
    ∙ ap (λ (l : List ℕ). (take at out ++ a) ++ (b ++ l)) rest
    ∙ append_assoc (take at out) a (b ++ drop (at + length (a ++ b)) out)
    ∙ ap (λ (l : List ℕ). take at out ++ l) (sym (append_assoc a b (drop (at + length (a ++ b)) out)))

pub wrote_then : {out r₁ r₂ : List ℕ} {at e₁ e₂ : ℕ} (a b : List ℕ)
    → Wrote out at a r₁ e₁ → Wrote r₁ e₁ b r₂ e₂ → at + length a ≤ length out
    → Wrote out at (a ++ b) r₂ e₂
wrote_then {out} {r₁} {r₂} {at} {e₁} {e₂} a b p q h = record {
  bytes =
      q.bytes
      ∙ ap (λ (l : List ℕ). written l e₁ b) p.bytes
      ∙ ap (λ (k : ℕ). written (written out at a) k b) p.position
      ∙ written-append out at a b h;
  position = simp length-append (omega arith);
}

-- as many bytes are lent as before
pub wrote-length : {out r : List ℕ} {at e : ℕ} (bs : List ℕ) → Wrote out at bs r e → at + length bs ≤ length out
    → length r ≡ length out
unfolding written
wrote-length {out} {r} {at} bs w h =
    ap length w.bytes ∙ simp (length-append, length-drop) (omega (arith, length-take-le at out (omega arith)))

pub pushes_nothing : (l : Lines) → Pushes [] l l
pushes_nothing l = record { same_reference = refl; wrote = wrote_nothing l.bytes.now l.end }

-- what is written from the start on has room
pub wrote-within : {out r : List ℕ} {e : ℕ} (bs : List ℕ) → Wrote out 0 bs r e → length r ≡ length out → e ≤ length r
unfolding written
wrote-within {out} {r} bs w h =
    omega (arith, w.position, simp (length-append, length-drop) at (ap length w.bytes))

-- two texts after one another
pub pushes_then : {l₀ l₁ l₂ : Lines} (a b : List ℕ) → Pushes a l₀ l₁ → Pushes b l₁ l₂
    → l₀.end + length a ≤ length l₀.bytes.now → Pushes (a ++ b) l₀ l₂
pushes_then a b p q h =
    record { same_reference = q.same_reference ∙ p.same_reference; wrote = wrote_then a b p.wrote q.wrote h }

pub pushes-end : {l₀ l₁ : Lines} (a : List ℕ) → Pushes a l₀ l₁ → l₀.end + length a ≤ length l₀.bytes.now
    → (l₁.end ≡ l₀.end + length a) × (length l₁.bytes.now ≡ length l₀.bytes.now)
pushes-end a p h = (p.wrote.position, wrote-length a p.wrote h)

-- with room and without
pub puts-there : {l₀ l₁ : Lines} (bs : List ℕ) → room l₀.bytes.now l₀.end ≡ true → Pushes bs l₀ l₁ → Puts bs l₀ l₁
unfolding put put_end
puts-there {l₀} {l₁} bs h p = record {
  same_reference = p.same_reference;
  position = p.wrote.position ∙ sym (rw (h, put_end));
  bytes = p.wrote.bytes ∙ sym (rw (h, put));
}

pub puts-nothing : (l : Lines) (bs : List ℕ) → room l.bytes.now l.end ≡ false → Puts bs l l
unfolding put put_end
puts-nothing l bs h =
    record { same_reference = refl; position = sym (rw (h, put_end)); bytes = sym (rw (h, put)) }

pub room-free : (out : List ℕ) (at : ℕ) → room out at ≡ true → at + longest ≤ length out
room-free out at h = leb-true (at + longest) (length out) h

-- the fields of a line
pub field-length : (x b : ℕ) → length (decimal_of x ++ (b ∷ [])) ≡ length (decimal_of x) + 1
field-length x b = length-append (decimal_of x) (b ∷ [])

pub word-length : (m : Mark) → length (mark_word m ++ (space ∷ [])) ≤ 10
word-length Clean = omega arith
word-length Held = omega arith
word-length (Corrected e) = omega arith
word-length (Parity e) = omega arith
word-length Doubtful = omega arith

pub line-fields : (k : ℕ) (d : Delivered)
    → (decimal_of k ++ (space ∷ [])) ++ ((decimal_of d.info ++ (space ∷ []))
    ++ ((mark_word d.mark ++ (space ∷ [])) ++ (decimal_of (mark_error d.mark) ++ (newline ∷ []))))
    ≡ line_of k d
unfolding line_of
line-fields k d = simp append_assoc
