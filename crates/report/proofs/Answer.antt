-- What is written for an answer. Assumes nothing.
use mathlib.Core.Path.{◌≡◌, ◌∙◌}
use mathlib.Core.List.{List}
use Prim.Native.Nat.{ℕ, ◌+◌, ◌≤◌}
use native.Mathlib.Omega.{arith}
use borrow.Author.Tests.{le-leb}
use lib.ListN.{length}
use Rattle.std.specs.declared.ops.ControlFlow.TheVariants.{Continue, Break}
use Rattle.link.specs.declared.decode.Delivered.{Delivered}
use Rattle.std.specs.Prelude.{Option, Some, None, Ok, Err}
use Rattle.link.specs.declared.refusal.Refusal.{Refusal}
use Rattle.link.specs.Refusals.{Answer, refusal_number}
use Rattle.report.specs.declared.text.Lines.{Lines}
use Rattle.report.specs.Text.{line_of, refused_line}
use Rattle.report.specs.Writing.{longest, put, put_end, Pushes, Puts}
use Rattle.report.specs.Listing.{Printed}
use Rattle.report.proofs.Written.{pushes_nothing}

-- with room, what is put is written
pub puts-pushes : {l₀ l₁ : Lines} (bs : List ℕ) → l₀.end + longest ≤ length l₀.bytes.now → Puts bs l₀ l₁
    → Pushes bs l₀ l₁
unfolding put put_end
puts-pushes {l₀} {l₁} bs h p =
    let r = le-leb (l₀.end + longest) (length l₀.bytes.now) h in
    record {
      same_reference = p.same_reference;
      wrote = record { bytes = p.bytes ∙ rw (r, put); position = p.position ∙ rw (r, put_end) };
    }

-- what a call writes and answers for an answer of the decoder
pub printed-delivery : {l₀ l₁ : Lines} (k : ℕ) (a : Answer (Option Delivered)) (d : Delivered) → a ≡ Ok (Some d)
    → l₀.end + longest ≤ length l₀.bytes.now → Puts (line_of k d) l₀ l₁ → l₁.end ≤ l₀.end + longest
    → Printed k a l₀ l₁ (Continue (k + 1))
printed-delivery k a d told h p n =
    let w = puts-pushes (line_of k d) h p in
    record { pushed = rw told w; counted = rw told; short = n }

pub printed-nothing : (l : Lines) (k : ℕ) (a : Answer (Option Delivered)) → a ≡ Ok None → Printed k a l l (Continue k)
printed-nothing l k a told = record { pushed = rw told (pushes_nothing l); counted = rw told; short = omega arith }

pub printed-refusal : {l₀ l₁ : Lines} (k : ℕ) (a : Answer (Option Delivered)) (f : Refusal) → a ≡ Err f
    → l₀.end + longest ≤ length l₀.bytes.now → Puts (refused_line (refusal_number f)) l₀ l₁
    → length (refused_line (refusal_number f)) ≤ longest
    → Printed k a l₀ l₁ (Break k)
printed-refusal k a f told h p n =
    let w = puts-pushes (refused_line (refusal_number f)) h p in
    record { pushed = rw told w; counted = rw told; short = omega (arith, w.wrote.position) }
