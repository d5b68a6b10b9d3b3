-- One turn of the loop that lists blocks: what was printed, and what is still to be listed, make the whole listing.
-- Assumes nothing.
use mathlib.Core.Path.{◌≡◌, refl, sym, ap, subst, ◌∙◌}
use mathlib.Core.Bool.{true, false}
use mathlib.Core.List.{List, [], ◌∷◌, ◌++◌, append_assoc}
use Prim.Native.Nat.{ℕ, zero, suc, ◌+◌, ◌*◌, ◌/◌, ◌≤◌, ◌<◌}
use native.Mathlib.Omega.{arith}
use native.Mathlib.Numerals.{add-one}
use native.Mathlib.Nat.{add-zero}
use lib.ListN.{length, get_or, drop, drop_of_length-le}
use lib.Seq.{drop-cons}
use Rattle.link.specs.Refusals.{Answer}
use Rattle.link.specs.declared.decode.Delivered.{Delivered}
use Rattle.std.specs.Simd.{first_chunks}
use Rattle.std.proofs.lemmas.List.{get_or-take, get_or-drop}
use Rattle.std.specs.declared.ops.ControlFlow.{ControlFlow}
use Rattle.std.specs.declared.ops.ControlFlow.TheVariants.{Continue, Break}
use Rattle.tables.specs.declared.table.Table.{Table}
use Rattle.link.specs.Decoder.{decode_answer, decode_memory}
use Rattle.std.specs.Prelude.{Option, Some, None, Ok, Err}
use Rattle.report.specs.Text.{odd_line}
use Rattle.report.specs.declared.text.Lines.{Lines}
use Rattle.report.specs.Writing.{Wrote, Pushes, longest}
use Rattle.report.specs.Listing.{Listed, prefixed, block_of, answer_text, answer_number, answer_stops, answer_next}
use Rattle.report.specs.Listing.{Printed, listed_after, listed, listed_next, Lists}
use Rattle.report.proofs.Written.{pushes_nothing, pushes_then, pushes-end}

-- block i of some bytes
abbrev pub block_at : List ℕ → ℕ → ℕ
block_at bs i = block_of (get_or bs (2 * i) 0) (get_or bs (2 * i + 1) 0)

-- it is the block that the library cuts
chunk-byte : (n i k : ℕ) (bs : List ℕ) → i < n → k < 2 → get_or (get_or (first_chunks 2 n bs) i []) k 0 ≡ get_or bs (2 * i + k) 0
chunk-byte zero i k bs h two = absurd (omega arith)
chunk-byte (suc n) zero k bs h two = get_or-take 2 bs k 0 two ∙ ap (λ (j : ℕ). get_or bs j 0) (omega arith)
chunk-byte (suc n) (suc i) k bs h two =
    chunk-byte n i k (drop 2 bs) (omega arith) two
    ∙ get_or-drop 2 bs (2 * i + k) 0
    ∙ ap (λ (j : ℕ). get_or bs j 0) (omega arith)

pub chunk-block : (n i : ℕ) (bs : List ℕ) → i < n
    → let chunk = get_or (first_chunks 2 n bs) i [] in
    get_or chunk 0 0 + get_or chunk 1 0 * 256 ≡ block_at bs i
chunk-block n i bs h =
    omega (
      arith,
      chunk-byte n i 0 bs h (omega arith) ∙ ap (λ (j : ℕ). get_or bs j 0) (add-zero (2 * i)),
      chunk-byte n i 1 bs h (omega arith),
    )

-- its two bytes, and those after it
drop_block : (bs : List ℕ) (i : ℕ) → 2 * i + 2 ≤ length bs
    → drop (2 * i) bs ≡ get_or bs (2 * i) 0 ∷ get_or bs (2 * i + 1) 0 ∷ drop (2 * (i + 1)) bs
drop_block bs i h =
    drop-cons bs (2 * i) 0 (omega arith)
    ∙ ap (λ (l : List ℕ). get_or bs (2 * i) 0 ∷ l)
    (ap (λ (k : ℕ). drop k bs) (sym (add-one (2 * i))) ∙ drop-cons bs (2 * i + 1) 0 (omega arith))
    ∙ ap (λ (k : ℕ). get_or bs (2 * i) 0 ∷ get_or bs (2 * i + 1) 0 ∷ drop k bs) {x = suc (2 * i + 1)}
    {y = 2 * (i + 1)} (omega arith)

-- what is listed after block i
abbrev rest_at : Table → List ℕ → List ℕ → ℕ → ℕ → Listed
rest_at t s bs i next = listed t (decode_memory t s (block_at bs i)) next (drop (2 * (i + 1)) bs)

-- the listing from block i on is what its answer does
from_block : (t : Table) (s : List ℕ) (k : ℕ) (bs : List ℕ) (i : ℕ) → 2 * i + 2 ≤ length bs
    → listed t s k (drop (2 * i) bs)
    ≡ listed_after (decode_answer t s (block_at bs i)) (decode_memory t s (block_at bs i)) k (rest_at t s bs i)
unfolding listed
from_block t s k bs i h = ap (listed t s k) (drop_block bs i h)

after-goes : (a : Answer (Option Delivered)) (s : List ℕ) (k : ℕ) (rest : ℕ → Listed) → answer_stops a ≡ false
    → listed_after a s k rest ≡ prefixed (answer_text k a) (rest (answer_number k a))
after-goes a s k rest e = rw (e, listed_after)

after-stops : (a : Answer (Option Delivered)) (s : List ℕ) (k : ℕ) (rest : ℕ → Listed) → answer_stops a ≡ true
    → listed_after a s k rest ≡ record { text = answer_text k a; memory = s; number = answer_number k a; stopped = true }
after-stops a s k rest e = rw (e, listed_after)

prefixed-twice : (a b : List ℕ) (l : Listed) → prefixed a (prefixed b l) ≡ prefixed (a ++ b) l
prefixed-twice a b l =
    ap (λ (x : List ℕ). record { text = x; memory = l.memory; number = l.number; stopped = l.stopped })
    (sym (append_assoc a b l.text))

pub goes_on : (t : Table) (s : List ℕ) (k : ℕ) (bs : List ℕ) (i : ℕ) (text : List ℕ) → 2 * i + 2 ≤ length bs
    → answer_stops (decode_answer t s (block_at bs i)) ≡ false
    → prefixed text (listed t s k (drop (2 * i) bs))
    ≡ prefixed (text ++ answer_text k (decode_answer t s (block_at bs i)))
    (listed t (decode_memory t s (block_at bs i)) (answer_number k (decode_answer t s (block_at bs i)))
    (drop (2 * (i + 1)) bs))
goes_on t s k bs i text h e =
    ap (prefixed text) (from_block t s k bs i h
    ∙ after-goes (decode_answer t s (block_at bs i)) (decode_memory t s (block_at bs i)) k (rest_at t s bs i) e)
    ∙ prefixed-twice text (answer_text k (decode_answer t s (block_at bs i))) _

pub stops-there : (t : Table) (s : List ℕ) (k : ℕ) (bs : List ℕ) (i : ℕ) (text : List ℕ) → 2 * i + 2 ≤ length bs
    → answer_stops (decode_answer t s (block_at bs i)) ≡ true
    → prefixed text (listed t s k (drop (2 * i) bs))
    ≡ record {
      text = text ++ answer_text k (decode_answer t s (block_at bs i));
      memory = decode_memory t s (block_at bs i);
      number = answer_number k (decode_answer t s (block_at bs i));
      stopped = true;
    }
stops-there t s k bs i text h e =
    ap (prefixed text) (from_block t s k bs i h
    ∙ after-stops (decode_answer t s (block_at bs i)) (decode_memory t s (block_at bs i)) k (rest_at t s bs i) e)

pub ends-even : (t : Table) (s : List ℕ) (k : ℕ) (bs : List ℕ) (i : ℕ) (text : List ℕ) → length bs ≤ 2 * i
    → prefixed text (listed t s k (drop (2 * i) bs)) ≡ record {
      text = text ++ [];
      memory = s;
      number = k;
      stopped = false;
    }
unfolding listed
ends-even t s k bs i text h = ap (λ (l : List ℕ). prefixed text (listed t s k l)) (drop_of_length-le bs {i = 2 * i} h)

pub ends-odd : (t : Table) (s : List ℕ) (k : ℕ) (bs : List ℕ) (i : ℕ) (text : List ℕ) → length bs ≡ 2 * i + 1
    → prefixed text (listed t s k (drop (2 * i) bs)) ≡ record {
      text = text ++ odd_line;
      memory = s;
      number = k;
      stopped = true;
    }
unfolding listed
ends-odd t s k bs i text h =
    ap (λ (l : List ℕ). prefixed text (listed t s k l))
    (drop-cons bs (2 * i) 0 (omega arith)
    ∙ ap (λ (l : List ℕ). get_or bs (2 * i) 0 ∷ l) (drop_of_length-le bs {i = suc (2 * i)} (omega arith)))

-- ---- the loop's turns

-- after i blocks: what was printed, and what is left to list
pub record Going (t : Table) (s₀ : List ℕ) (k₀ : ℕ) (bs : List ℕ) (l₀ : Lines) (s : List ℕ) (l : Lines) (k i : ℕ)
    : Type 0 where
  pub text : List ℕ
  pub below : i ≤ length bs / 2
  pub memory_length : length s ≡ length s₀
  pub short : l.end ≤ longest * i
  pub few : k ≤ k₀ + i
  pub pushed : Pushes text l₀ l
  pub whole : prefixed text (listed t s k (drop (2 * i) bs)) ≡ listed t s₀ k₀ bs

number-next : (k : ℕ) (a : Answer (Option Delivered)) → answer_number k a ≤ k + 1
number-next k (Ok (Some d)) = omega arith
number-next k (Ok None) = omega arith
number-next k (Err e) = omega arith

-- what an answer goes on with, and where it stops
goes : (k : ℕ) (a : Answer (Option Delivered)) (n : ℕ) → answer_next k a ≡ Continue n
    → (answer_stops a ≡ false) × (n ≡ answer_number k a)
goes k (Ok (Some d)) n e = (refl, cc)
goes k (Ok None) n e = (refl, cc)
goes k (Err r) n e = absurd cc

stops : (k : ℕ) (a : Answer (Option Delivered)) (n : ℕ) → answer_next k a ≡ Break n
    → (answer_stops a ≡ true) × (n ≡ answer_number k a)
stops k (Ok (Some d)) n e = absurd cc
stops k (Ok None) n e = absurd cc
stops k (Err r) n e = (refl, cc)

pub going_start : (t : Table) (s : List ℕ) (k : ℕ) (bs : List ℕ) (l : Lines) → l.end ≡ 0 → Going t s k bs l s l k 0
going_start t s k bs l h = record {
  text = [];
  below = omega arith;
  memory_length = refl;
  short = omega arith;
  few = omega arith;
  pushed = pushes_nothing l;
  whole = refl;
}

module _ (t : Table) (s₀ : List ℕ) (k₀ : ℕ) (bs : List ℕ) (l₀ : Lines) (start : l₀.end ≡ 0)
    (room : longest * (length bs / 2 + 1) ≤ length l₀.bytes.now) where
  fits : {s : List ℕ} {l : Lines} {k i : ℕ} (g : Going t s₀ k₀ bs l₀ s l k i)
      → l₀.end + length g.text ≤ length l₀.bytes.now
  fits g = omega (arith, g.pushed.wrote.position, g.short, g.below)

  -- there is room for one more line
  pub going_room : {s : List ℕ} {l : Lines} {k i : ℕ} → Going t s₀ k₀ bs l₀ s l k i
      → l.end + longest ≤ length l.bytes.now
  going_room g = omega (arith, pushes-end g.text g.pushed (fits g), g.short, g.below)

  pub going_next : {s : List ℕ} {l l' : Lines} {k i k' : ℕ} {next : ControlFlow ℕ ℕ} → Going t s₀ k₀ bs l₀ s l k i
      → 2 * i + 2 ≤ length bs
      → Printed k (decode_answer t s (block_at bs i)) l l' next → next ≡ Continue k'
      → length (decode_memory t s (block_at bs i)) ≡ length s
      → Going t s₀ k₀ bs l₀ (decode_memory t s (block_at bs i)) l' k' (i + 1)
  going_next {s} {l} {l'} {k} {i} {k'} g h p e ls =
      let a = decode_answer t s (block_at bs i) in
      let n = goes k a k' (sym p.counted ∙ e) in
      record {
        text = g.text ++ answer_text k a;
        below = omega (arith, g.below);
        memory_length = ls ∙ g.memory_length;
        short = omega (arith, g.short, p.short);
        few = omega (arith, g.few, n.1, number-next k a);
        pushed = pushes_then g.text (answer_text k a) g.pushed p.pushed (fits g);
        whole =
            ap (λ (m : ℕ). prefixed (g.text ++ answer_text k a)
            (listed t (decode_memory t s (block_at bs i)) m (drop (2 * (i + 1)) bs))) n.1
            ∙ sym (goes_on t s k bs i g.text h n.0)
            ∙ g.whole;
      }

  -- the text of a listing that begins with the lines
  lists : {l : Lines} (whole : Listed) (s : List ℕ) (next : ControlFlow ℕ ℕ) → Pushes whole.text l₀ l → s ≡ whole.memory
      → next ≡ listed_next whole → Lists whole l₀.bytes.now l.bytes.now s l.end next
  lists {l} whole s next p m n = record {
    wrote = subst (λ (at : ℕ). Wrote l₀.bytes.now at whole.text l.bytes.now l.end) start p.wrote;
    left = m;
    counted = n;
  }

  pub going_stops : {s : List ℕ} {l l' : Lines} {k i k' : ℕ} {next : ControlFlow ℕ ℕ} → Going t s₀ k₀ bs l₀ s l k i
      → 2 * i + 2 ≤ length bs
      → Printed k (decode_answer t s (block_at bs i)) l l' next → next ≡ Break k'
      → Lists (listed t s₀ k₀ bs) l₀.bytes.now l'.bytes.now (decode_memory t s (block_at bs i)) l'.end (Break k')
  going_stops {s} {l} {l'} {k} {i} {k'} g h p e =
      let a = decode_answer t s (block_at bs i) in
      let n = stops k a k' (sym p.counted ∙ e) in
      let all = sym (stops-there t s k bs i g.text h n.0) ∙ g.whole in
      rw (← all) (lists _ _ _ (pushes_then g.text (answer_text k a) g.pushed p.pushed (fits g)) refl (ap Break n.1))

  pub going_odd : {s : List ℕ} {l l' : Lines} {k i : ℕ} → Going t s₀ k₀ bs l₀ s l k i → length bs ≡ 2 * i + 1
      → Pushes odd_line l l'
      → Lists (listed t s₀ k₀ bs) l₀.bytes.now l'.bytes.now s l'.end (Break k)
  going_odd {s} {l} {l'} {k} {i} g h w =
      let all = sym (ends-odd t s k bs i g.text h) ∙ g.whole in
      rw (← all) (lists _ _ _ (pushes_then g.text odd_line g.pushed w (fits g)) refl refl)

  pub going_even : {s : List ℕ} {l : Lines} {k i : ℕ} → Going t s₀ k₀ bs l₀ s l k i → length bs ≤ 2 * i
      → Lists (listed t s₀ k₀ bs) l₀.bytes.now l.bytes.now s l.end (Continue k)
  going_even {s} {l} {k} {i} g h =
      let all = sym (ends-even t s k bs i g.text h) ∙ g.whole in
      rw (← all) (lists _ _ _ (pushes_then g.text [] g.pushed (pushes_nothing l) (fits g)) refl refl)
