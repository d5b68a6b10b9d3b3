-- A decoding step in the words that the functions compute: w with the parity's row in the image, the register with its
-- top bit, and the memory of both. Assumes nothing.
--
--   register_is   the register
--   found_is      what is found there
--   memory_is     the memory after the step
--   info_is, mark_is   information and mark of the record
--   step_words    entry and memory of a step of a batch, by what `terms` and `take_block` promise
use mathlib.Core.Path.{◌≡◌, refl, ap, ap₂, ◌∙◌}
use mathlib.Core.Bool.{Bool, cond}
use mathlib.Core.List.{List, [], ◌∷◌}
use Prim.Native.Nat.{ℕ, ◌+◌, ◌-◌, ◌/◌, ◌^◌, ◌≤◌}
use lib.Dec.{ltb}
use lib.ListN.{length}
use lib.Seq.{length-take-le}
use Rattle.std.specs.Prelude.{Option}
use Rattle.span.specs.Word.{◌⊕◌, odd, sel}
use Rattle.span.specs.Combination.{combination}
use Rattle.tables.specs.declared.table.Table.{Table}
use Rattle.tables.specs.Table.{rows_of, info_rows}
use Rattle.link.specs.declared.decode.Verdict.{Verdict}
use Rattle.link.specs.Memory.{turn_of, fill_of, delay_of, pending_of, syndrome_of, delayed_of}
use Rattle.link.specs.Step.{information, raw_term, found, error_of, kept_of, mark_of}
use Rattle.link.specs.Decoder.{decoder_joining, decoder_register, decoder_found, part_next, decoder_next, delivered}
use Rattle.link.specs.Decoder.{advanced, delivery, mark_number}
use Rattle.link.specs.Batch.{decode_entry, decode_entries, Judges}
use Rattle.link.proofs.Coder.{sel-digit}
use Rattle.link.proofs.Step.{joined_half, joined_odd}
use Rattle.link.proofs.Entry.{entry-is}

module _ (t : Table) (s : List ℕ) (r w : ℕ) (room : t.symbols - 1 ≤ length t.rows)
    (e : w ≡ pending_of t s (turn_of s) ⊕ combination (rows_of t) r) where
  width : length (info_rows t) ≡ t.symbols - 1
  width = length-take-le (t.symbols - 1) t.rows room

  pending-is : w / 2 ≡ decoder_joining t s r / 2
  unfolding decoder_joining
  pending-is =
      ap (λ (x : ℕ). x / 2) e ∙ joined_half (info_rows t) (t.symbols - 1) width (pending_of t s (turn_of s)) r

  pub register_is : (x top : ℕ) → x ≡ syndrome_of t s (turn_of s) + sel (odd w) top → top ≡ 2 ^ (t.span - 1)
      → x ≡ decoder_register t s r
  unfolding decoder_register decoder_joining
  register_is x top h g =
      h
      ∙ ap₂ (λ (b : Bool) (k : ℕ). syndrome_of t s (turn_of s) + sel b k)
      (ap odd e ∙ joined_odd (info_rows t) (t.symbols - 1) width (pending_of t s (turn_of s)) r) g
      ∙ ap (λ (y : ℕ). syndrome_of t s (turn_of s) + y) (sel-digit (raw_term (decoder_joining t s r) t.symbols r)
      (2 ^ (t.span - 1)))

  module _ (x : ℕ) (is : x ≡ decoder_register t s r) (f : Option ℕ) (g : f ≡ found (rows_of t) x) where
    pub found_is : f ≡ decoder_found t s r
    unfolding decoder_found decoder_register
    found_is = g ∙ ap (found (rows_of t)) is

    pub memory_is : advanced t.span t.depth s (w / 2) (kept_of f x) (information t.symbols r) ≡ decoder_next t s
        r
    unfolding decoder_next part_next decoder_found decoder_register decoder_joining
    memory_is =
        ap₂ (λ (p k : ℕ). advanced t.span t.depth s p k (information t.symbols r)) pending-is
        (ap₂ kept_of found_is is)

    pub info_is : delayed_of t s (turn_of s) 0 ⊕ information t.symbols (error_of f) ≡ (delivered t s r).info
    unfolding delivered decoder_found
    info_is =
        ap (λ (l : Option ℕ). delayed_of t s (turn_of s) 0 ⊕ information t.symbols (error_of l)) found_is

    pub mark_is : mark_of (2 ^ (t.symbols - 1)) f x ≡ (delivered t s r).mark
    unfolding delivered decoder_found decoder_register
    mark_is = ap₂ (mark_of (2 ^ (t.symbols - 1))) found_is is

  pub step_words : (x top : ℕ) → x ≡ syndrome_of t s (turn_of s) + sel (odd w) top → top ≡ 2 ^ (t.span - 1)
      → (v : Verdict) → Judges t x v → (entry : ℕ) (after : List ℕ)
      → entry ≡ cond (ltb (fill_of s) (delay_of t)) (decode_entry 0 0)
      (decode_entry (mark_number v.mark) (delayed_of t s (turn_of s) 0 ⊕ information t.symbols v.error))
      → after ≡ advanced t.span t.depth s (w / 2) v.kept (information t.symbols r)
      → (after ≡ decoder_next t s r) × (entry ∷ [] ≡ decode_entries (delivery t s r))
  step_words x top k m v j entry after h l =
      let is = register_is x top k m in
      let f = found (rows_of t) x in (
        l
            ∙ ap (λ (y : ℕ). advanced t.span t.depth s (w / 2) y (information t.symbols r)) j.kept
            ∙ memory_is x is f refl,
        ap (λ (y : ℕ). y ∷ []) h
            ∙ entry-is t s r v.mark (delayed_of t s (turn_of s) 0 ⊕ information t.symbols v.error)
            (j.mark ∙ mark_is x is f refl)
            (ap (λ (y : ℕ). delayed_of t s (turn_of s) 0 ⊕ information t.symbols y) j.error ∙ info_is x is f refl),
      )
