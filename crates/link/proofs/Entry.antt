-- Entries of a batch as numbers: a decoder's has information below 2^16, so that the mark above it is read off again.
-- Assumes nothing.
--
--   delivered-fits   the information delivered has 16 bits at most
--   entry_read       the parts of an entry
--   entry-is         the entry of a step, of the words of its record
--   entry-parts      those of a call that is not refused
use mathlib.Core.Path.{◌≡◌, refl, sym, ap₂, ◌∙◌}
use mathlib.Core.Bool.{Bool, true, false, cond}
use mathlib.Core.List.{List, [], ◌∷◌}
use Prim.Native.Nat.{ℕ, ◌-◌, ◌/◌, ◌%◌, ◌^◌, ◌≤◌, ◌<◌}
use native.Mathlib.Nat.{mod-lt}
use native.Mathlib.Omega.{arith}
use lib.Dec.{ltb}
use lib.ListN.{get_or}
use lib.Pow.{pow_pos, pow_mono}
use Rattle.span.proofs.Word.{xor_lt}
use Rattle.tables.specs.declared.table.Table.{Table}
use Rattle.link.specs.declared.decode.Mark.{Mark}
use Rattle.link.specs.declared.decode.Mark.TheVariants.{Clean, Held, Corrected, Doubtful, Parity}
use Rattle.std.specs.Prelude.{Some, None, Ok}
use Rattle.link.specs.Memory.{turn_of, fill_of, delay_of, delayed_of}
use Rattle.link.specs.Step.{error_of}
use Rattle.link.specs.Refusals.{decoder_fault}
use Rattle.link.specs.Decoder.{
  decoder_found,
  decode_answer,
  delivered,
  delivery,
  decode_values,
  record_numbers,
  mark_number,
}
use Rattle.link.specs.Batch.{decode_entry, decode_entries, EntryLaw}
use Rattle.link.proofs.Coder.{coded-fits}
use Rattle.link.proofs.Decoder.{decoder-taken}
use Rattle.link.proofs.Entries.{coded_one, decoded_one}
use Rattle.link.proofs.Room.{oldest_lt}

pub delivered-fits : (t : Table) (s : List ℕ) (r : ℕ) → decoder_fault t s r ≡ 0 → (delivered t s r).info < 2 ^ 16
unfolding delivered decoder_found
delivered-fits t s r e =
    let k = decoder-taken t s r e in
    let error = error_of (decoder_found t s r) in
    let low : error % 2 ^ (t.symbols - 1) < 2 ^ (t.symbols - 1) = mod-lt error (pow_pos (t.symbols - 1)) in
    let info =
    xor_lt (t.symbols - 1) (delayed_of t s (turn_of s) 0) (error % 2 ^ (t.symbols - 1)) (oldest_lt t s r k) low in
    let narrow : t.symbols - 1 ≤ 16 = (let z = k.sizes.n_to in omega arith) in
    let most = pow_mono narrow in
    omega arith

pub entry_read : (mark info : ℕ) → info < 2 ^ 16
    → (decode_entry mark info % 2 ^ 16 ≡ info) × (decode_entry mark info / 2 ^ 16 ≡ mark)
entry_read mark info h = (omega arith, omega arith)

-- the entry of a step, of the words of its record
pub entry-is : (t : Table) (s : List ℕ) (r : ℕ) (mark : Mark) (info : ℕ) → mark ≡ (delivered t s r).mark
    → info ≡ (delivered t s r).info
    → cond (ltb (fill_of s) (delay_of t)) (decode_entry 0 0) (decode_entry (mark_number mark) info) ∷ []
    ≡ decode_entries (delivery t s r)
unfolding delivery
entry-is t s r mark info p q = go (ltb (fill_of s) (delay_of t))
  where
    go : (b : Bool)
        → cond b (decode_entry 0 0) (decode_entry (mark_number mark) info) ∷ []
        ≡ decode_entries (cond b (Ok None) (Ok (Some (delivered t s r))))
    go true = refl
    go false = ap₂ (λ (m : Mark) (i : ℕ). decode_entry (mark_number m) i ∷ []) p q

mark-most : (m : Mark) → mark_number m ≤ 5
mark-most Clean = omega arith
mark-most Held = omega arith
mark-most (Corrected e) = omega arith
mark-most Doubtful = omega arith
mark-most (Parity e) = omega arith

decoded-entry : (t : Table) (s : List ℕ) (r : ℕ) → decoder_fault t s r ≡ 0
    → (e : ℕ) × (decode_entries (decode_answer t s r) ≡ e ∷ []) × (e < 2 ^ 32)
    × (e % 2 ^ 16 ≡ get_or (decode_values t s r) 0 0) × (e / 2 ^ 16 ≡ get_or (decode_values t s r) 1 0)
decoded-entry t s r e =
    let d = delivered t s r in
    let p = parts (ltb (fill_of s) (delay_of t)) in (
      cond (ltb (fill_of s) (delay_of t)) (decode_entry 0 0) (decode_entry (mark_number d.mark) d.info),
      decoded_one t s r e ∙ sym (entry-is t s r d.mark d.info refl refl),
      p.0,
      p.1,
      p.2,
    )
  where
    parts : (b : Bool) →
        let d = delivered t s r in
        let x = cond b (decode_entry 0 0) (decode_entry (mark_number d.mark) d.info) in
        let values = cond b (0 ∷ 0 ∷ 0 ∷ []) (record_numbers d) in
        (x < 2 ^ 32) × (x % 2 ^ 16 ≡ get_or values 0 0) × (x / 2 ^ 16 ≡ get_or values 1 0)
    parts true = (omega arith, refl, refl)
    parts false =
        let d = delivered t s r in
        let low = delivered-fits t s r e in
        let most = mark-most d.mark in
        let q = entry_read (mark_number d.mark) d.info low in
        (omega arith, q.0, q.1)

pub entry-parts : EntryLaw
entry-parts = (
  λ t s b e. (coded_one t s b e, (let l = coded-fits t s b e in omega arith)),
  decoded-entry,
)
