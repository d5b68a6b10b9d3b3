-- Listing in parts. Assumes nothing.
use mathlib.Core.Path.{◌≡◌, refl, sym, ap, ◌∙◌}
use mathlib.Core.Bool.{Bool, true, false}
use mathlib.Core.List.{List, [], ◌∷◌, ◌++◌, append_assoc}
use Prim.Native.Nat.{ℕ, ◌+◌}
use native.Mathlib.Omega.{arith}
use Rattle.link.specs.Refusals.{Answer}
use Rattle.link.specs.declared.decode.Delivered.{Delivered}
use Rattle.tables.specs.declared.table.Table.{Table}
use Rattle.std.specs.Prelude.{Option, Some, None, Ok, Err}
use Rattle.link.specs.Decoder.{decode_answer, decode_memory}
use Rattle.report.specs.Text.{line_of}
use Rattle.report.specs.Listing.{Listed, prefixed, block_of, listed_after, listed, continued, PartsLaw}

-- what is printed before it does not change how a listing goes on
pub continued-prefixed : (t : Table) (ps : List ℕ) (l : Listed) (b : Bool) (bs : List ℕ) → l.stopped ≡ b
    → continued t (prefixed ps l) bs ≡ prefixed ps (continued t l bs)
continued-prefixed t ps l true bs e = rw e
continued-prefixed t ps l false bs e = rw (e, append_assoc)

continued-after : (t : Table) (a : Answer (Option Delivered)) (s : List ℕ) (k : ℕ) (xs bs : List ℕ)
    → ((next : ℕ) → listed t s next (xs ++ bs) ≡ continued t (listed t s next xs) bs)
    → listed_after a s k (λ next. listed t s next (xs ++ bs))
    ≡ continued t (listed_after a s k (λ next. listed t s next xs)) bs
continued-after t (Ok (Some d)) s k xs bs h =
    ap (prefixed (line_of k d)) (h (k + 1)) ∙ sym (continued-prefixed t (line_of k d) (listed t s (k + 1) xs) _ bs refl)
continued-after t (Ok None) s k xs bs h = h k ∙ sym (continued-prefixed t [] (listed t s k xs) _ bs refl)
continued-after t (Err e) s k xs bs h = refl

pub parts : PartsLaw
unfolding listed
parts t s k [] bs h = refl
parts t s k (a ∷ []) bs h = absurd (omega arith)
parts t s k (low ∷ high ∷ xs) bs h =
    let r = block_of low high in
    let after = decode_memory t s r in
    continued-after t (decode_answer t s r) after k xs bs (λ next. parts t after next xs bs (omega arith))
