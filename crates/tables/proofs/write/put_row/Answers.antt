-- `tables::write::put_row`: the row's eight bytes are stored as one part. Assumes nothing.
use Rattle.std.proofs.Common.{rules, ◌≡◌, ◌+◌, ◌-◌, ◌≤◌, length, ℕ, List, w64}
use mathlib.Core.List.{◌++◌, append_assoc}
use mathlib.Core.Path.{refl, sym, ◌∙◌, ap}
use native.Mathlib.Omega.{arith}
use native.Mathlib.Numerals.{add-one}
use Prim.Native.Nat.{suc}
use borrow.Rule.Slice.PartMut.{put_mid, Post-is}
use lib.ListN.{take, set, length-set}
use Rattle.std.specs.Int.{to_le_bytes}
use Rattle.std.proofs.lemmas.List.Edits.{sets, sets-eq}
use Rattle.tables.specs.Written.{bytes_of}
use Rattle.tables.proofs.write.put_row.Goals as goal

-- the library's bytes of a word
same_bytes : (row : ℕ) → to_le_bytes w64 row ≡ bytes_of 8 row
unfolding bytes_of
same_bytes row = search rules

-- a part stored is its elements stored in turn
part : (out bs : List ℕ) (at : ℕ) → length bs ≡ 8 → at + 10 ≤ length out
    → put_mid (at + 2) (at + 10 - (at + 2)) out bs ≡ sets out (at + 2) bs
part out bs at n h =
    let e : at + 10 ≡ at + 2 + length bs = omega arith in
    ap (λ l. take (at + 2) out ++ (bs ++ l)) (Post-is (at + 2) (at + 10) out (omega arith))
    ∙ rw e (sym (append_assoc (take (at + 2) out) bs _) ∙ sym (sets-eq bs out (at + 2) (omega arith)))

pub returns : goal.returns
unfolding bytes_of
returns c =
    let a = c.args in
    let stored = set (set a.out.now a.at 2) (a.at + 1) a.j in
    let room : a.at + 10 ≤ length stored = simp length-set c.requires.0 in
    let next : a.at + 2 ≡ suc (suc a.at) = omega arith in
    rw (c.copy_from_slice.ensures.after ∙ c.to_le_bytes.ensures ∙ same_bytes a.row)
    (part stored (bytes_of 8 a.row) a.at refl room ∙ rw (next, add-one a.at) refl)
