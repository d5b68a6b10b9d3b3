-- `link::decode::advance`: two words written, and the delayed blocks moved. Assumes nothing.
use mathlib.Core.Path.{◌≡◌, refl, ap, ◌∙◌}
use mathlib.Core.List.{List, [], ◌∷◌, ◌++◌}
use Prim.Native.Nat.{ℕ, ◌/◌, ◌≤◌}
use native.Mathlib.Omega.{arith}
use lib.ListN.{length, set, drop, length-set, length-append, length-drop}
use Rattle.link.specs.Memory.{pushed}
use Rattle.link.proofs.Memory.{pushed-some}
use Rattle.link.proofs.decode.advance.Goals as goal

moved : (part last : List ℕ) (a b y : ℕ) → 3 ≤ length part → last ≡ pushed 2 y (set (set part 0 a) 1 b)
    → last ≡ a ∷ b ∷ (drop 3 part ++ (y ∷ []))
moved [] last a b y h e = absurd (omega arith)
moved (u ∷ []) last a b y h e = absurd (omega arith)
moved (u ∷ v ∷ part) last a b y h e = e ∙ pushed-some 2 y (a ∷ b ∷ part) (omega arith)

pub bounds-part-1 : goal.bounds-part-1
bounds-part-1 c = simp length-set (omega arith)

-- the part as it comes back
part-next : (c : goal.After-slice_known-3-1)
    → let a = c.args in
    c.push.new.words ≡ a.w / 2 ∷ a.kept ∷ (drop 3 a.part.now ++ (a.youngest ∷ []))
part-next c =
    let a = c.args in
    let p = c.push in
    moved a.part.now p.new.words (a.w / 2) a.kept a.youngest c.requires p.ensures

pub shape_of-part : goal.shape_of-part
shape_of-part c =
    let a = c.args in
    let l = length-append (drop 3 a.part.now) (a.youngest ∷ []) in
    let d = length-drop 3 a.part.now in
    ap length (part-next c) ∙ omega arith

pub returns : goal.returns
returns c = record { oldest = refl; part = part-next c }
