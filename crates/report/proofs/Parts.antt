-- Parts listed one after the other, and the whole listing. Assumes nothing.
use mathlib.Core.Path.{◌≡◌, refl, sym, ap, ◌∙◌}
use mathlib.Core.Bool.{Bool, true, false}
use mathlib.Core.Logic.{◌⊎◌, inl, inr}
use mathlib.Core.List.{List, [], ◌∷◌, ◌++◌, append-nil}
use Prim.Native.Nat.{ℕ, ◌%◌, ◌<◌}
use native.Mathlib.Omega.{arith}
use lib.ListN.{length}
use Rattle.tables.specs.declared.table.Table.{Table}
use Rattle.std.specs.Prelude.{Result, Ok, Err}
use Rattle.tables.specs.declared.make.MakeError.{MakeError}
use Rattle.tables.specs.Made.{make_number, making}
use Rattle.report.specs.Text.{header_line, refused_line}
use Rattle.report.specs.Listing.{Listed, prefixed, made_listing, listed, listing, continued}
use Rattle.report.specs.Opening.{opened_made, headed, opened, joined, whole_blocks, parts_listed, nothing_listed}
use Rattle.report.specs.Opening.{after_opening, ListingLaw, opening_room, ProgramRoom}
use Rattle.report.proofs.Room.{part_room_lem, listed-there}
use Rattle.report.proofs.Opens.{opened-there}
use Rattle.report.proofs.Continued.{continued-prefixed, parts}

continued-nothing : (t : Table) (l : Listed) (b : Bool) → l.stopped ≡ b → continued t l [] ≡ l
unfolding listed
continued-nothing t l true e = rw e
continued-nothing t l false e = rw (e, append-nil)

continued-twice : (t : Table) (l : Listed) (b : Bool) (p q : List ℕ) → l.stopped ≡ b → (length p % 2 ≡ 0) ⊎ (q ≡ [])
    → continued t (continued t l p) q ≡ continued t l (p ++ q)
continued-twice t l true p q e h = rw e
continued-twice t l false p q e (inl even) =
    rw e (continued-prefixed t l.text (listed t l.memory l.number p) _ q refl
    ∙ ap (prefixed l.text) (sym (parts t l.memory l.number p q even)))
continued-twice t l false p q e (inr none) =
    rw (none, append-nil) (continued-nothing t (continued t l p) _ refl)

pub parts-listed : (t : Table) (l : Listed) (ps : List (List ℕ)) → whole_blocks ps
    → parts_listed t l ps ≡ continued t l (joined ps)
parts-listed t l [] w = sym (continued-nothing t l _ refl)
parts-listed t l (p ∷ ps) w =
    parts-listed t (continued t l p) ps w.1 ∙ continued-twice t l _ p (joined ps) refl w.0

opened-listing : (a : Result Table MakeError) (parts : List (List ℕ)) → whole_blocks parts
    → let o = headed (opened_made a) in
    header_line ++ made_listing a (joined parts) ≡ o.text ++ after_opening o parts
opened-listing (Ok t) ps w =
    ap (λ (l : Listed). header_line ++ l.text) (sym (parts-listed t (nothing_listed t) ps w))
opened-listing (Err e) ps w = sym (append-nil (header_line ++ refused_line (make_number e)))

-- under two bytes there is no part
short-listing : (sizes rest : List ℕ) → length sizes < 2 → rest ≡ [] → listing (sizes ++ rest) ≡ header_line ++ []
unfolding listing
short-listing [] rest h e = rw e
short-listing (n ∷ []) rest h e = rw e
short-listing (n ∷ m ∷ bs) rest h e = absurd (omega arith)

pub whole-listing : ListingLaw
unfolding listing opened
whole-listing [] parts (inl e) w = absurd (omega arith)
whole-listing [] parts (inr e) w = short-listing [] (joined parts) e.0 e.1
whole-listing (n ∷ []) parts (inl e) w = absurd (omega arith)
whole-listing (n ∷ []) parts (inr e) w = short-listing (n ∷ []) (joined parts) e.0 e.1
whole-listing (n ∷ m ∷ []) parts h w = opened-listing (making n m) parts w
whole-listing (n ∷ m ∷ a ∷ bs) parts (inl e) w = absurd (omega arith)
whole-listing (n ∷ m ∷ a ∷ bs) parts (inr e) w = absurd (omega (arith, e.0))

pub program-room : ProgramRoom
unfolding opening_room
program-room = (
  λ sizes. opened-there 2114 86 sizes refl,
  λ t s k bs few small. listed-there t s k bs 65536 (part_room_lem k (length bs) few small),
)
