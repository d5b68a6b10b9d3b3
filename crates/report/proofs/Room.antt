-- Room for a part's lines. Assumes nothing.
use mathlib.Core.Path.{◌≡◌, refl, sym, ap₂, ◌∙◌}
use mathlib.Core.Bool.{Bool, true, false, ◌&&◌}
use mathlib.Core.List.{List, []}
use Prim.Native.Nat.{ℕ, ◌+◌, ◌*◌, ◌/◌, ◌^◌, ◌≤◌}
use native.Mathlib.Omega.{arith}
use borrow.Author.Tests.{le-leb, lt-leb, leb-true, leb-false}
use lib.Dec.{leb}
use lib.ListN.{length}
use Rattle.std.specs.declared.ops.ControlFlow.{ControlFlow}
use Rattle.std.specs.declared.ops.ControlFlow.TheVariants.{Break}
use Rattle.tables.specs.declared.table.Table.{Table}
use Rattle.report.specs.Writing.{longest}
use Rattle.report.specs.Listing.{part_room, part_listed, listed, Lists}
use Rattle.report.proofs.Written.{wrote_nothing}

pub room_divided : (n room : ℕ) → leb n (room / 43) ≡ leb (longest * n) room
room_divided n room = go (leb n (room / 43)) refl
  where
    go : (b : Bool) → leb n (room / 43) ≡ b → leb n (room / 43) ≡ leb (longest * n) room
    go true e = e ∙ sym (le-leb (longest * n) room (omega (arith, leb-true n (room / 43) e)))
    go false e = e ∙ sym (lt-leb (longest * n) room (omega (arith, leb-false n (room / 43) e)))

pub both : (a b : Bool) → a && b ≡ true → (a ≡ true) × (b ≡ true)
both true true e = (refl, refl)
both true false e = let z : ◌≡◌ {A = Bool} false true = e in absurd (let y : ◌≡◌ {A = ℕ} 0 1 = cc in omega arith)
both false b e = let z : ◌≡◌ {A = Bool} false true = e in absurd (let y : ◌≡◌ {A = ℕ} 0 1 = cc in omega arith)

pub room-there : (k bytes room : ℕ) → part_room k bytes room ≡ true → (k ≤ 2 ^ 63) × (longest * (bytes / 2 + 1) ≤ room)
unfolding part_room
room-there k bytes room h =
    let e = both (leb k (2 ^ 63)) (leb (longest * (bytes / 2 + 1)) room) h in
    (leb-true k (2 ^ 63) e.0, leb-true (longest * (bytes / 2 + 1)) room e.1)

pub part_room_lem : (k bytes : ℕ) → k ≤ 2 ^ 63 → bytes ≤ 2048 → part_room k bytes 65536 ≡ true
unfolding part_room
part_room_lem k bytes few small =
    ap₂ ◌&&◌ (le-leb k (2 ^ 63) few) (le-leb (longest * (bytes / 2 + 1)) 65536 (omega arith))

pub listed-there : (t : Table) (s : List ℕ) (k : ℕ) (bs : List ℕ) (room : ℕ) → part_room k (length bs) room ≡ true
    → part_listed t s k bs room ≡ listed t s k bs
unfolding part_listed
listed-there t s k bs room h = rw (h, part_listed)

pub listed-nowhere : {r : List ℕ} (t : Table) (s : List ℕ) (k : ℕ) (bs out : List ℕ)
    → part_room k (length bs) (length out) ≡ false → r ≡ out
    → Lists (part_listed t s k bs (length out)) out r s 0 (Break k)
unfolding part_listed
listed-nowhere t s k bs out h same =
    let e : part_listed t s k bs (length out) ≡ record { text = []; memory = s; number = k; stopped = true } =
    rw (h, part_listed) in
    rw (e, same) (record { wrote = wrote_nothing out 0; left = refl; counted = refl })

-- with room it is the listing, written into the bytes that come back
pub listed-somewhere : {r r' s' : List ℕ} {end : ℕ} {next : ControlFlow ℕ ℕ} (t : Table) (s : List ℕ) (k : ℕ)
    (bs out : List ℕ) → part_room k (length bs) (length out) ≡ true → r ≡ r'
    → Lists (listed t s k bs) out r' s' end next → Lists (part_listed t s k bs (length out)) out r s' end next
listed-somewhere t s k bs out h same l = rw (listed-there t s k bs (length out) h, same) l
