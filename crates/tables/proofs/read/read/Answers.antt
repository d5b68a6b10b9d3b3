use mathlib.Core.Path.{◌≡◌, refl, sym, ap, ◌∙◌}
use mathlib.Core.Logic.{◌≢◌}
use mathlib.Core.List.{List}
use Prim.Native.Nat.{ℕ, ◌+◌, ◌-◌, ◌≤◌}
use native.Mathlib.Omega.{arith}
use lib.ListN.{length, take, drop, length-drop}
use lib.Seq.{take_all}
use Rattle.std.specs.Prelude.{Err}
use Rattle.tables.specs.declared.read.Kind.{Kind}
use Rattle.tables.specs.declared.read.Progress.{Progress}
use Rattle.tables.specs.declared.read.Kind.TheVariants.{End, Sizes, Row}
use Rattle.tables.specs.Format.{kind, kind_of, kind_number, size, fault, fault_number, place, refused, parsed, parse}
use Rattle.tables.proofs.Format.{fault-sound, sound-whole, size-some, reaches-start, reaches-refused}
use Rattle.tables.proofs.Format.{reaches_done, reaches_next, checked-ok, checked-err, kind-number, Sound, sizes, row, end}
use Rattle.tables.proofs.Progress.{good-begun, good-after, good-bounds, parse-fit}
use Rattle.tables.proofs.Reading.{fault-range, number-of, read_by}
use Rattle.tables.proofs.read.read.Goals as goal
use Rattle.tables.proofs.read.read.Goals.{In-Ok, In_default, After-size-at}

pub loop-fault-init : goal.loop-fault-init
loop-fault-init c = rw c.zero_table.ensures (omega arith, good-begun, reaches-start c.args.bytes.now)

pub sound-requires : goal.sound-requires
sound-requires c = good-bounds c.loop-fault.g c.loop-fault.invariant.1

-- the rest of the bytes
whole : (bytes : List ℕ) (at : ℕ) → take (length bytes - at) (drop at bytes) ≡ drop at bytes
whole bytes at = take_all (length bytes - at) (drop at bytes) (let n = length-drop at bytes in omega arith)

pub returns-in-Err : goal.returns-in-Err
returns-in-Err c =
    let bytes = c.args.bytes.now in
    let l = c.loop-fault in
    let s = drop l.at bytes in
    let said = rw (whole bytes l.at) at (sym c.sound.ensures ∙ c.in-Err.is) in
    let f = checked-err (fault l.g s) (kind_of (kind s)) c.in-Err.fault said in
    let range = fault-range l.g s f.0 in
    let same : fault_number c.in-Err.fault ≡ fault l.g s =
    ap fault_number f.1 ∙ number-of (fault l.g s) range.0 (omega arith) in
    read_by bytes (refused (fault l.g s) (place (fault l.g s) l.at)) _
    (reaches-refused bytes l.at l.g l.invariant.2 f.0)
    (ap Err c.refusal.ensures ∙ rw (same, f.1))

-- a sound record has one of the kinds
kind-small : (g : Progress) (s : List ℕ) → Sound g s → kind s ≤ 2
kind-small g s (sizes k h n f) = omega arith
kind-small g s (row k h f w) = omega arith
kind-small g s (end k h n a) = omega arith

-- what is said of a record that has no fault
module _ (c : goal.In-Ok) where
  abbrev here : List ℕ
  here = drop c.loop-fault.at c.args.bytes.now

  none : (fault c.loop-fault.g here ≡ 0) × (kind_of (kind here) ≡ c.in-Ok.kind)
  none =
      let said = rw (whole c.args.bytes.now c.loop-fault.at) at (sym c.sound.ensures ∙ c.in-Ok.is) in
      checked-ok (fault c.loop-fault.g here) (kind_of (kind here)) c.in-Ok.kind said

  sound : Sound c.loop-fault.g here
  sound = fault-sound c.loop-fault.g here none.0

  told : kind here ≡ kind_number c.in-Ok.kind
  told = sym (kind-number (kind here) (kind-small c.loop-fault.g here sound)) ∙ ap kind_number none.1

  some : c.loop-fault.at + size (kind here) ≤ length c.args.bytes.now
  some =
      let w = sound-whole c.loop-fault.g here sound in
      let len = length-drop c.loop-fault.at c.args.bytes.now in
      let one = size-some (kind here) in
      omega arith

-- of an end record, the bytes say the table that the loop has
says : (c : goal.In-Ok) → c.in-Ok.kind ≡ End → parse c.args.bytes.now ≡ parsed c.loop-fault.g.table
says c e =
    let l = c.loop-fault in
    let i = some c in
    let one = size-some (kind (here c)) in
    reaches_done c.args.bytes.now l.at l.g l.invariant.2 (omega arith) (none c).0 (told c ∙ ap kind_number e)

pub judged-requires : goal.judged-requires
judged-requires c = parse-fit _ c.loop-fault.g.table (says (goal.at.judged-requires c).In-Ok c.in-End.is)

pub returns-in-End : goal.returns-in-End
returns-in-End c = read_by _ _ c.judged.result (says (goal.at.returns-in-End c).In-Ok c.in-End.is) c.judged.ensures

-- any other kind has another number
other : (k : Kind) → (k ≡ End → ⊥) → kind_number k ≢ 0
other End n e = n refl
other Sizes n e = absurd (omega arith)
other Row n e = absurd (omega arith)

goes_on : (c : goal.In-Ok) → (c.in-Ok.kind ≡ End → ⊥) → kind (here c) ≢ 0
goes_on c n e = other c.in-Ok.kind n (sym (told c) ∙ e)

pub after-requires : goal.after-requires
after-requires c =
    let at = goal.at.after-requires c in
    let i = at.In-Ok in
    let b = good-bounds c.loop-fault.g c.loop-fault.invariant.1 in
    rw (whole c.args.bytes.now c.loop-fault.at) (b.0, (none i).0, goes_on i at.In_default.in_default.not-End, told i)

-- the next record begins where this one ends
long : (c : goal.After-size-at) → c.size-at.result ≡ size (kind (here (goal.at.overflow_add-at c).In-Ok))
long c = c.size-at.ensures ∙ ap size (sym (told (goal.at.overflow_add-at c).In-Ok))

pub overflow_add-at : goal.overflow_add-at
overflow_add-at c =
    let i = some (goal.at.overflow_add-at c).In-Ok in
    let n = long c in
    omega arith

pub loop-fault-smaller : goal.loop-fault-smaller
loop-fault-smaller c =
    let t = (goal.at.loop-fault-smaller c).In-Ok in
    let i = some t in
    let n = long c in
    let one = size-some (kind (here t)) in
    omega arith

pub loop-fault-preserved : goal.loop-fault-preserved
loop-fault-preserved c =
    let l = c.loop-fault in
    let t = (goal.at.loop-fault-preserved c).In-Ok in
    let d = goes_on t (goal.at.loop-fault-preserved c).In_default.in_default.not-End in
    let i = some t in
    let n = long c in
    let one = size-some (kind (here t)) in
    let next = rw (whole c.args.bytes.now l.at) at c.after.ensures in (
      omega arith,
      rw next (good-after l.g (here t) l.invariant.1 (sound t) d),
      rw (next, n) (reaches_next c.args.bytes.now l.at l.g l.invariant.2 (omega arith) (none t).0 d),
    )
