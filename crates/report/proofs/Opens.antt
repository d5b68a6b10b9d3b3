-- The opening: after the header, and as a whole. Assumes nothing.
use mathlib.Core.Path.{◌≡◌, refl, ◌∙◌}
use mathlib.Core.Bool.{true, false}
use mathlib.Core.List.{List, [], ◌∷◌}
use Prim.Native.Nat.{ℕ, ◌+◌, ◌*◌, ◌≤◌, ◌<◌}
use native.Mathlib.Omega.{arith}
use borrow.Author.Tests.{leb-true}
use lib.Dec.{leb}
use lib.ListN.{length, get_or}
use Rattle.tables.specs.declared.table.Table.{Table}
use Rattle.std.specs.Prelude.{Option, None, Ok}
use Rattle.tables.specs.Table.{fit}
use Rattle.tables.specs.Made.{making}
use Rattle.tables.proofs.Fit.{fit-facts}
use Rattle.tables.proofs.Made.{made}
use Rattle.report.specs.declared.opening.Decoder.{Decoder}
use Rattle.report.specs.declared.text.Lines.{Lines}
use Rattle.report.specs.Text.{header_line}
use Rattle.report.specs.Writing.{Pushes, longest}
use Rattle.report.specs.Opening.{opened_made, headed, opened, memory_words, opening_room, opened_decoder, opened_memory}
use Rattle.report.specs.Opening.{opened_within, Opens}
use Rattle.report.proofs.Written.{wrote_nothing, pushes_then}
use Rattle.report.proofs.Room.{both}

-- after the header

pub made-fits : (n m : ℕ) (t : Table) → making n m ≡ Ok t → (fit t ≡ true) × (t.span ≤ 32)
made-fits n m t e =
    let l = made n m t e in
    let f = fit-facts t l.3 in
    (l.3, omega (arith, l.0, l.1, f.n_to))

-- the whole opening, without room and with

pub room-there : (words bytes : ℕ) → opening_room words bytes ≡ true → (memory_words ≤ words) × (2 * longest ≤ bytes)
unfolding opening_room
room-there words bytes h =
    let e = both (leb memory_words words) (leb (2 * longest) bytes) h in
    (leb-true memory_words words e.0, leb-true (2 * longest) bytes e.1)

pub opens-nowhere : {out' : List ℕ} (s out sizes : List ℕ) → opening_room (length s) (length out) ≡ false → out' ≡ out
    → Opens (opened_within (length s) (length out) sizes) s s out out' (record { end = 0; decoder = None })
unfolding opened_within
opens-nowhere s out sizes h same =
    rw (h, opened_within, same) (record { wrote = wrote_nothing out 0; decoder = refl; memory = refl })

pub opened-there : (words bytes : ℕ) (sizes : List ℕ) → opening_room words bytes ≡ true
    → opened_within words bytes sizes ≡ opened sizes
unfolding opened_within
opened-there words bytes sizes h = rw (h, opened_within)

opened-short : (sizes : List ℕ) → length sizes < 2 → opened sizes ≡ record { text = header_line; table = None }
unfolding opened
opened-short [] h = refl
opened-short (n ∷ []) h = refl
opened-short (n ∷ m ∷ bs) h = absurd (omega arith)

-- the lines begin at the start of the lent bytes, which come back with them
pub opens-short : {l₀ l₁ : Lines} {out' : List ℕ} (s out sizes : List ℕ) → l₀.bytes.now ≡ out → l₀.end ≡ 0
    → opening_room (length s) (length out) ≡ true → length sizes < 2
    → Pushes header_line l₀ l₁ → out' ≡ l₁.bytes.now
    → Opens (opened_within (length s) (length out) sizes) s s out out' (record { end = l₁.end; decoder = None })
opens-short s out sizes lent start room h p same =
    rw (opened-there (length s) (length out) sizes room ∙ opened-short sizes h, same)
    (record { wrote = rw (lent, start) at p.wrote; decoder = refl; memory = refl })

opened-sizes : (sizes : List ℕ) → 2 ≤ length sizes
    → opened sizes ≡ headed (opened_made (making (get_or sizes 0 0) (get_or sizes 1 0)))
unfolding opened
opened-sizes [] h = absurd (omega arith)
opened-sizes (n ∷ []) h = absurd (omega arith)
opened-sizes (n ∷ m ∷ bs) h = refl

pub opens-sizes : {l₀ l₁ l₂ : Lines} {s' out' : List ℕ} {decoder : Option Decoder} (s out sizes : List ℕ)
    → l₀.bytes.now ≡ out → l₀.end ≡ 0 → opening_room (length s) (length out) ≡ true → 2 ≤ length sizes
    → let o = opened_made (making (get_or sizes 0 0) (get_or sizes 1 0)) in
    Pushes header_line l₀ l₁ → Pushes o.text l₁ l₂ → decoder ≡ opened_decoder o → s' ≡ opened_memory o s
    → l₀.end + length header_line ≤ length l₀.bytes.now → out' ≡ l₂.bytes.now
    → Opens (opened_within (length s) (length out) sizes) s s' out out' (record { end = l₂.end; decoder = decoder })
opens-sizes s out sizes lent start room h p q d m fits same =
    let o = opened_made (making (get_or sizes 0 0) (get_or sizes 1 0)) in
    let w = pushes_then header_line o.text p q fits in
    rw (opened-there (length s) (length out) sizes room ∙ opened-sizes sizes h, same)
    (record { wrote = rw (lent, start) at w.wrote; decoder = d; memory = m })
