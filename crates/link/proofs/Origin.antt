-- What an accepted or a made table is to the link: its sizes, and rows that correct. Assumes nothing.
use mathlib.Core.Path.{◌≡◌, ◌∙◌, subst}
use mathlib.Core.Bool.{true}
use mathlib.Core.Logic.{inl, inr}
use mathlib.Core.List.{List, [], ◌∷◌, ◌++◌}
use Prim.Native.Nat.{ℕ, zero, suc, ◌+◌, ◌-◌, ◌≤◌}
use native.Mathlib.Omega.{arith}
use lib.ListN.{length, length-append}
use lib.Pow.{pow_mono}
use lib.Seq.{length-take-le}
use Rattle.span.specs.Combination.{Below}
use Rattle.span.proofs.Combination.{below-append}
use Rattle.tables.specs.declared.table.Table.{Table}
use Rattle.tables.specs.Code.{Suitable}
use Rattle.tables.specs.Table.{rows_of, fit, info_rows}
use Rattle.tables.proofs.Reading.{accepted-suitable}
use Rattle.tables.proofs.Made.{made}
use Rattle.link.specs.Recovery.{Origin}
use Rattle.tables.proofs.Fit.{Fits, fit-facts}
use Rattle.tables.proofs.Parsed.{parse-room}
use Rattle.tables.proofs.MadeWhole.{making-room}
use Rattle.link.proofs.Suitable.{Corrects, suitable_corrects}

pub record Known (t : Table) : Type 0 where
  pub fits : fit t ≡ true
  room : length t.rows ≡ 15
  suits : Suitable t.span (rows_of t)

pub origin-known : (t : Table) → Origin t → Known t
origin-known t (inl (bytes, accepted)) =
    let a = accepted-suitable bytes t accepted in
    record { fits = a.1; room = parse-room bytes t a.0; suits = a.2 }
origin-known t (inr (n, m, answer)) =
    let a = made n m t answer in
    record { fits = a.3; room = making-room n m t answer; suits = a.4 }

-- N = w + 1, and the information's rows, n − 1 of them, with the parity's after them
pub record Coding (t : Table) : Type 0 where
  pub sizes : Fits t.symbols t.span t.depth (info_rows t)
  pub infos : length (info_rows t) ≡ t.symbols - 1
  pub corrects : Corrects t.symbols (t.span - 1) (info_rows t ++ (1 ∷ []))

one_below : (N : ℕ) → 1 ≤ N → Below N (1 ∷ [])
one_below N h zero l = pow_mono h
one_below N h (suc i) l = absurd (omega arith)

pub below-snoc : (N : ℕ) (ws : List ℕ) → 1 ≤ N → Below N ws → Below N (ws ++ (1 ∷ []))
below-snoc N ws h below = below-append N ws (1 ∷ []) below (one_below N h)

pub origin-coding : (t : Table) → Origin t → Coding t
origin-coding t o =
    let k = origin-known t o in
    let z = fit-facts t k.fits in
    let size : length (info_rows t) ≡ t.symbols - 1 =
    length-take-le (t.symbols - 1) t.rows (let r = k.room in omega arith) in
    let N : t.span ≡ suc (t.span - 1) = omega arith in
    record {
      sizes = z;
      infos = size;
      corrects =
          suitable_corrects (t.span - 1) (rows_of t) (omega arith)
          (subst (λ (x : ℕ). Suitable x (rows_of t)) N k.suits) t.symbols
          (length-append (info_rows t) (1 ∷ []) ∙ (let e : length (info_rows t) + 1 ≡ t.symbols = omega arith in e))
          (subst (λ (x : ℕ). Below x (rows_of t)) N (below-snoc t.span (info_rows t) (omega arith) z.below));
    }
