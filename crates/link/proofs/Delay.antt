-- The delay of a decoder over its steps: the fill, and the oldest delayed block of the turn's stream. S is the memories
-- before each place, R the blocks taken. Nothing is asked of the first memory. Assumes nothing.
--
--   fill_complete   past m × (N − 1) steps the fill is complete
--   fill_waits      after p steps it has grown by no more than p
--   oldest          the oldest delayed block is the information received m × (N − 1) places before
--   oldest_first    or a block of the first memory, where there is no such place
use mathlib.Core.Path.{◌≡◌, sym, ap, ap₂, ◌∙◌}
use mathlib.Core.Bool.{cond}
use mathlib.Core.List.{List}
use Prim.Native.Nat.{ℕ, zero, suc, ◌+◌, ◌-◌, ◌*◌, ◌/◌, ◌%◌, ◌^◌, ◌≤◌, ◌<◌}
use native.Mathlib.Nat.{add-zero, zero-add, add-mod-mod, div-lt_iff_lt-mul, suc-mul, mul_comm, mod-lt, div-add-mod'}
use native.Mathlib.Omega.{arith}
use lib.Dec.{ltb}
use lib.ListN.{get_or}
use Rattle.link.specs.Refusals.{Answer}
use Rattle.std.specs.Prelude.{Option}
use Rattle.link.specs.declared.decode.Delivered.{Delivered}
use Rattle.link.specs.Memory.{turn_of, fill_of}
use Rattle.link.proofs.Fill as fill
use Rattle.link.proofs.Interleaving.{place-first, place-next}
use Rattle.link.proofs.Decoder.{stream_in, delayed_in}
use Rattle.link.proofs.Turn.{DecoderRun, delayed_again, delayed_first}

module _ {n N m : ℕ} {infos : List ℕ} {S : ℕ → List ℕ} {R : ℕ → ℕ} {A : ℕ → Answer (Option Delivered)} {count : ℕ}
    (l : DecoderRun n N m infos S R A count) where
  fill_on : (p : ℕ) → p < count → fill_of (S (suc p)) ≡ cond (ltb (fill_of (S p)) (m * (N - 1))) (fill_of (S p) + 1)
      (fill_of (S p))
  fill_on p h = (l.decodes p h).fill_on

  pub fill_complete : (p : ℕ) → p < count → m * (N - 1) ≤ p → m * (N - 1) ≤ fill_of (S p)
  fill_complete p h = fill.fill_complete (λ q. fill_of (S q)) (m * (N - 1)) count fill_on p (omega arith)

  pub fill_waits : (p : ℕ) → p ≤ count → fill_of (S p) ≤ fill_of (S 0) + p
  fill_waits = fill.fill_waits (λ q. fill_of (S q)) (m * (N - 1)) count fill_on

  abbrev dl : ℕ → ℕ → ℕ
  dl i p = delayed_in N (S p) i

  -- a delayed block, k blocks of its stream before
  delayed-before : (q k i : ℕ) → i + k < N - 1 → q + k * m < count → dl i (q + k * m) ≡ dl (i + k) q
  delayed-before q zero i b h =
      ap₂ dl (sym (add-zero i)) (place-first m q)
  delayed-before q (suc k) i b h =
      let step = place-next m q k in
      ap (dl i) (place-next m q k) ∙ delayed_again l i (q + k * m) (omega arith) (omega arith)
      ∙ (l.decodes (q + k * m) (omega arith)).delayed_on i (omega arith)
      ∙ delayed-before q k (suc i) (omega arith) (omega arith)
      ∙ ap (λ (j : ℕ). dl j q) (let e : suc i + k ≡ i + suc k = omega arith in e)

  pub oldest : (p q : ℕ) → p < count → q + m * (N - 1) ≡ p → dl 0 p ≡ R q % 2 ^ (n - 1)
  oldest p q h e =
      let from = (l.decodes p h).fits.N_from in
      let many : suc (N - 2) ≡ N - 1 = omega arith in
      let place : p ≡ q + m + (N - 2) * m =
      omega (arith, ap (λ (k : ℕ). k * m) many, suc-mul (N - 2) m, mul_comm m (N - 1)) in
      ap (dl 0) place ∙ delayed-before (q + m) (N - 2) 0 (omega arith) (omega arith)
      ∙ delayed_again l (0 + (N - 2)) q (omega arith) (omega arith)
      ∙ (l.decodes q (omega arith)).youngest (0 + (N - 2)) (omega arith)

  pub oldest_first : (p : ℕ) → p < count → p < m * (N - 1)
      → dl 0 p ≡ get_or (S 0) (stream_in N ((turn_of (S 0) + p) % m) + 2 + p / m) 0
  oldest_first p h early =
      let some = (l.decodes p h).turn_lt in
      let r = p % m in
      let k = p / m in
      let first : r < m = mod-lt p (omega arith) in
      let whole = div-add-mod' p m in
      let here : p ≡ r + k * m = omega arith in
      let few : k < N - 1 = (div-lt_iff_lt-mul {k = m} (omega arith)).1 (omega (arith, mul_comm m (N - 1))) in
      ap (dl 0) here ∙ delayed-before r k 0 (omega arith) (omega arith) ∙ ap (λ (i : ℕ). dl i r) (zero-add k)
      ∙ delayed_first l k r few first (omega arith)
      ∙ ap (λ (j : ℕ). get_or (S 0) (stream_in N j + 2 + k) 0) (add-mod-mod (turn_of (S 0)) p m)
