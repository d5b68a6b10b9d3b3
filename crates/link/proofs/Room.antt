-- Where the turn's stream lies in a decoder memory that passed the tests of a step, and what the tests say of its
-- words. Assumes nothing.
--
--   fit-room    a fit table's memory has at most 4162 words
--   turn-room   the turn's part lies inside
--   oldest_lt   the oldest delayed block is below its bound
--   fit_fields  the sizes of a table that was found fit
use mathlib.Core.Bool.{true}
use mathlib.Core.Path.{◌≡◌}
use mathlib.Core.List.{List}
use Prim.Native.Nat.{ℕ, ◌+◌, ◌-◌, ◌≤◌, ◌<◌}
use native.Mathlib.Nat.{mul-le-mul_right, suc-mul}
use native.Mathlib.Omega.{arith}
use Rattle.tables.specs.declared.table.Table.{Table}
use Rattle.tables.specs.Table.{fit}
use Rattle.tables.specs.Lent.{with_rows}
use Rattle.tables.proofs.Fit.{fit-facts}
use Rattle.link.specs.Memory.{turn_of, decoder_words, delay_of, stream_at, delayed_of, delayed_bound}
use Rattle.link.proofs.Decoder.{DecoderTaken}

pub fit-room : (t : Table) → t.span ≤ 64 → t.depth ≤ 64 → (decoder_words t ≤ 4162) × (delay_of t ≤ 4096)
fit-room t N_to m_to =
    let a = mul-le-mul_right (t.span + 1) m_to in
    let b = mul-le-mul_right (t.span - 1) m_to in
    (omega arith, omega arith)

pub turn-room : (t : Table) (k : ℕ) → k < t.depth → stream_at t k + (t.span + 1) ≤ decoder_words t
turn-room t k h = omega (arith, mul-le-mul_right (t.span + 1) h, suc-mul k (t.span + 1))

pub oldest_lt : (t : Table) (s : List ℕ) (r : ℕ) → DecoderTaken t s r → delayed_of t s (turn_of s) 0 < delayed_bound t
oldest_lt t s r k = k.fine.delayed 0 (let z = k.sizes.N_from in omega arith)

-- what a table that was found fit says of itself
pub fit_fields : (t : Table) (rows : List ℕ) → fit (with_rows t rows) ≡ true
    → (2 ≤ t.symbols) × (t.symbols ≤ 16) × (2 ≤ t.span) × (t.span ≤ 64) × (1 ≤ t.depth) × (t.depth ≤ 64)
fit_fields t rows f =
    let z = fit-facts (with_rows t rows) f in
    (z.n_from, z.n_to, z.N_from, z.N_to, z.m_from, z.m_to)
