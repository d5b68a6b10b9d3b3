-- The guard over runs: a stream begun N − 1 + i blocks before a place; and its end. Assumes nothing.
use mathlib.Core.Path.{◌≡◌, sym, ap, ◌∙◌, subst}
use mathlib.Core.List.{List}
use Prim.Native.Nat.{ℕ, zero, suc, ◌+◌, ◌-◌, ◌*◌, ◌^◌, ◌≤◌, ◌<◌}
use native.Mathlib.Nat.{add-mul, suc-mul, mul_comm, mul_assoc, mul-le-mul_right}
use native.Mathlib.Omega.{arith}
use lib.ListN.{length, get_or}
use Rattle.tables.specs.declared.table.Table.{Table}
use Rattle.link.specs.Memory.{turn_of, syndrome_of, delay_of}
use Rattle.link.specs.Refusals.{decoder_fault}
use Rattle.link.specs.Runs.{Call, Sent, Taken, sent_by, taken_by, sent_at, DecoderTables, placed}
use Rattle.link.specs.Recovery.{Right}
use Rattle.link.specs.Guard.{syndrome_entry, syndromes_by, syndrome_at, GuardLaw, GuardEnd, GuardEndStream}
use Rattle.link.proofs.Runs.{decoder_before, taken-place, decoder-placed}
use Rattle.link.proofs.OneTable.{from_one, taken_table}
use Rattle.link.proofs.Fade.{Settles, guarded, settles}
use Rattle.link.proofs.Recovery.{answer, linked}

-- the syndrome word that the list of them has at a place
syndrome-taken : (t : Table) (s : List ℕ) (ds : List Call) → DecoderTables t s ds → (p : ℕ) → p < length (taken_by s ds)
    → syndrome_at (syndromes_by s ds) (suc p) ≡ syndrome_of t (decoder_before s ds p) (turn_of (decoder_before s ds p))
syndrome-taken t s ds tables p h =
    let M = decoder_before s ds p in
    ap (λ (k : ℕ). get_or (syndromes_by s ds) k 0) (from_one p)
    ∙ (taken-place s ds p h).is (placed decoder_fault syndrome_entry) syndrome_entry (decoder-placed syndrome_entry) 0
    ∙ ap (λ (N : ℕ). get_or M (2 + turn_of M * (N + 1) + 1) 0) (taken_table t s ds tables p h).span

-- a block of the stream of place p, counted from its block r, and from p backwards
right-after : (sent : List Sent) (taken : List Taken) (m p r last : ℕ) → r + last * m ≡ p → (k : ℕ) → k ≤ last
    → Right sent taken (suc p - (last - k) * m) → Right sent taken (suc (r + k * m))
right-after sent taken m p r last at k b =
    let back = last - k in
    let whole : back + k ≡ last = omega arith in
    subst (Right sent taken) (omega (arith, ap (λ (x : ℕ). x * m) whole, add-mul back k m))

pub guard : GuardLaw
guard t coder decoder cs ds f zero i few from to right = absurd (omega arith)
guard t coder decoder cs ds f (suc p) i few from to right =
    let w = t.span - 1 in
    let m = t.depth in
    let r = p - (w + i) * m in
    let here : r + (w + i) * m ≡ p = omega arith in
    let g = guarded (linked f) r i (w - i) (omega arith) (omega arith)
    (λ k b.
    right-after (sent_by coder cs) (taken_by decoder ds) m p r (w + i) here k (omega arith)
    (right (w + i - k) (omega arith) (omega arith))) in
    subst (λ (x : ℕ). x < 2 ^ (w - i)) (sym (syndrome-taken t decoder ds f.decoder_tables p (omega arith)))
    (subst (λ (q : ℕ). syndrome_of t (decoder_before decoder ds q) (turn_of (decoder_before decoder ds q)) < 2 ^ (w - i))
    here g.1)

-- ---- the end of the guard

pub guard-end-stream : GuardEndStream
guard-end-stream t coder decoder cs ds f zero from to right = absurd (omega arith)
guard-end-stream t coder decoder cs ds f (suc p) from to right =
    let N = t.span in
    let m = t.depth in
    let two = (linked f).N_from in
    let last = N - 1 + (N - 2) in
    let count : 2 * (N - 1) - 1 ≡ last = omega arith in
    let r = p - last * m in
    let here : r + last * m ≡ p = omega (arith, ap (λ (x : ℕ). x * m) count) in
    let long : (N - 1) * m ≤ last * m = mul-le-mul_right m (omega arith) in
    let late : delay_of t ≤ p = omega (arith, mul_comm m (N - 1)) in
    subst (λ (x : ℕ). Settles t.symbols (answer f p) (sent_at (sent_by coder cs) x).info)
    (let e : suc (p - delay_of t) ≡ suc p - delay_of t = omega arith in e)
    (settles (linked f) r p here (omega arith)
    (λ k b.
    right-after (sent_by coder cs) (taken_by decoder ds) m p r last here k b (right (last - k) (omega arith)))
    (p - delay_of t) (omega arith))

-- the guard has 2 × (N − 1) blocks of each stream
pub guard_end : GuardEnd
guard_end t coder decoder cs ds f p late early h =
    let N = t.span in
    let m = t.depth in
    let two = (linked f.running).N_from in
    let most = 2 * (N - 1) - 1 in
    let next : suc most ≡ 2 * (N - 1) = omega arith in
    let all : most * m + m ≡ 2 * delay_of t =
    sym (suc-mul most m) ∙ ap (λ (x : ℕ). x * m) next ∙ mul_assoc 2 (N - 1) m
    ∙ ap (λ (x : ℕ). 2 * x) (mul_comm (N - 1) m) in
    guard-end-stream t coder decoder cs ds f.running p (omega arith) h
    (λ k b.
    let within : k ≤ most = omega arith in
    let past = mul-le-mul_right m within in
    f.guard (p - k * m) (omega arith) (omega arith) (omega arith))
