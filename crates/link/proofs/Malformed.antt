-- The condition of 14 taken apart: it does not apply exactly if turn and fill are within their bounds, and the words of
-- the turn's stream below theirs. Assumes nothing.
--
--   above-none, above-or     the ones of words together, of no word and of one more
--   above-together           and of a part of the words
--   some-none, none_above    no word is above a bound
--   coder-fine, fine-coder   the coder's
--   Fine, decoder-fine, fine-decoder   the decoder's
use mathlib.Core.Path.{◌≡◌, refl, sym, ap, subst, ◌∙◌}
use mathlib.Core.Bool.{Bool, false, ◌||◌}
use mathlib.Core.List.{List}
use Prim.Native.Nat.{ℕ, zero, suc, ◌+◌, ◌-◌, ◌^◌, ◌≤◌, ◌<◌}
use native.Mathlib.Numerals.{add-one}
use native.Mathlib.Decide.{ℕ_discrete}
use native.Mathlib.Omega.{arith}
use borrow.Author.Tests.{leb-false, ltb-false, lt-leb, le-ltb}
use lib.Bits.{bit_or}
use lib.Dec.{leb, ltb}
use lib.ListN.{get_or}
use lib.Pow.{pow_pos}
use Rattle.span.specs.Dual.{together}
use Rattle.span.proofs.Masks.{or_above}
use Rattle.tables.specs.declared.table.Table.{Table}
use Rattle.link.specs.Memory.{turn_of, fill_of, delay_of, stream_at, pending_at, pending_of, syndrome_of, delayed_of}
use Rattle.link.specs.Memory.{delayed_bound}
use Rattle.link.specs.Refusals.{some_above, coder_malformed, decoder_malformed}
use Rattle.link.proofs.Refusals.{or-none, none_or}

pub above-none : (k : ℕ) (s : List ℕ) (from : ℕ) → leb (2 ^ k) 0 ≡ some_above (2 ^ k) s from 0
unfolding some_above
above-none k s from = let p = pow_pos k in lt-leb (2 ^ k) 0 (omega arith)

pub above-or : (k seen : ℕ) (s : List ℕ) (from i : ℕ) → leb (2 ^ k) seen ≡ some_above (2 ^ k) s from i
    → leb (2 ^ k) (bit_or seen (get_or s (from + i) 0)) ≡ some_above (2 ^ k) s from (i + 1)
unfolding some_above
above-or k seen s from i e =
    let w = get_or s (from + i) 0 in
    or_above k seen w ∙ ap (λ (b : Bool). b || leb (2 ^ k) w) e ∙ ap (some_above (2 ^ k) s from) (sym (add-one i))

pub above-together : (k : ℕ) (part s : List ℕ) (from i : ℕ)
    → ((j : ℕ) → j < i → get_or part j 0 ≡ get_or s (from + j) 0)
    → leb (2 ^ k) (together part i) ≡ some_above (2 ^ k) s from i
unfolding together
above-together k part s from zero e = above-none k s from
above-together k part s from (suc i) e =
    ap (λ (w : ℕ). leb (2 ^ k) (bit_or (together part i) w)) (e i (omega arith))
    ∙ above-or k (together part i) s from i (above-together k part s from i (λ j h. e j (omega arith)))
    ∙ ap (some_above (2 ^ k) s from) (add-one i)

-- no word is above the bound, and the other way round
pub some-none : (bound : ℕ) (s : List ℕ) (from i : ℕ) → some_above bound s from i ≡ false → (j : ℕ) → j < i
    → get_or s (from + j) 0 < bound
unfolding some_above
some-none bound s from zero e j h = absurd (omega arith)
some-none bound s from (suc i) e j h =
    let b = or-none (some_above bound s from i) (leb bound (get_or s (from + i) 0)) e in
    go (ℕ_discrete j i) (leb-false bound (get_or s (from + i) 0) b.1) (some-none bound s from i b.0 j)
  where
    go : Dec (j ≡ i) → get_or s (from + i) 0 < bound → (j < i → get_or s (from + j) 0 < bound) → get_or s (from + j) 0 < bound
    go (yes q) last rest = subst (λ (k : ℕ). get_or s (from + k) 0 < bound) (sym q) last
    go (no q) last rest = rest (omega arith)

pub none_above : (bound : ℕ) (s : List ℕ) (from i : ℕ) → ((j : ℕ) → j < i → get_or s (from + j) 0 < bound)
    → some_above bound s from i ≡ false
unfolding some_above
none_above bound s from zero h = refl
none_above bound s from (suc i) h =
    none_or _ _ (none_above bound s from i (λ j l. h j (omega arith)))
    (lt-leb bound (get_or s (from + i) 0) (h i (omega arith)))

-- ---- the coder's memory

pub coder-fine : (t : Table) (s : List ℕ) → turn_of s < t.depth → pending_at s (turn_of s) < 2 ^ (t.span - 1)
    → coder_malformed t s ≡ false
coder-fine t s turn pending =
    none_or _ _ (lt-leb t.depth (turn_of s) turn) (lt-leb (2 ^ (t.span - 1)) (pending_at s (turn_of s)) pending)

pub fine-coder : (t : Table) (s : List ℕ) → coder_malformed t s ≡ false
    → (turn_of s < t.depth) × (pending_at s (turn_of s) < 2 ^ (t.span - 1))
fine-coder t s e =
    let g = or-none (leb t.depth (turn_of s)) (leb (2 ^ (t.span - 1)) (pending_at s (turn_of s))) e in
    (leb-false t.depth (turn_of s) g.0, leb-false (2 ^ (t.span - 1)) (pending_at s (turn_of s)) g.1)

-- ---- the decoder's memory

-- the words of the stream that has its turn
pub record Fine (t : Table) (s : List ℕ) (k : ℕ) : Type 0 where
  pub turn : k < t.depth
  pub fill : fill_of s ≤ delay_of t
  pub pending : pending_of t s k < 2 ^ (t.span - 1)
  pub syndrome : syndrome_of t s k < 2 ^ (t.span - 1)
  pub delayed : (i : ℕ) → i < t.span - 1 → delayed_of t s k i < delayed_bound t

pub decoder-fine : (t : Table) (s : List ℕ) → Fine t s (turn_of s) → decoder_malformed t s ≡ false
decoder-fine t s f =
    none_or _ _
    (none_or _ _
    (none_or _ _
    (none_or _ _ (lt-leb t.depth (turn_of s) f.turn) (le-ltb (delay_of t) (fill_of s) f.fill))
    (lt-leb (2 ^ (t.span - 1)) (pending_of t s (turn_of s)) f.pending))
    (lt-leb (2 ^ (t.span - 1)) (syndrome_of t s (turn_of s)) f.syndrome))
    (none_above (delayed_bound t) s (stream_at t (turn_of s) + 2) (t.span - 1) f.delayed)

pub fine-decoder : (t : Table) (s : List ℕ) → decoder_malformed t s ≡ false → Fine t s (turn_of s)
fine-decoder t s e =
    let N = t.span in
    let k = turn_of s in
    let g4 = or-none (leb t.depth k || ltb (delay_of t) (fill_of s) || leb (2 ^ (N - 1)) (pending_of t s k)
    || leb (2 ^ (N - 1)) (syndrome_of t s k))
    (some_above (delayed_bound t) s (stream_at t k + 2) (N - 1)) e in
    let g3 = or-none (leb t.depth k || ltb (delay_of t) (fill_of s) || leb (2 ^ (N - 1)) (pending_of t s k))
    (leb (2 ^ (N - 1)) (syndrome_of t s k)) g4.0 in
    let g2 = or-none (leb t.depth k || ltb (delay_of t) (fill_of s)) (leb (2 ^ (N - 1)) (pending_of t s k)) g3.0 in
    let g1 = or-none (leb t.depth k) (ltb (delay_of t) (fill_of s)) g2.0 in
    record {
      turn = leb-false t.depth k g1.0;
      fill = ltb-false (delay_of t) (fill_of s) g1.1;
      pending = leb-false (2 ^ (N - 1)) (pending_of t s k) g2.1;
      syndrome = leb-false (2 ^ (N - 1)) (syndrome_of t s k) g3.1;
      delayed = some-none (delayed_bound t) s (stream_at t k + 2) (N - 1) g4.1;
    }
