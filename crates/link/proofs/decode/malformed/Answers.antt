-- `link::decode::malformed`: turn, fill, and the words of the turn's stream. Assumes nothing.
use mathlib.Core.Path.{◌≡◌, sym, ap, ap₂, ◌∙◌}
use mathlib.Core.Bool.{Bool, ◌||◌}
use mathlib.Core.List.{List}
use Prim.Native.Nat.{ℕ, ◌+◌, ◌-◌, ◌^◌, ◌≤◌, ◌<◌}
use native.Mathlib.Omega.{arith}
use borrow.Author.Tests.{le-leb, lt-leb, lt-ltb, le-ltb}
use lib.Dec.{leb}
use Rattle.tables.specs.declared.table.Table.{Table}
use Rattle.link.specs.Memory.{turn_of, fill_of, delay_of, stream_at, pending_of, syndrome_of, delayed_bound}
use Rattle.link.specs.Fit.{table_of}
use Rattle.link.specs.Refusals.{some_above, decoder_malformed}
use Rattle.link.proofs.decode.malformed.Goals as goal
use Rattle.link.proofs.decode.malformed.Goals.{Start}

-- a turn and a fill within their bounds leave the words of the turn's stream to test
late : (t : Table) (s : List ℕ) (r : Bool) → turn_of s < t.depth → fill_of s ≤ delay_of t
    → r
    ≡ leb (2 ^ (t.span - 1)) (pending_of t s (turn_of s)) || leb (2 ^ (t.span - 1)) (syndrome_of t s (turn_of s))
    || some_above (delayed_bound t) s (stream_at t (turn_of s) + 2) (t.span - 1)
    → r ≡ decoder_malformed t s
late t s r turn fill e =
    e
    ∙ ap
    (λ (b : Bool). b || leb (2 ^ (t.span - 1)) (pending_of t s (turn_of s)) || leb (2 ^ (t.span - 1))
    (syndrome_of t s (turn_of s)) || some_above (delayed_bound t) s (stream_at t (turn_of s) + 2) (t.span - 1))
    (sym (ap₂ ◌||◌ (lt-leb t.depth (turn_of s) turn) (le-ltb (delay_of t) (fill_of s) fill)))

pub returns-then-t-turn : goal.returns-then-t-turn
returns-then-t-turn c = simp (le-leb _ _ c.if-t-turn.true)

pub returns-then-delay-state : goal.returns-then-delay-state
returns-then-delay-state c =
    let t = table_of c.args.t.now in
    let s = c.args.state.now in
    simp (lt-leb t.depth (turn_of s) (omega arith), lt-ltb (delay_of t) (fill_of s) (omega arith))

pub returns : goal.returns
returns c =
    late (table_of c.args.t.now) c.args.state.now c.stream_malformed.result (omega arith) (omega arith)
    c.stream_malformed.ensures
