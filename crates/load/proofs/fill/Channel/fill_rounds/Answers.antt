use mathlib.Core.Path.{ap, ◌∙◌}
use Prim.Native.Nat.{ℕ, ◌+◌, ◌-◌, ◌≤◌}
use native.Mathlib.Omega.{arith}
use borrow.Rule.Slice.PartMut.{put_mid, same_len_mid, mid_len}
use lib.ListN.{length}
use Rattle.load.proofs.Rounds.{Goes, goes_on, goes-all}
use Rattle.load.proofs.fill.Channel.fill_rounds.Goals as goal

-- a turn
turned : (c : goal.After-struct_known-1)
    → let l = c.loop-at in
    let a = c.args in
    let r = c.fill_round-r in
    Goes a.self.symbols a.self.depth a.self.guard a.seed (length a.out.now) (l.at + r.result.length)
    r.result.next.state (put_mid l.at (length l.out - l.at) l.out r.new.out)
    × (1 ≤ r.result.length)
turned c =
    let l = c.loop-at in
    let a = c.args in
    let r = c.fill_round-r in
    let all = l.invariant.size in
    let part = mid_len l.at (length l.out) l.out (omega arith) in
    goes_on a.self.symbols a.self.depth a.self.guard a.seed (length a.out.now) l.at l.g.state r.result.length
    r.result.next.state _ l.out r.new.out _ _ l.invariant (omega arith)
    (part ∙ ap (λ (k : ℕ). k - l.at) all) r.ensures.size r.ensures.blocks r.ensures.generator
    (same_len_mid l.at (length l.out - l.at) l.out r.new.out r.auto.out ∙ all)

pub loop-at-smaller : goal.loop-at-smaller
loop-at-smaller c =
    let t = turned c in
    let e = t.0.inside in
    let f = t.1 in
    omega arith

pub loop-at-preserved : goal.loop-at-preserved
loop-at-preserved c = (turned c).0

pub returns : goal.returns
returns c = goes-all _ _ _ _ _ _ _ _ c.loop-at.invariant (omega arith)
