-- `report::opening::started`: the words of a made table's decoder are few, and a fit table starts them. Assumes
-- nothing.
use mathlib.Core.Path.{ap₂, ◌∙◌}
use mathlib.Core.List.{◌++◌}
use Prim.Native.Nat.{◌+◌, ◌-◌, ◌*◌, ◌≤◌}
use native.Mathlib.Nat.{mul-le-mul}
use native.Mathlib.Omega.{arith}
use borrow.Rule.Slice.PartMut.{mid_of, mid_len, Post-is}
use lib.ListN.{length}
use Rattle.tables.proofs.Fit.{fit-facts}
use Rattle.link.specs.Memory.{decoder_words}
use Rattle.link.proofs.Starting.{started-whole}
use Rattle.report.proofs.opening.started.Goals as goal
use Rattle.report.proofs.opening.started.Goals.{Start}

-- the words of the streams
few : (s : goal.Start) → s.args.t.depth * (s.args.t.span + 1) ≤ 64 * 33
few s =
    let f = fit-facts s.args.t s.requires.0 in
    let h : s.args.t.span + 1 ≤ 33 = omega (arith, s.requires.1) in
    mul-le-mul f.m_to h

pub overflow_mul-words : goal.overflow_mul-words
overflow_mul-words c = record { fits = omega (arith, few (goal.at.overflow_mul-words c).Start) }

pub overflow_add-words-2 : goal.overflow_add-words-2
overflow_add-words-2 c = record { fits = omega (arith, few (goal.at.overflow_add-words-2 c).Start) }

pub slice_bounds-start_decoder-end : goal.slice_bounds-start_decoder-end
slice_bounds-start_decoder-end c =
    omega (arith, few (goal.at.slice_bounds-start_decoder-end c).Start, c.requires.2)

pub returns-clause-memory : goal.returns-clause-memory
returns-clause-memory c =
    let a = c.args in
    let p = c.requires in
    let n = decoder_words a.t in
    let room : n ≤ length a.memory.now = omega (arith, few (goal.at.returns-clause-memory c).Start, p.2) in
    let whole = started-whole a.t n (mid_of 0 (n - 0) a.memory.now) p.0
    (let l = mid_len 0 n a.memory.now room in omega arith) in
    ap₂ ◌++◌ (c.start_decoder.ensures.memory ∙ whole.1) (Post-is 0 n a.memory.now (omega arith))
