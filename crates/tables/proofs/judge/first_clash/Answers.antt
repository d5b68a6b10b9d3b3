-- `tables::judge::first_clash`: a fit table is in range, and its rows with the parity's behind are those of the code.
-- Assumes nothing.
use Rattle.std.proofs.Common.{◌≡◌, List, ◌++◌, ℕ, ◌-◌, ◌≤◌, length, take, drop, replicate, sym, ap, ◌∙◌, arith, rules, length-take-le}
use Rattle.tables.specs.Clash.{first_clash}
use Rattle.tables.specs.Table.{info_rows, rows_of}
use Rattle.tables.proofs.Behind.{behind}
use Rattle.tables.proofs.Fit.{Fits, fit-facts, code-length}
use Rattle.tables.proofs.judge.first_clash.Goals as goal
use Rattle.tables.proofs.judge.first_clash.Goals.{Start, After-copy_from_slice}

facts : (c : goal.Start) → let t = c.args.t.now in Fits t.symbols t.span t.depth (info_rows t)
facts c = fit-facts c.args.t.now c.requires

-- the first n of the array are the rows of the code
whole : (c : goal.After-copy_from_slice)
    → let t = c.args.t.now in
    2 ≤ t.symbols → t.symbols ≤ 16
    → take t.symbols (c.copy_from_slice.new.self ++ drop (t.symbols - 1) (replicate 16 1)) ≡ rows_of t
whole c low high =
    let t = c.args.t.now in
    let room : length t.rows ≡ 15 = search rules in
    ap (λ (l : List ℕ). take t.symbols (l ++ drop (t.symbols - 1) (replicate 16 1))) c.copy_from_slice.ensures.after
    ∙ behind t.symbols t.rows low high room

pub slice_bounds-rows-count : goal.slice_bounds-rows-count
slice_bounds-rows-count c = let z = facts c in omega arith

pub slice_bounds-rows-end : goal.slice_bounds-rows-end
slice_bounds-rows-end c = let z = facts c in omega arith

pub slice_bounds-copy_from_slice-count : goal.slice_bounds-copy_from_slice-count
slice_bounds-copy_from_slice-count c = let z = facts (goal.at.slice_bounds-copy_from_slice-count c).Start in omega arith

pub slice_bounds-copy_from_slice-length : goal.slice_bounds-copy_from_slice-length
slice_bounds-copy_from_slice-length c =
    let z = facts (goal.at.slice_bounds-copy_from_slice-length c).Start in
    sym (length-take-le (c.args.t.now.symbols - 1) (replicate 16 1) (omega arith))

pub shared_ref_as_front-copy_from_slice : goal.shared_ref_as_front-copy_from_slice
shared_ref_as_front-copy_from_slice c =
    let z = facts (goal.at.shared_ref_as_front-copy_from_slice c).Start in
    let room : length c.args.t.now.rows ≡ 15 = search rules in
    omega arith

pub search-requires : goal.search-requires
search-requires c =
    let at = goal.at.search-requires c in
    let z = facts at.Start in
    let t = c.args.t.now in
    let room : length t.rows ≡ 15 = search rules in
    let size = code-length t.symbols t.rows (omega arith) (omega arith) in
    (omega (arith, ap length (whole at.After-copy_from_slice z.n_from z.n_to), size), z.N_to)

pub returns : goal.returns
returns c =
    let at = goal.at.returns c in
    let z = facts at.Start in
    c.search.ensures ∙ ap (first_clash c.args.t.now.span) (whole at.After-copy_from_slice z.n_from z.n_to)
