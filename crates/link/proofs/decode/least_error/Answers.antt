-- `link::decode::least_error`: the relation has a one at n, and the error block below it. Assumes nothing.
use mathlib.Core.Path.{◌≡◌, sym, ap, ◌∙◌}
use Prim.Native.Nat.{ℕ, ◌-◌, ◌*◌, ◌%◌, ◌^◌, ◌<◌}
use native.Mathlib.Nat.{one-mul}
use native.Mathlib.Omega.{arith}
use mathlib.Core.Bool.{true}
use lib.ListN.{length}
use Rattle.std.specs.Prelude.{Some}
use Rattle.tables.specs.Table.{rows_of}
use Rattle.link.specs.Fit.{table_of}
use Rattle.tables.proofs.Fit.{code-length}
use Rattle.span.proofs.Masks.{bit_shifted}
use Rattle.link.proofs.Error.{error_found, error_missing}
use Rattle.link.proofs.decode.least_error.Goals as goal

-- the one at n
one_at : (n : ℕ) → n < 64 → 1 * 2 ^ n % 2 ^ 64 ≡ 2 ^ n
one_at n h = bit_shifted true n h ∙ one-mul (2 ^ n)

pub overflow_sub-result : goal.overflow_sub-result
overflow_sub-result c =
    let n = c.args.t.now.symbols in
    let R = rows_of (table_of c.args.t.now) in
    let size : length R ≡ n = code-length n c.args.t.now.rows.now (omega arith) (omega arith) in
    let one = one_at n (omega arith) in
    let f = error_found R c.error_words-words.result n c.args.x size (omega arith) c.error_words-words.ensures
    c.in-Some.c
    (sym c.least_relation-relation.ensures ∙ c.in-Some.is) in
    omega arith

pub returns-in-Some : goal.returns-in-Some
returns-in-Some c =
    let n = c.args.t.now.symbols in
    let R = rows_of (table_of c.args.t.now) in
    let size : length R ≡ n = code-length n c.args.t.now.rows.now (omega arith) (omega arith) in
    let f = error_found R c.error_words-words.result n c.args.x size (omega arith) c.error_words-words.ensures
    c.in-Some.c
    (sym c.least_relation-relation.ensures ∙ c.in-Some.is) in
    sym (f.1 ∙ ap (λ (y : ℕ). Some (c.in-Some.c - y)) (sym (one_at n (omega arith))))

pub returns : goal.returns
returns c =
    let n = c.args.t.now.symbols in
    let R = rows_of (table_of c.args.t.now) in
    let size : length R ≡ n = code-length n c.args.t.now.rows.now (omega arith) (omega arith) in
    sym (error_missing R c.error_words-words.result n c.args.x size (omega arith)
    c.error_words-words.ensures
    (sym c.least_relation-relation.ensures ∙ c.in_default.is))
