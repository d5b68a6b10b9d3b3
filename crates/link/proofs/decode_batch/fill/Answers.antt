-- `link::decode_batch::fill`: where the registers of 0 end, a batch of what is left. Assumes nothing.
use mathlib.Core.Path.{◌≡◌, sym, ap, ◌∙◌}
use Prim.Native.Nat.{ℕ, ◌+◌, ◌-◌, ◌*◌, ◌^◌, ◌<◌}
use native.Mathlib.Omega.{arith}
use borrow.Rule.Slice.PartMut.{put_mid}
use borrow.Author.Rules.{rules}
use lib.ListN.{length}
use Rattle.std.specs.Prelude.{Option, Some}
use Rattle.tables.specs.declared.table.Table.{Table}
use Rattle.tables.specs.Table.{rows_of}
use Rattle.link.specs.declared.decode.Mark.TheVariants.{Clean}
use Rattle.link.specs.declared.decode.Verdict.{Verdict}
use Rattle.link.specs.Step.{found, error_of, kept_of, mark_of}
use Rattle.link.proofs.Error.{zero-found}
use Rattle.link.specs.Fit.{table_of}
use Rattle.link.specs.Batch.{decode_batch, Judges, Fills}
use Rattle.link.proofs.Reached.{reached_rest}
use Rattle.link.proofs.Going.{come-all, decode-size}
use Rattle.link.proofs.decode_batch.fill.Goals as goal
use Rattle.link.proofs.decode_batch.fill.Goals.{Start}

-- the register 0 is the image of 0
clean : (t : Table) (x : ℕ) (v : Verdict) → x ≡ 0 → v ≡ record { error = 0; kept = 0; mark = Clean } → Judges t x v
clean t x v z e =
    let f : Some 0 ≡ found (rows_of t) x = sym (ap (found (rows_of t)) z ∙ zero-found (rows_of t)) in record {
      error = ap (λ (u : Verdict). u.error) e ∙ ap error_of f;
      kept = ap (λ (u : Verdict). u.kept) e ∙ ap (λ (o : Option ℕ). kept_of o x) f;
      mark = ap (λ (u : Verdict). u.mark) e ∙ ap (λ (o : Option ℕ). mark_of (2 ^ (t.symbols - 1)) o x) f;
    }

pub fill_by-i-requires-clause-judges : goal.fill_by-i-requires-clause-judges
fill_by-i-requires-clause-judges c = λ x v p. clean (table_of c.args.t.now) x v (search rules) (search rules)

pub returns-then-min-i : goal.returns-then-min-i
returns-then-min-i c =
    let a = c.args in
    let f = c.fill_by-i in
    let e = c.min.ensures in
    come-all (table_of a.t.now) a.state.now a.blocks.now a.out.now f.result f.new.state f.new.out f.ensures.came.0
    (omega arith)

pub fill_judged-requires : goal.fill_judged-requires
fill_judged-requires c = c.fill_by-i.ensures.came.1 ∙ c.requires

-- what is left, judged
rested : (c : goal.After-slice_known-6-1)
    → let a = c.args in
    let f = c.fill_by-i in
    let j = c.fill_judged in
    Fills (decode_batch (table_of a.t.now) (length a.out.now) a.state.now a.blocks.now) a.out.now
    (f.result + j.result) j.new.state
    (put_mid f.result (length f.new.out - f.result) f.new.out j.new.out)
rested c =
    let a = c.args in
    let f = c.fill_by-i in
    let j = c.fill_judged in
    reached_rest (decode_batch (table_of a.t.now)) a.state.now a.blocks.now a.out.now f.result f.new.state f.new.out
    f.ensures.came.0 j.result j.new.state j.new.out j.ensures

-- what owning a slice tells: it has fewer than 2^63 bytes
taken-bytes : (c : goal.Start) → length c.args.out.now * 4 < 2 ^ 63
taken-bytes c = omega arith

pub overflow_add-result : goal.overflow_add-result
overflow_add-result c =
    let a = c.args in
    let most = decode-size (table_of a.t.now) (length a.out.now) a.state.now a.blocks.now in
    let bytes = taken-bytes (goal.at.overflow_add-result c).Start in
    record { fits = omega (arith, (rested c).count) }

pub returns : goal.returns
returns c = rested c
