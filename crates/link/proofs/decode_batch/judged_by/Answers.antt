-- `link::decode_batch::judged_by`: the dual basis gives the least error (`LeastBy`). Assumes nothing.
use mathlib.Core.Path.{◌≡◌, sym, ap, ap₂, subst, ◌∙◌}
use Prim.Native.Nat.{ℕ, ◌^◌, ◌<◌}
use native.Mathlib.Omega.{arith}
use lib.ListN.{length}
use Rattle.std.specs.Prelude.{Option}
use Rattle.span.specs.Dual.{least_by}
use Rattle.span.proofs.Duals.{least_by_lem}
use Rattle.tables.specs.Table.{rows_of}
use Rattle.tables.proofs.Fit.{fit-facts, code-length}
use Rattle.link.specs.Fit.{table_of}
use Rattle.link.specs.Step.{found, error_of, kept_of, mark_of}
use Rattle.link.proofs.CodeWords.{code_below}
use Rattle.link.proofs.Error.{error_lt}
use Rattle.link.proofs.decode_batch.judged_by.Goals as goal
use Rattle.link.proofs.decode_batch.judged_by.Goals.{After-least}

explained : (c : goal.After-least)
    → let R = rows_of (table_of c.args.t.now) in
    (length R ≡ c.args.t.now.symbols) × (c.least.result ≡ found R c.args.x)
explained c =
    let a = c.args in
    let t = table_of a.t.now in
    let b = a.basis.now in
    let size : length (rows_of t) ≡ t.symbols = code-length t.symbols t.rows (omega arith) (omega arith) in (
      size,
      c.least.ensures
          ∙ ap (λ (o : ℕ). least_by b o a.x) c.requires.1
          ∙ least_by_lem (rows_of t) (omega arith) (code_below t (fit-facts t a.t.now.is_fit)) b c.requires.0 a.x,
    )

pub judged-requires : goal.judged-requires
judged-requires c =
    let e = explained (goal.at.judged-requires c).After-least in
    subst (λ (f : Option ℕ). error_of f < 2 ^ 16) (sym e.1)
    (error_lt (rows_of (table_of c.args.t.now)) c.args.x (omega arith))

pub returns : goal.returns
returns c =
    let a = c.args in
    let e = (explained (goal.at.returns c).After-least).1 in
    let j = c.judged.ensures in record {
      error = j.error ∙ ap error_of e;
      kept = j.kept ∙ ap (λ (f : Option ℕ). kept_of f a.x) e;
      mark = j.mark ∙ ap₂ (λ (w : ℕ) (f : Option ℕ). mark_of w f a.x) c.weight.ensures e;
    }
