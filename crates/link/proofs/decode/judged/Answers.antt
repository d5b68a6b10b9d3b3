-- `link::decode::judged`: an error that is found, or missing under an odd or an even register. Assumes nothing.
use mathlib.Core.Path.{subst}
use mathlib.Core.Bool.{true, false}
use Prim.Native.Nat.{ℕ, ◌^◌, ◌<◌}
use native.Mathlib.Omega.{arith}
use Rattle.std.specs.Prelude.{Option}
use Rattle.span.proofs.Word.{odd-of}
use Rattle.link.specs.Step.{error_of}
use Rattle.link.proofs.Error.{verdict-found, verdict-doubtful, verdict-held}
use Rattle.link.proofs.decode.judged.Goals as goal

-- an error block has 16 bits at most
error-fits : (c : goal.In-Some) → c.in-Some.e < 2 ^ 16
error-fits c =
    subst (λ (f : Option ℕ). error_of f < 2 ^ 16) c.in-Some.is c.requires

pub overflow_cast-result : goal.overflow_cast-result
overflow_cast-result c = record { fits = error-fits c }

pub mark_found-requires : goal.mark_found-requires
mark_found-requires c = error-fits c

pub returns-in-Some : goal.returns-in-Some
returns-in-Some c =
    let a = c.args in
    let v = verdict-found a.weight a.found a.x c.in-Some.e c.mark_found.result c.in-Some.is c.mark_found.ensures in
    record { error = v.0; kept = v.1.0; mark = v.1.1 }

pub returns-then-x-eq1 : goal.returns-then-x-eq1
returns-then-x-eq1 c =
    let a = c.args in
    let v = verdict-doubtful a.weight a.found a.x c.in_default.is (odd-of true a.x c.if-x-eq1.true) in
    record { error = v.0; kept = v.1.0; mark = v.1.1 }

pub returns : goal.returns
returns c =
    let a = c.args in
    let v = verdict-held a.weight a.found a.x c.in_default.is
    (odd-of false a.x (let z = c.if-x-eq1.false in omega arith)) in
    record { error = v.0; kept = v.1.0; mark = v.1.1 }
