-- `link::code::join`: the word that joins, and its half. Assumes nothing.
use mathlib.Core.Path.{ap}
use Prim.Native.Nat.{ℕ, ◌/◌}
use lib.ListN.{get_or, set}
use Rattle.span.proofs.Word.{xor-code}
use Rattle.link.proofs.code.join.Goals as goal

pub returns : goal.returns
returns c =
    let a = c.args in
    let e = xor-code (get_or a.part.now 0 0) a.image in
    record { word = e; part = ap (λ (w : ℕ). set a.part.now 0 (w / 2)) e }
