-- `iwadare::decode::flip`: exclusive or with zero changes nothing. Assumes nothing.
use mathlib.Core.Path.{sym, ap, ◌∙◌}
use Prim.Native.Nat.{ℕ}
use lib.ListN.{get_or, set}
use lib.Seq.{set-get_or}
use Rattle.span.specs.Word.{◌⊕◌}
use Rattle.span.proofs.Word.{xor-code, xor_zero_r}
use Rattle.iwadare.proofs.decode.flip.Goals as goal

pub returns-then-weight-ne0 : goal.returns-then-weight-ne0
returns-then-weight-ne0 c =
    let a = c.args in
    let s = a.memory.now in
    ap (set s 6) (xor-code (get_or s 6 0) a.weight)

pub returns-else-weight-ne0 : goal.returns-else-weight-ne0
returns-else-weight-ne0 c =
    let a = c.args in
    let s = a.memory.now in
    sym (ap (λ (x : ℕ). set s 6 (get_or s 6 0 ⊕ x)) c.if-weight-ne0.false
    ∙ ap (set s 6) (xor_zero_r (get_or s 6 0)) ∙ set-get_or s 6 0)
