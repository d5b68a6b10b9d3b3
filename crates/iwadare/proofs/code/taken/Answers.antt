-- `iwadare::code::taken`: w, its bit 0 above the information, and its half. Assumes nothing.
use mathlib.Core.Path.{ap, ◌∙◌}
use Prim.Native.Nat.{ℕ, ◌+◌, ◌/◌, ◌^◌}
use lib.ListN.{set}
use Rattle.span.specs.Word.{odd, sel}
use Rattle.link.proofs.Coder.{sel-digit}
use Rattle.iwadare.specs.Memory.{coder_pending}
use Rattle.iwadare.specs.Coder.{coder_joining, coded_block, coder_next}
use Rattle.iwadare.proofs.Coder.{joined}
use Rattle.iwadare.proofs.code.taken.Goals as goal

pub returns : goal.returns
unfolding coded_block coder_next coder_joining
returns c =
    let a = c.args in
    let s = a.memory.now in
    let w = joined (coder_pending s) a.info c.image.result c.image.ensures in
    record {
      block =
          ap (λ (x : ℕ). a.info + x) (c.select.ensures ∙ ap (λ (x : ℕ). sel (odd x) 4) w
          ∙ sel-digit (odd (coder_joining s a.info)) (2 ^ 2));
      memory = ap (λ (x : ℕ). set s 0 (x / 2)) w;
    }
