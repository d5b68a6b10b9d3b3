-- The streams apart: a refused step leaves the whole memory; one that is taken, word by word, the parts of the other
-- streams. Assumes nothing.
use mathlib.Core.Path.{◌≡◌, refl, sym, ◌∙◌}
use mathlib.Core.Bool.{Bool, true, false, cond}
use mathlib.Core.List.{List}
use Prim.Native.Nat.{ℕ, ◌+◌, ◌<◌}
use native.Mathlib.Omega.{arith}
use borrow.Author.Tests.{eqb-true}
use lib.Dec.{eqb}
use lib.ListN.{length, get_or, take, drop, length-take, length-drop}
use lib.Seq.{get_or-take, get_or-drop, ext_get_or}
use Rattle.link.specs.Memory.{pending_at, stream_at, part_of}
use Rattle.link.specs.Refusals.{coder_fault, decoder_fault, leaves}
use Rattle.link.specs.Coder.{coder_next, code_memory}
use Rattle.link.specs.Decoder.{decoder_next, decode_memory}
use Rattle.link.specs.Streams.{OtherStreams}
use Rattle.link.proofs.Coder.{coder-step, coder-length}
use Rattle.link.proofs.Decoder.{decoder_step, decoder-length}

-- what holds of the memory before, and after a step that is taken, holds after every step
after_any : (P : List ℕ → Type 0) (fault : ℕ) (next before : List ℕ) → P before → (fault ≡ 0 → P next)
    → P (leaves fault next before)
unfolding leaves
after_any P fault next before stay move = go (eqb fault 0) refl
  where
    go : (b : Bool) → eqb fault 0 ≡ b → P (cond b next before)
    go true e = move (eqb-true fault 0 e)
    go false e = stay

-- two parts that agree word by word
part_ext : (at long : ℕ) (s u : List ℕ) → length u ≡ length s
    → ((j : ℕ) → j < long → get_or u (at + j) 0 ≡ get_or s (at + j) 0)
    → take long (drop at u) ≡ take long (drop at s)
part_ext at long s u size same =
    ext_get_or 0 (take long (drop at u)) (take long (drop at s)) (simp (length-take, length-drop, size)) each
  where
    each : (j : ℕ) → j < length (take long (drop at u))
        → get_or (take long (drop at u)) j 0 ≡ get_or (take long (drop at s)) j 0
    each j h =
        let l : j < long = omega (arith, length-take long (drop at u)) in
        get_or-take long (drop at u) j 0 l ∙ get_or-drop at u j 0 ∙ same j l ∙ sym (get_or-drop at s j 0)
        ∙ sym (get_or-take long (drop at s) j 0 l)

pub other-streams : OtherStreams
unfolding code_memory decode_memory
other-streams = (
  λ t s b. (
    after_any (λ (u : List ℕ). length u ≡ length s) (coder_fault t s b) (coder_next t s b) s refl
        (λ free. coder-length t s b),
    λ k l ne.
        after_any (λ (u : List ℕ). pending_at u k ≡ pending_at s k) (coder_fault t s b) (coder_next t s b) s refl
        (λ free. (coder-step t s b free).others k l ne),
  ),
  λ t s r. (
    after_any (λ (u : List ℕ). length u ≡ length s) (decoder_fault t s r) (decoder_next t s r) s refl
        (decoder-length t s r),
    λ k l ne.
        after_any (λ (u : List ℕ). part_of t u k ≡ part_of t s k) (decoder_fault t s r) (decoder_next t s r) s refl
        (λ free.
        part_ext (stream_at t k) (t.span + 1) s (decoder_next t s r) (decoder-length t s r free)
        (λ j h. (decoder_step t s r free).others k j l h ne)),
  ),
)
