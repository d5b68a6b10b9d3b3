-- Two runs from one memory, of coders and of decoders: parities and raw terms differ by the convolution of what the
-- blocks differ by, whatever the memory held. Assumes nothing.
--
--   parities_differ   the parities of two coders
--   raws_differ       the raw terms of two decoders
use mathlib.Core.Path.{◌≡◌, sym, ap, ap₂, ◌∙◌}
use mathlib.Core.Bool.{Bool, xor}
use mathlib.Core.List.{List}
use Prim.Native.Nat.{ℕ, suc, ◌+◌, ◌-◌, ◌*◌, ◌%◌, ◌^◌, ◌≤◌, ◌<◌}
use native.Mathlib.Omega.{arith}
use lib.ListN.{length, get_or}
use Rattle.link.specs.Refusals.{Answer}
use Rattle.link.specs.declared.decode.Delivered.{Delivered}
use Rattle.std.specs.Prelude.{Option}
use Rattle.span.specs.Word.{◌⊕◌, odd, bit}
use Rattle.span.proofs.Word.{xor-swap-bool}
use Rattle.span.proofs.Combination.{combination-lt}
use Rattle.link.specs.Memory.{joining, turn_of, pending_at}
use Rattle.link.specs.Massey.{convolution, stream}
use Rattle.link.proofs.Convolution.{stream_differ}
use Rattle.link.proofs.Decoder.{Verdict, stream_in}
use Rattle.link.proofs.Turn.{CoderRun, DecoderRun}
use Rattle.link.proofs.Massey.{pending, step, pending_begin, pending_on, coder_bit, joins, joins_begin, joins_on}

module _ {n N m : ℕ} {infos : List ℕ} (size : length infos ≤ n - 1) where
  pub parities_differ : {M M' : ℕ → List ℕ} {B B' C C' : ℕ → ℕ} {count count' : ℕ}
      (l : CoderRun n N m infos M B C count) (l' : CoderRun n N m infos M' B' C' count') → M 0 ≡ M' 0
      → (r b : ℕ) → r < m → r + b * m < count → r + b * m < count'
      → xor (bit (n - 1) (stream m r C b)) (bit (n - 1) (stream m r C' b))
      ≡ convolution (n - 1) N infos (stream m r (λ p. B p ⊕ B' p)) b
  unfolding joining
  parities_differ {M} {M'} {B} {B'} l l' same r b low inside inside' =
      ap₂ xor (coder_bit l r b low inside) (coder_bit l' r b low inside')
      ∙ stream_differ (n - 1) N infos (stream m r B) (stream m r B') (pending l r b low inside)
      (pending l' r b low inside') (suc b) size
      (λ c. combination-lt N infos c (step l r b low inside b (omega arith)).fits.below)
      (pending_begin l r b low inside ∙ ap (λ (s : List ℕ). pending_at s ((turn_of s + r) % m)) same
      ∙ sym (pending_begin l' r b low inside'))
      (λ k h. pending_on l r b low inside k (omega arith)) (λ k h. pending_on l' r b low inside' k (omega arith)) b
      (omega arith)

  pub raws_differ : {S S' : ℕ → List ℕ} {R R' : ℕ → ℕ} {A A' : ℕ → Answer (Option Delivered)} {count count' : ℕ}
      (l : DecoderRun n N m infos S R A count) (l' : DecoderRun n N m infos S' R' A' count') → S 0 ≡ S' 0
      → (raw raw' : ℕ → Bool) (register register' : ℕ → ℕ) (error error' : ℕ → Option ℕ)
      → ((p : ℕ) → p < count → Verdict n N infos (S p) (R p) (raw p) (register p) (error p))
      → ((p : ℕ) → p < count' → Verdict n N infos (S' p) (R' p) (raw' p) (register' p) (error' p))
      → (r b : ℕ) → r < m → r + b * m < count → r + b * m < count'
      → xor (stream m r raw b) (stream m r raw' b)
      ≡ xor (convolution (n - 1) N infos (stream m r (λ p. R p % 2 ^ (n - 1) ⊕ R' p % 2 ^ (n - 1))) b)
      (xor (bit (n - 1) (stream m r R b)) (bit (n - 1) (stream m r R' b)))
  unfolding joining
  raws_differ {S} {S'} {R} {R'} l l' same raw raw' register register' error error' judges judges' r b low inside
      inside' =
      let p = r + b * m in
      let w = odd (joining infos (joins l r b low inside b) (R p % 2 ^ (n - 1))) in
      let w' = odd (joining infos (joins l' r b low inside' b) (R' p % 2 ^ (n - 1))) in
      ap₂ xor (judges p inside).raw_is (judges' p inside').raw_is
      ∙ xor-swap-bool w (bit (n - 1) (R p)) w' (bit (n - 1) (R' p))
      ∙ ap (λ (s : Bool). xor s (xor (bit (n - 1) (R p)) (bit (n - 1) (R' p))))
      (stream_differ (n - 1) N infos (stream m r (λ p. R p % 2 ^ (n - 1))) (stream m r (λ p. R' p % 2 ^ (n - 1)))
      (joins l r b low inside) (joins l' r b low inside') (suc b) size
      (λ c. combination-lt N infos c (l.decodes p inside).fits.below)
      (joins_begin l r b low inside ∙ ap (λ (s : List ℕ). get_or s (stream_in N ((turn_of s + r) % m)) 0) same
      ∙ sym (joins_begin l' r b low inside'))
      (λ k h. joins_on l r b low inside k (omega arith)) (λ k h. joins_on l' r b low inside' k (omega arith)) b
      (omega arith))
