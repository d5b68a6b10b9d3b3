-- Demand 1, from the promises: a call that is refused, and one that is not. Assumes nothing.
use mathlib.Core.Path.{◌≡◌, refl, sym, ◌∙◌}
use mathlib.Core.Bool.{Bool, true, false, cond}
use mathlib.Core.List.{List}
use Prim.Native.Nat.{ℕ}
use native.Mathlib.Omega.{arith}
use lib.Dec.{ltb}
use Rattle.std.specs.Prelude.{Option, Some, None, Ok, Err}
use Rattle.link.specs.declared.refusal.Refusal.{Refusal}
use Rattle.link.specs.declared.refusal.Refusal.TheVariants.{UnfitTable, WrongLength, MalformedMemory, BlockTooLarge}
use Rattle.link.specs.Refusals.{Answer, refusal_number, refused}
use Rattle.link.specs.Memory.{started}
use Rattle.link.specs.Start.{length_fault}
use Rattle.link.proofs.Refusals.{takes}
use Rattle.link.proofs.Starting.{length-range}
use Rattle.link.proofs.Calls.{refused-with}
use Rattle.iwadare.specs.Memory.{delay, fill_of}
use Rattle.iwadare.specs.Refusals.{coder_fault, decoder_fault}
use Rattle.iwadare.proofs.Refusals.{coder-range, decoder-range}
use Rattle.iwadare.specs.Coder.{coded_block, coder_next, code_answer, code_memory}
use Rattle.iwadare.specs.Decoder.{delivered, delivery, decoder_next, decode_answer, decode_memory}
use Rattle.iwadare.specs.Calls.{IwadareRefusedCalls, IwadareTakenCalls, IwadareBelow}
use Rattle.iwadare.proofs.Coder.{codes, coded-below}
use Rattle.iwadare.proofs.Decoder.{decodes, delivered-below}

-- what a step that is taken answers is no refusal
delivery-taken : (s : List ℕ) (r : ℕ) (e : Refusal) → delivery s r ≡ Err e → ⊥
unfolding delivery
delivery-taken s r e = go (ltb (fill_of s) delay)
  where
    go : (b : Bool) → ◌≡◌ {A = Answer (Option ℕ)} (cond b (Ok None) (Ok (Some (delivered s r)))) (Err e) → ⊥
    go true h = let z : ◌≡◌ {A = ℕ} 0 1 = cc h in omega arith
    go false h = let z : ◌≡◌ {A = ℕ} 0 1 = cc h in omega arith

pub refused_calls : IwadareRefusedCalls
unfolding code_answer code_memory decode_answer decode_memory
refused_calls = (
  λ words s r s' h e q.
      let c = refused-with (length_fault words s) (Ok tt) (started words) s e
      (λ some. let l = length-range words s some in (omega (arith, l), omega (arith, l))) (sym h.answer ∙ q)
      (λ z. let w : ◌≡◌ {A = ℕ} 0 1 = cc z in omega arith) in
      (c.0, wrong-length e (c.0 ∙ length-range words s c.1), h.memory ∙ c.2),
  λ s b r s' h e q.
      let c = refused-with (coder_fault s b) (Ok (coded_block s b)) (coder_next s b) s e
      (λ some. let l = coder-range s b some in (omega (arith, l.0), l.1)) (sym h.answer ∙ q)
      (λ z. let w : ◌≡◌ {A = ℕ} 0 1 = cc z in omega arith) in
      let l = coder-range s b c.1 in
      (c.0, omega (arith, c.0, l), omega (arith, c.0, l), h.memory ∙ c.2),
  λ s b r s' h e q.
      let c = refused-with (decoder_fault s b) (delivery s b) (decoder_next s b) s e
      (λ some. let l = decoder-range s b some in (omega (arith, l.0), l.1)) (sym h.answer ∙ q) (delivery-taken s b e) in
      let l = decoder-range s b c.1 in
      (c.0, omega (arith, c.0, l), omega (arith, c.0, l), h.memory ∙ c.2),
)
  where
    wrong-length : (e : Refusal) → refusal_number e ≡ 13 → e ≡ WrongLength
    wrong-length UnfitTable k = absurd (omega arith)
    wrong-length WrongLength k = refl
    wrong-length MalformedMemory k = absurd (omega arith)
    wrong-length BlockTooLarge k = absurd (omega arith)

pub taken_calls : IwadareTakenCalls
taken_calls = (
  λ words s r s' h z.
      let e = takes refused (length_fault words s) (Ok tt) (started words) s z in
      (h.answer ∙ sym e.0, h.memory ∙ sym e.1),
  λ s b r s' h z. let e = codes s b z in (h.answer ∙ sym e.0, h.memory ∙ sym e.1),
  λ s b r s' h z. let e = decodes s b z in (h.answer ∙ sym e.0, h.memory ∙ sym e.1),
)

pub below : IwadareBelow
below = (coded-below, delivered-below)
