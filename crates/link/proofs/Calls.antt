-- Demand 1, from the promises: a call that is refused, and one that is not. Assumes nothing.
use mathlib.Core.Path.{◌≡◌, sym, ap, ◌∙◌}
use mathlib.Core.Bool.{Bool, true, false, cond}
use mathlib.Core.List.{List}
use Prim.Native.Nat.{ℕ, ◌+◌, ◌≤◌}
use native.Mathlib.Nat.{mul-le-mul_right}
use native.Mathlib.Omega.{arith}
use lib.Dec.{ltb}
use Rattle.link.specs.declared.decode.Delivered.{Delivered}
use Rattle.tables.specs.declared.table.Table.{Table}
use Rattle.tables.proofs.Fit.{fit-facts}
use Rattle.std.specs.Prelude.{Option, Some, None, Result, Ok, Err}
use Rattle.link.specs.declared.refusal.Refusal.{Refusal}
use Rattle.link.specs.Memory.{fill_of, delay_of, started}
use Rattle.link.specs.Refusals.{Answer, start_fault, coder_fault, decoder_fault, refusal_number, refusal_of, refused, answered}
use Rattle.link.specs.Refusals.{leaves}
use Rattle.link.specs.Start.{start_answer, start_memory}
use Rattle.link.specs.Coder.{coded_block, coder_next, code_answer, code_memory}
use Rattle.link.specs.Decoder.{delivered, delivery, decoder_next, decode_answer, decode_memory}
use Rattle.link.specs.Calls.{RefusedCalls, TakenCalls, MemoryWords}
use Rattle.link.proofs.Refusals.{start-range, coder-range, decoder-range, refusal-number, refused-as}
use Rattle.link.proofs.Starting.{starts}
use Rattle.link.proofs.Coder.{codes}
use Rattle.link.proofs.Decoder.{decodes}

-- what a step that is taken answers is no refusal
pub delivery-taken : (t : Table) (s : List ℕ) (r : ℕ) (e : Refusal) → delivery t s r ≡ Err e → ⊥
unfolding delivery
delivery-taken t s r e = go (ltb (fill_of s) (delay_of t))
  where
    go : (b : Bool) → ◌≡◌ {A = Answer (Option Delivered)} (cond b (Ok None) (Ok (Some (delivered t s r)))) (Err e) → ⊥
    go true h = let z : ◌≡◌ {A = ℕ} 0 1 = cc h in omega arith
    go false h = let z : ◌≡◌ {A = ℕ} 0 1 = cc h in omega arith

-- what a call that is refused says: its number is the fault, and the memory stays
pub refused-with : {X : Type 0} (fault : ℕ) (x : Result X Refusal) (next before : List ℕ) (e : Refusal)
    → ((fault ≡ 0 → ⊥) → (12 ≤ fault) × (fault ≤ 15)) → answered fault x refused ≡ Err e → (x ≡ Err e → ⊥)
    → (refusal_number e ≡ fault) × (fault ≡ 0 → ⊥) × (leaves fault next before ≡ before)
refused-with {X} fault x next before e range h other =
    let c = refused-as refused fault x (Err e) next before h other in
    let l = range c.1 in
    let same : refusal_of fault ≡ e = cc c.0 in
    (ap refusal_number (sym same) ∙ refusal-number fault l.0 l.1, c.1, c.2)

pub refused_calls : RefusedCalls
unfolding start_answer start_memory code_answer code_memory decode_answer decode_memory
refused_calls = (
  λ t words s r s' h e q.
      let c = refused-with (start_fault t words s) (Ok tt) (started words) s e
      (λ some. let l = start-range t words s some in (l.0, omega (arith, l.1))) (sym h.answer ∙ q)
      (λ z. let w : ◌≡◌ {A = ℕ} 0 1 = cc z in omega arith) in
      let l = start-range t words s c.1 in
      (c.0, omega (arith, c.0, l), omega (arith, c.0, l), h.memory ∙ c.2),
  λ t s b r s' h e q.
      let c = refused-with (coder_fault t s b) (Ok (coded_block t s b)) (coder_next t s b) s e
      (coder-range t s b) (sym h.answer ∙ q) (λ z. let w : ◌≡◌ {A = ℕ} 0 1 = cc z in omega arith) in
      let l = coder-range t s b c.1 in
      (c.0, omega (arith, c.0, l), omega (arith, c.0, l), h.memory ∙ c.2),
  λ t s b r s' h e q.
      let c = refused-with (decoder_fault t s b) (delivery t s b) (decoder_next t s b) s e
      (decoder-range t s b) (sym h.answer ∙ q) (delivery-taken t s b e) in
      let l = decoder-range t s b c.1 in
      (c.0, omega (arith, c.0, l), omega (arith, c.0, l), h.memory ∙ c.2),
)

pub taken_calls : TakenCalls
taken_calls = (
  λ t words s r s' h z. let e = starts t words s z in (h.answer ∙ sym e.0, h.memory ∙ sym e.1),
  λ t s b r s' h z. let e = codes t s b z in (h.answer ∙ sym e.0, h.memory ∙ sym e.1),
  λ t s b r s' h z. let e = decodes t s b z in (h.answer ∙ sym e.0, h.memory ∙ sym e.1),
)

pub memory-words : MemoryWords
memory-words t f =
    let z = fit-facts t f in
    let most = mul-le-mul_right (t.span + 1) z.m_to in
    (omega arith, omega arith)
