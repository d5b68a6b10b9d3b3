-- Which block a delivery is of: a block joins as number 17 of the delayed ones, moves to number 3, may be flipped
-- there, and moves to number 0. Assumes nothing.
--
--   answers_complete, answers-waiting   what is answered, by the fill
--   kept, flipped-once, oldest   a block on its way
--   waiting, deliveries          the theorems
use mathlib.Core.Path.{◌≡◌, refl, sym, ap, ap₂, ◌∙◌}
use mathlib.Core.Bool.{Bool, cond}
use mathlib.Core.List.{List}
use Prim.Native.Nat.{ℕ, zero, suc, ◌+◌, ◌-◌, ◌%◌, ◌^◌, ◌≤◌, ◌<◌}
use native.Mathlib.Nat.{add-zero}
use native.Mathlib.Omega.{arith}
use borrow.Author.Tests.{lt-ltb, le-ltb}
use lib.ListN.{length, get_or}
use Rattle.link.specs.Refusals.{Answer}
use Rattle.span.specs.Word.{◌⊕◌, sel}
use Rattle.link.specs.Runs.{run, placed}
use Rattle.link.proofs.Fill.{fill_complete, fill_waits}
use Rattle.std.specs.Prelude.{Option, Some, None, Ok}
use Rattle.iwadare.specs.Memory.{fill_of, fill_next}
use Rattle.iwadare.specs.Refusals.{decoder_fault}
use Rattle.iwadare.specs.Decoder.{register_of, flips_symbol1, flips_symbol0, delivered, delivery, decode_memory}
use Rattle.iwadare.specs.Runs.{Taken, handed, taken_by, none_taken}
use Rattle.iwadare.specs.Taps.{block_taken}
use Rattle.iwadare.specs.Delivery.{register_at, IwadareWaiting, IwadareDelivery}
use Rattle.iwadare.proofs.Words.{delayed}
use Rattle.iwadare.proofs.Runs.{DecoderRun, decoder_before, decoder-first, answerTaken, decoded, told_place}

-- ---- the fill

module _ {S : ℕ → List ℕ} {R : ℕ → ℕ} {A : ℕ → Answer (Option ℕ)} {count : ℕ} (r : DecoderRun S R A count) where
  fill_on : (p : ℕ) → p < count → fill_of (S (suc p)) ≡ fill_next (fill_of (S p))
  fill_on p h = (r.decodes p h).fill_on

  pub answers_complete : (p : ℕ) → p < count → 18 ≤ p → A p ≡ Ok (Some (delivered (S p) (R p)))
  unfolding delivery
  answers_complete p h from =
      r.answers p h
      ∙ ap (λ (b : Bool). cond b (Ok None) (Ok (Some (delivered (S p) (R p)))))
      (le-ltb (fill_of (S p)) 18 (fill_complete (λ q. fill_of (S q)) 18 count fill_on p (omega arith) from))

  answers-waiting : (p : ℕ) → p < count → fill_of (S 0) + p < 18 → A p ≡ Ok None
  unfolding delivery
  answers-waiting p h l =
      r.answers p h
      ∙ ap (λ (b : Bool). cond b (Ok None) (Ok (Some (delivered (S p) (R p)))))
      (lt-ltb (fill_of (S p)) 18
      (let z = fill_waits (λ q. fill_of (S q)) 18 count fill_on p (omega arith) in omega arith))

  -- ---- a block on its way, from the place q at which it is taken

  module _ (q : ℕ) where
    kept : (t i : ℕ) → i + t ≡ 17 → 3 ≤ i → q + t < count → delayed (S (suc (q + t))) i ≡ R q % 2 ^ 2
    kept zero i e l h =
        ap₂ (λ (p j : ℕ). delayed (S (suc p)) j) (add-zero q) (let z : i ≡ 17 = omega arith in z)
        ∙ (r.decodes q (omega arith)).youngest
    kept (suc t) i e l h =
        ap (λ (p : ℕ). delayed (S (suc p)) i) (let z : q + suc t ≡ suc (q + t) = omega arith in z)
        ∙ (r.decodes (suc (q + t)) (omega arith)).moved i (omega arith) (λ (z : i ≡ 2). omega arith)
        ∙ kept t (suc i) (omega arith) (omega arith) (omega arith)

    abbrev flip : ℕ
    flip = sel (flips_symbol1 (register_of (S (q + 15)) (R (q + 15)))) 2

    flipped-once : q + 15 < count → delayed (S (suc (q + 15))) 2 ≡ R q % 2 ^ 2 ⊕ flip
    flipped-once h =
        (r.decodes (q + 15) h).flipped
        ∙ ap (λ (x : ℕ). x ⊕ flip)
        (ap (λ (p : ℕ). delayed (S p) 3) (let z : q + 15 ≡ suc (q + 14) = omega arith in z)
        ∙ kept 14 3 refl (omega arith) (omega arith))

    oldest : q + 17 < count → delayed (S (q + 18)) 0 ≡ R q % 2 ^ 2 ⊕ flip
    oldest h =
        ap (λ (p : ℕ). delayed (S p) 0) (let z : q + 18 ≡ suc (q + 17) = omega arith in z)
        ∙ (r.decodes (q + 17) h).moved 0 (omega arith) (λ (z : 0 ≡ 2). omega arith)
        ∙ ap (λ (p : ℕ). delayed (S p) 1) (let z : q + 17 ≡ suc (q + 16) = omega arith in z)
        ∙ (r.decodes (q + 16) (omega arith)).moved 1 (omega arith) (λ (z : 1 ≡ 2). omega arith)
        ∙ ap (λ (p : ℕ). delayed (S p) 2) (let z : q + 16 ≡ suc (q + 15) = omega arith in z)
        ∙ flipped-once (omega arith)

    comes : q + 18 < count
        → delivered (S (q + 18)) (R (q + 18))
        ≡ R q % 2 ^ 2 ⊕ flip ⊕ sel (flips_symbol0 (register_of (S (q + 18)) (R (q + 18)))) 1
    unfolding delivered
    comes h =
        ap (λ (x : ℕ). x ⊕ sel (flips_symbol0 (register_of (S (q + 18)) (R (q + 18)))) 1) (oldest (omega arith))

-- ---- the theorems

pub waiting : IwadareWaiting
waiting memory rs zero from inside early = absurd (omega arith)
waiting memory rs (suc p) from inside early =
    let z = ap fill_of (decoder-first memory rs) in
    answers-waiting (decoded memory rs) p (omega arith) (omega arith)

pub deliveries : IwadareDelivery
deliveries memory rs p after inside =
    ap (λ (k : ℕ). (get_or taken k none_taken).answer) (let z : p - 1 ≡ suc (q + 18) - 1 = omega arith in z)
    ∙ answers_complete steps (q + 18) (omega arith) (omega arith)
    ∙ ap (λ d. Ok (Some d))
    (comes steps q (omega arith)
    ∙ ap₂ ◌⊕◌
    (ap₂ (λ (x y : ℕ). x % 2 ^ 2 ⊕ sel (flips_symbol1 y) 2)
    (ap (λ (k : ℕ). (get_or taken k none_taken).block) (let z : suc q - 1 ≡ p - 18 - 1 = omega arith in z))
    (at (q + 15) (p - 3) (omega arith) (omega arith)))
    (ap (λ (y : ℕ). sel (flips_symbol0 y) 1) (at (q + 18) p (omega arith) (omega arith))))
  where
    taken : List Taken
    taken = taken_by memory rs

    q : ℕ
    q = p - 19

    steps : DecoderRun (decoder_before memory rs) (block_taken taken) (answerTaken memory rs) (length taken)
    steps = decoded memory rs

    at : (i j : ℕ) → j - 1 ≡ i → i < length taken
        → register_of (decoder_before memory rs i) (block_taken taken i) ≡ register_at memory rs j
    at i j e h =
        sym (told_place memory rs register_of 0 i h)
        ∙ ap (λ (k : ℕ). get_or (run (λ none. decode_memory) (placed (λ none. decoder_fault) (λ none. register_of)) memory
        (handed rs)) k 0) (sym e)
