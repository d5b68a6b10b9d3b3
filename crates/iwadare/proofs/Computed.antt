-- The premises of correction and recovery of runs that are computed: tests of each bit and each block, and what they
-- say. Assumes nothing.
--
--   Ends, burst_so                              a stretch with a wrong bit at both ends
--   covers sent taken chosen count, bursts_so   every wrong bit lies in a chosen stretch
--   starts-right sent taken right, right_so     the first blocks are right
--   delivery-same                               two deliveries that are the same
use mathlib.Core.Path.{◌≡◌, refl, sym, ap, ◌∙◌}
use mathlib.Core.Bool.{Bool, true, false, not, cond, ◌&&◌, ◌||◌, true≢false}
use mathlib.Core.Logic.{inl, inr}
use mathlib.Core.List.{List, [], ◌∷◌}
use Prim.Native.Nat.{ℕ, zero, suc, ◌+◌, ◌*◌, ◌≤◌, ◌<◌}
use native.Mathlib.Omega.{arith}
use borrow.Author.Tests.{leb-true, eqb-true}
use lib.Dec.{leb, eqb}
use lib.ListN.{length, get_or}
use Rattle.link.specs.Refusals.{Answer}
use Rattle.tables.proofs.Fit.{and_left, and_right}
use Rattle.tables.proofs.Every.{every, every-at}
use Rattle.link.specs.Recovery.{Stretch, Burst, Chosen, Within}
use Rattle.std.specs.Prelude.{Option, Some, Ok}
use Rattle.iwadare.specs.Decoder.{decode_numbers}
use Rattle.iwadare.specs.Runs.{Sent, Taken, sent_at, taken_at, bit_sent, bit_taken}
use Rattle.iwadare.specs.Correction.{WrongBit, BitBursts}
use Rattle.iwadare.specs.Recovery.{RightFirst}

unfoldable pub agrees : Bool → Bool → Bool
agrees a b = cond a b (not b)

agrees-so : (a b : Bool) → agrees a b ≡ true → a ≡ b
unfolding agrees
agrees-so true b e = sym e
agrees-so false true e = e
agrees-so false false e = refl

agrees-self : (a : Bool) → agrees a a ≡ true
unfolding agrees
agrees-self true = refl
agrees-self false = refl

unfoldable pub lies : ℕ → List Stretch → Bool
lies q [] = false
lies q (b ∷ bs) = leb b.first q && leb q b.last || lies q bs

lies_so : (q : ℕ) (bs : List Stretch) → lies q bs ≡ true → Within q bs
unfolding lies
lies_so q [] e = absurd (true≢false (sym e))
lies_so q (b ∷ bs) e = go (leb b.first q && leb q b.last) refl e (lies_so q bs)
  where
    go : (s : Bool) → leb b.first q && leb q b.last ≡ s → s || lies q bs ≡ true → (lies q bs ≡ true → Within q bs)
        → Within q (b ∷ bs)
    go true k h rest =
        inl (
          leb-true b.first q (and_left (leb b.first q) (leb q b.last) k),
          leb-true q b.last (and_right (leb b.first q) (leb q b.last) k),
        )
    go false k h rest = inr (rest h)

module _ (sent : List Sent) (taken : List Taken) where
  wrong-so : (q : ℕ) → agrees (bit_taken taken q) (bit_sent sent q) ≡ false → WrongBit sent taken q
  wrong-so q h e =
      true≢false
      (sym (agrees-self (bit_taken taken q)) ∙ ap (agrees (bit_taken taken q)) e ∙ h)

  pub record Ends (b : Stretch) : Type 0 where
    pub first : agrees (bit_taken taken b.first) (bit_sent sent b.first) ≡ false
    pub last : agrees (bit_taken taken b.last) (bit_sent sent b.last) ≡ false

  pub burst_so : (long count : ℕ) (b : Stretch) → Ends b → 1 ≤ b.first → b.first ≤ b.last
      → b.last < b.first + long → b.last ≤ count → Burst (WrongBit sent taken) long count b
  burst_so long count b e from order short inside = record {
    from = from;
    order = order;
    short = short;
    inside = inside;
    begins = wrong-so b.first e.first;
    ends = wrong-so b.last e.last;
  }

  unfoldable pub covers : List Stretch → ℕ → Bool
  covers chosen count = every (λ i. agrees (bit_taken taken (suc i)) (bit_sent sent (suc i)) || lies (suc i) chosen) count

  covered-so : (chosen : List Stretch) (count : ℕ) → covers chosen count ≡ true
      → (q : ℕ) → 1 ≤ q → q ≤ count → WrongBit sent taken q → Within q chosen
  unfolding covers
  covered-so chosen count e zero from to ne = absurd (omega arith)
  covered-so chosen count e (suc i) from to ne =
      go (agrees (bit_taken taken (suc i)) (bit_sent sent (suc i))) refl
      (every-at (λ i. agrees (bit_taken taken (suc i)) (bit_sent sent (suc i)) || lies (suc i) chosen) count e i
      (omega arith))
    where
      go : (s : Bool) → agrees (bit_taken taken (suc i)) (bit_sent sent (suc i)) ≡ s → s || lies (suc i) chosen ≡ true
          → Within (suc i) chosen
      go true k h = absurd (ne (agrees-so (bit_taken taken (suc i)) (bit_sent sent (suc i)) k))
      go false k h = lies_so (suc i) chosen h

  pub bursts_so : (long gap : ℕ) (chosen : List Stretch) → covers chosen (3 * length taken) ≡ true
      → Chosen (WrongBit sent taken) long gap (3 * length taken) chosen → BitBursts long gap sent taken
  bursts_so long gap chosen e apart =
      record { chosen = chosen; apart = apart; covered = covered-so chosen (3 * length taken) e }

  unfoldable pub starts-right : ℕ → Bool
  starts-right right = every (λ i. eqb (taken_at taken (suc i)).block (sent_at sent (suc i)).block) right

  pub right_so : (right : ℕ) → starts-right right ≡ true → RightFirst right sent taken
  unfolding starts-right
  right_so right e zero from to inside = absurd (omega arith)
  right_so right e (suc i) from to inside =
      eqb-true (taken_at taken (suc i)).block (sent_at sent (suc i)).block
      (every-at (λ i. eqb (taken_at taken (suc i)).block (sent_at sent (suc i)).block) right e i (omega arith))

pub delivery-same : (a b : ℕ) → ◌≡◌ {A = Answer (Option ℕ)} (Ok (Some a)) (Ok (Some b)) → a ≡ b
delivery-same a b e = ap (λ (x : Answer (Option ℕ)). get_or (decode_numbers x) 2 0) e
