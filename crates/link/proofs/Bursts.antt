-- Two wrong places lie in one burst, or have the gap between them; and short bursts are bursts of a greater length too.
-- Assumes nothing.
--
--   bursts-separated   two wrong places
--   bursts_longer      a greater length
use mathlib.Core.Logic.{◌⊎◌, inl, inr}
use mathlib.Core.List.{List, [], ◌∷◌}
use Prim.Native.Nat.{ℕ, ◌+◌, ◌≤◌, ◌<◌}
use native.Mathlib.Omega.{arith}
use Rattle.link.specs.Recovery.{Stretch, Apart, Chosen, Within, Bursts, Separated, BurstsSeparated}

module _ (wrong : ℕ → Type 0) (long gap count : ℕ) where
  -- what lies in a later burst lies beyond the gap
  beyond : (b : Stretch) (bs : List Stretch) → Apart gap b bs → Chosen wrong long gap count bs → (q : ℕ) → Within q bs
      → b.last + gap < q
  beyond b [] a c q h = absurd h
  beyond b (d ∷ bs) a c q (inl h) = omega arith
  beyond b (d ∷ bs) a c q (inr h) =
      let z = beyond d bs c.1 c.2 q h in
      let o = c.0.order in
      omega arith

  far_apart : (bs : List Stretch) → Chosen wrong long gap count bs → (p q : ℕ) → p < q → Within p bs → Within q bs
      → (q < p + long) ⊎ (p + gap < q)
  far_apart [] c p q l a b = absurd a
  far_apart (d ∷ bs) c p q l (inl a) (inl b) = inl (let s = c.0.short in omega arith)
  far_apart (d ∷ bs) c p q l (inl a) (inr b) = inr (let z = beyond d bs c.1 c.2 q b in omega arith)
  far_apart (d ∷ bs) c p q l (inr a) (inl b) = absurd (let z = beyond d bs c.1 c.2 p a in omega arith)
  far_apart (d ∷ bs) c p q l (inr a) (inr b) = far_apart bs c.2 p q l a b

  bursts-apart : Bursts wrong long gap count → Separated wrong long gap count
  bursts-apart b p q from l to u v =
      far_apart b.chosen b.apart p q l (b.covered p from (omega arith) u) (b.covered q (omega arith) to v)

pub bursts-separated : BurstsSeparated
bursts-separated wrong long gap count b = bursts-apart wrong long gap count b

module _ (wrong : ℕ → Type 0) (short long gap count : ℕ) (less : short ≤ long) where
  chosen-longer : (bs : List Stretch) → Chosen wrong short gap count bs → Chosen wrong long gap count bs
  chosen-longer [] c = c
  chosen-longer (b ∷ bs) c = (
    record {
      from = c.0.from;
      order = c.0.order;
      short = let s = c.0.short in omega arith;
      inside = c.0.inside;
      begins = c.0.begins;
      ends = c.0.ends;
    },
    c.1,
    chosen-longer bs c.2,
  )

  pub bursts_longer : Bursts wrong short gap count → Bursts wrong long gap count
  bursts_longer b = record { chosen = b.chosen; apart = chosen-longer b.chosen b.apart; covered = b.covered }
