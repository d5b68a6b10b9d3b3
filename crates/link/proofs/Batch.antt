-- What a batch comes to, call by call, for coder and decoder alike: for those who prove a loop over the blocks. Assumes
-- nothing.
--
--   batch_none, batch_full   no block is left, and the output is full
--   batch_refused            the next call has no entry
--   batch_taken              the next call has an entry
--   batch_size               there are no more entries than room and blocks
use mathlib.Core.Path.{◌≡◌, refl}
use mathlib.Core.List.{List, [], ◌∷◌}
use Prim.Native.Nat.{ℕ, zero, suc, ◌≤◌}
use native.Mathlib.Omega.{arith}
use lib.ListN.{length}
use Rattle.link.specs.Batch.{Batch, ended, entered, batch}

module _ (entries memory : List ℕ → ℕ → List ℕ) where
  pub batch_none : (room : ℕ) (s : List ℕ) → batch entries memory room s [] ≡ ended s
  unfolding batch
  batch_none room s = refl

  pub batch_full : (s bs : List ℕ) → batch entries memory 0 s bs ≡ ended s
  unfolding batch
  batch_full s [] = refl
  batch_full s (b ∷ bs) = refl

  -- whatever the room is
  pub batch_refused : (room : ℕ) (s : List ℕ) (b : ℕ) (bs : List ℕ) → entries s b ≡ []
      → batch entries memory room s (b ∷ bs) ≡ ended s
  unfolding batch
  batch_refused zero s b bs none = refl
  batch_refused (suc room) s b bs none = rw none

  pub batch_taken : (room : ℕ) (s : List ℕ) (b : ℕ) (bs : List ℕ) (e : ℕ) → entries s b ≡ e ∷ []
      → batch entries memory (suc room) s (b ∷ bs)
      ≡ record {
        entries = e ∷ (batch entries memory room (memory s b) bs).entries;
        memory = (batch entries memory room (memory s b) bs).memory;
      }
  unfolding batch
  batch_taken room s b bs e one = rw one

  pub batch_size : (room : ℕ) (s bs : List ℕ)
      → (length (batch entries memory room s bs).entries ≤ room)
      × (length (batch entries memory room s bs).entries ≤ length bs)
  unfolding batch
  batch_size room s [] = (omega arith, omega arith)
  batch_size zero s (b ∷ bs) = (omega arith, omega arith)
  batch_size (suc room) s (b ∷ bs) = go (entries s b) (batch_size room (memory s b) bs)
    where
      rest : Batch
      rest = batch entries memory room (memory s b) bs

      go : (es : List ℕ) → (length rest.entries ≤ room) × (length rest.entries ≤ length bs)
          → (length (entered es s rest).entries ≤ suc room) × (length (entered es s rest).entries ≤ suc (length bs))
      go [] h = (omega arith, omega arith)
      go (e ∷ es) h = (omega arith, omega arith)
