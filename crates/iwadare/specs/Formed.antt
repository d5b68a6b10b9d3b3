-- Well-formed memories: those that 13 and 14 refuse for no block. A start makes one, and the steps keep it, so that a
-- memory that was started, and then written by steps alone, is never refused for 14.
--
--   CoderFormed s, DecoderFormed s   the memory is well-formed
--   IwadareFormedExactly      that is what 13 and 14 let pass
--   IwadareFormedSteps        a step on a well-formed memory is refused for 15 only
--   IwadareStartedFormed      a started memory is well-formed
--   IwadareFormedThroughout   after any steps, refused ones among them, a well-formed memory is well-formed
use Rattle.std.specs.Prelude.{◌≡◌, false, cond, ◌↔◌, List, ℕ, ◌+◌, ◌≤◌, ◌<◌, leb, length, get_or}
use Rattle.link.specs.Memory.{started}
use Rattle.iwadare.specs.Memory.{coder_words, coder_pending, pending_bound, decoder_words, delay, fill_of, pending_of}
use Rattle.iwadare.specs.Memory.{terms_of, terms_bound, word_back, delayed_bound, received_bound}
use Rattle.iwadare.specs.Refusals.{coder_malformed, decoder_malformed, coder_fault, decoder_fault}
use Rattle.iwadare.specs.Runs.{coder_after, decoder_after}

pub record CoderFormed (s : List ℕ) : Type 0 where
  pub size : length s ≡ coder_words
  pub pending : coder_pending s < pending_bound

-- delayed block i, the oldest first
pub record DecoderFormed (s : List ℕ) : Type 0 where
  pub size : length s ≡ decoder_words
  pub fill : fill_of s ≤ delay
  pub pending : pending_of s < pending_bound
  pub terms : terms_of s < terms_bound
  pub delayed : (i : ℕ) → i < delay → get_or s (word_back delay + i) 0 < delayed_bound

abbrev pub IwadareFormedExactly : Type 0
IwadareFormedExactly =
    (s : List ℕ)
    → (CoderFormed s ↔ ((length s ≡ coder_words) × (coder_malformed s ≡ false)))
    × (DecoderFormed s ↔ ((length s ≡ decoder_words) × (decoder_malformed s ≡ false)))

abbrev pub IwadareFormedSteps : Type 0
IwadareFormedSteps =
    (s : List ℕ) (b : ℕ)
    → (CoderFormed s → coder_fault s b ≡ cond (leb delayed_bound b) 15 0)
    × (DecoderFormed s → decoder_fault s b ≡ cond (leb received_bound b) 15 0)

abbrev pub IwadareStartedFormed : Type 0
IwadareStartedFormed = CoderFormed (started coder_words) × DecoderFormed (started decoder_words)

abbrev pub IwadareFormedThroughout : Type 0
IwadareFormedThroughout =
    (s bs : List ℕ)
    → (CoderFormed s → CoderFormed (coder_after s bs)) × (DecoderFormed s → DecoderFormed (decoder_after s bs))
