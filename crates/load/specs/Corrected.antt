-- 02, CR 8: "With an accepted or made table, a load begun on a started decoder is corrected completely, as far as its
-- blocks are delivered." So it is if its errors are added to any other coded message than that of zeros.
--
--   taken_from t rs          what a started decoder takes of the blocks rs, and answers
--   CorrectedTo t rs info error   it refuses none of them, answers nothing yet while its delay lasts, and then delivers
--                            at place p what `info` says of the place m × (N − 1) back, never marked doubtful, and with
--                            a mark that tells what `error` says of that place
--   LoadCorrected            so it is of a load, with information 0, and its own blocks as the errors
--   disturbed t seed infos   the coded form of a message as received, with the errors of a load
--   LoadReceived             zeros are coded as zeros, and a load is the coded form of zeros as received
--   DisturbedMessage         a message so disturbed is delivered, as far as its blocks are
use Rattle.std.specs.Prelude.{◌≡◌, true, ℕ, ◌-◌, ◌≤◌, ◌<◌, length, get_or, replicate, None, Ok}
use mathlib.Core.List.{List, zip_with}
use Rattle.span.specs.Word.{◌⊕◌}
use Rattle.span.specs.Combination.{Below}
use Rattle.tables.specs.declared.table.Table.{Table}
use Rattle.tables.specs.Table.{fit}
use Rattle.link.specs.Memory.{started, decoder_words, delay_of}
use Rattle.link.specs.Refusals.{decoder_fault}
use Rattle.link.specs.Decoder.{decode_memory}
use Rattle.link.specs.Runs.{Taken, taken_by, taken_at}
use Rattle.link.specs.Recovery.{Origin}
use Rattle.link.specs.Clean.{Tells}
use Rattle.link.specs.Computed.{calls}
use Rattle.link.specs.Sums.{NoneRefused, coded_form}
use Rattle.load.specs.Load.{load_of}

-- places count from 1; each block has one where no step is refused
abbrev pub taken_from : Table → List ℕ → List Taken
taken_from t rs = taken_by (started (decoder_words t)) (calls t rs)

pub record CorrectedTo (t : Table) (rs : List ℕ) (info error : ℕ → ℕ) : Type 0 where
  pub none_refused : NoneRefused decoder_fault decode_memory (started (decoder_words t)) (calls t rs)
  pub all_taken_lem : length (taken_from t rs) ≡ length rs
  pub waits : (p : ℕ) → 1 ≤ p → p ≤ length rs → p ≤ delay_of t → (taken_at (taken_from t rs) p).answer ≡ Ok None
  pub deliveries : (p : ℕ) → p ≤ length rs → delay_of t < p
      → Tells (taken_at (taken_from t rs) p).answer (info (p - delay_of t)) (error (p - delay_of t))

-- every number as a seed, also 0, of which no call fills a load, and every length
abbrev pub LoadCorrected : Type 0
LoadCorrected =
    (t : Table) (seed k : ℕ) → Origin t
    → CorrectedTo t (load_of t seed k) (λ (p : ℕ). 0) (λ (p : ℕ). get_or (load_of t seed k) (p - 1) 0)

abbrev pub disturbed : Table → ℕ → List ℕ → List ℕ
disturbed t seed infos = zip_with ◌⊕◌ (coded_form t infos) (load_of t seed (length infos))

-- "The load is the all-zero message as received: each number is the error block, 0 for a right one."
abbrev pub LoadReceived : Type 0
LoadReceived =
    (t : Table) (seed k : ℕ) → fit t ≡ true
    → (coded_form t (replicate k 0) ≡ replicate k 0) × (disturbed t seed (replicate k 0) ≡ load_of t seed k)

abbrev pub DisturbedMessage : Type 0
DisturbedMessage =
    (t : Table) (seed : ℕ) (infos : List ℕ) → Origin t → Below (t.symbols - 1) infos
    → CorrectedTo t (disturbed t seed infos) (λ (p : ℕ). get_or infos (p - 1) 0)
    (λ (p : ℕ). get_or (load_of t seed (length infos)) (p - 1) 0)
