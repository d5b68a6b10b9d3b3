-- Sums of messages (02, CR 7): "The calibration group adds test signals." What a started coder answers adds, and so do
-- the raw terms of a started decoder; what it delivers need not.
--
--   coded_from t s bs, raw_from t s rs   the blocks that a coder answers to the blocks bs, and the raw terms of a decoder
--                     that is handed the blocks rs, from the memory s on
--   coded_form t bs   the coded form of a message: from a started memory on
--   raw_terms t rs, answers_to t rs   the raw terms of a started decoder, and what it answers
--   info_of a, delivered_by t rs   the information that an answer delivers, if it does, and what that decoder delivers
--   NoneRefused fault memory s cs   no call of the list is refused, from the memory s on
--   NoneRefusedLaw    where that is, from a well-formed memory on; then each block has a coded block, and a raw term
--   Adds bits plus from form   the law, of sequences of blocks of so many bits
--   CodedFormsAdd, RawTermsAdd   the law of coded forms and of raw terms
--   DeliveriesNeedNotAdd   its failure of deliveries
--   CodedFormsDiffer, RawTermsDiffer   the law of two messages on any well-formed memory
use Rattle.link.specs.declared.decode.Delivered.{Delivered}
use Rattle.std.specs.Prelude.{Option, ◌≡◌, Bool, true, ◌↔◌, ℕ, ◌-◌, length, replicate, Some, None, Ok, Err}
use Rattle.std.specs.Bool.{xor}
use mathlib.Core.List.{List, [], ◌∷◌, zip_with, flat_map}
use Rattle.span.specs.Word.{◌⊕◌}
use Rattle.span.specs.Combination.{Below}
use Rattle.tables.specs.declared.table.Table.{Table}
use Rattle.tables.specs.Table.{fit}
use Rattle.link.specs.declared.decode.Mark.TheVariants.{Corrected, Doubtful}
use Rattle.link.specs.Memory.{started, coder_words, decoder_words}
use Rattle.link.specs.Refusals.{Answer, coder_fault, decoder_fault}
use Rattle.link.specs.Coder.{code_memory}
use Rattle.link.specs.Decoder.{decode_answer, decode_memory}
use Rattle.link.specs.Runs.{Call, run, sent_by, placed}
use Rattle.link.specs.Formed.{CoderFormed, DecoderFormed}
use Rattle.link.specs.Massey.{raw_entry}
use Rattle.link.specs.Computed.{Z, calls, answers_by, sent_blocks, delivers}

-- ---- what the calls of a list of blocks give, with "one table"

abbrev pub coded_from : Table → List ℕ → List ℕ → List ℕ
coded_from t s bs = sent_blocks (sent_by s (calls t bs))

-- 01, a decoding step, line 1
abbrev pub raw_from : Table → List ℕ → List ℕ → List Bool
raw_from t s rs = run decode_memory (placed decoder_fault raw_entry) s (calls t rs)

abbrev pub coded_form : Table → List ℕ → List ℕ
coded_form t bs = coded_from t (started (coder_words t)) bs

abbrev pub raw_terms : Table → List ℕ → List Bool
raw_terms t rs = raw_from t (started (decoder_words t)) rs

abbrev pub answers_to : Table → List ℕ → List (Answer (Option Delivered))
answers_to t rs = answers_by decode_answer decode_memory (started (decoder_words t)) (calls t rs)

abbrev pub info_of : Answer (Option Delivered) → List ℕ
info_of (Ok (Some d)) = d.info ∷ []
info_of (Ok None) = []
info_of (Err e) = []

abbrev pub delivered_by : Table → List ℕ → List ℕ
delivered_by t rs = flat_map info_of (answers_to t rs)

-- ---- "where no step is refused"

abbrev pub NoneRefused : (Table → List ℕ → ℕ → ℕ) → (Table → List ℕ → ℕ → List ℕ) → List ℕ → List Call → Type 0
NoneRefused fault memory s cs = answers_by fault memory s cs ≡ replicate (length cs) 0

-- With a fit table and a well-formed memory, a started one among them, that is where each block is below 2^(n−1), and a
-- received one below 2^n (01, 15), and nowhere else.
abbrev pub NoneRefusedLaw : Type 0
NoneRefusedLaw =
    (t : Table) (s bs : List ℕ) → fit t ≡ true
    → (CoderFormed t s
    → (Below (t.symbols - 1) bs ↔ NoneRefused coder_fault code_memory s (calls t bs))
    × (Below (t.symbols - 1) bs → length (coded_from t s bs) ≡ length bs))
    × (DecoderFormed t s
    → (Below t.symbols bs ↔ NoneRefused decoder_fault decode_memory s (calls t bs))
    × (Below t.symbols bs → length (raw_from t s bs) ≡ length bs))

-- ---- the law

-- The form "of the exclusive or of two equally long block sequences is the exclusive or of" what they come to: of their
-- own forms, where `from` is `form`. (Where no step of the two is refused, none of the sum is: the exclusive or of two
-- blocks has no more bits than they.)
abbrev pub Adds : {X : Type 0} → ℕ → (X → X → X) → (List ℕ → List X) → (List ℕ → List X) → Type 0
Adds bits plus from form =
    (xs ys : List ℕ) → length xs ≡ length ys → Below bits xs → Below bits ys
    → form (zip_with ◌⊕◌ xs ys) ≡ zip_with plus (from xs) (from ys)

-- "For one table and a started coder, where no step is refused, the coded form of the exclusive or of two equally long
-- block sequences is the exclusive or of their coded forms." (000, II.A, "the linear sequential encoding network".)
abbrev pub CodedFormsAdd : Type 0
CodedFormsAdd = (t : Table) → fit t ≡ true → Adds (t.symbols - 1) ◌⊕◌ (coded_form t) (coded_form t)

-- "Raw terms of a started decoder obey the same law": of whatever is received, coded or not
abbrev pub RawTermsAdd : Type 0
RawTermsAdd = (t : Table) → fit t ≡ true → Adds t.symbols xor (raw_terms t) (raw_terms t)

-- "delivered blocks needn't, as Z shows with 2, 2, 0, 0 and 2, 0, 0, 2": each delivers 0, and their exclusive or
-- delivers 1. Its blocks are 0, 2, 0, 2, with the raw terms 0, 1, 0, 1 of a first block whose symbol 1 is wrong.
abbrev pub DeliveriesNeedNotAdd : Type 0
DeliveriesNeedNotAdd =
    (answers_to (Z 1) (2 ∷ 2 ∷ 0 ∷ 0 ∷ []) ≡ Ok None ∷ (Ok None) ∷ (Ok None) ∷ delivers 0 Doubtful ∷ [])
    × (answers_to (Z 1) (2 ∷ 0 ∷ 0 ∷ 2 ∷ []) ≡ Ok None ∷ (Ok None) ∷ (Ok None) ∷ delivers 0 Doubtful ∷ [])
    × (answers_to (Z 1) (zip_with ◌⊕◌ (2 ∷ 2 ∷ 0 ∷ 0 ∷ []) (2 ∷ 0 ∷ 0 ∷ 2 ∷ []))
    ≡ Ok None ∷ (Ok None) ∷ (Ok None) ∷ delivers 1 (Corrected 1) ∷ [])
    × (Adds (Z 1).symbols ◌⊕◌ (delivered_by (Z 1)) (delivered_by (Z 1)) → ⊥)

-- ---- two messages on one well-formed memory, started or not

-- what that memory held drops out: the exclusive or is the form, from a start, of theirs
abbrev pub CodedFormsDiffer : Type 0
CodedFormsDiffer =
    (t : Table) (s : List ℕ) → fit t ≡ true → CoderFormed t s
    → Adds (t.symbols - 1) ◌⊕◌ (coded_from t s) (coded_form t)

abbrev pub RawTermsDiffer : Type 0
RawTermsDiffer =
    (t : Table) (s : List ℕ) → fit t ≡ true → DecoderFormed t s
    → Adds t.symbols xor (raw_from t s) (raw_terms t)
