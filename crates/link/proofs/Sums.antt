-- Sums of messages: parities and raw terms of two messages differ by Massey's eq. 1 of what their blocks differ by, and
-- from a started memory a parity is that sum of the blocks. Assumes nothing.
--
--   zip_size, zip-at, blocks_at, blocks-below   two sequences, added place by place
--   adds                  the law, of any form that is told so at each place
--   parity_at, coded_at   the sum of eq. 1, and the coded block, at a place of a run
--   coded_ext, coded_at_lem, coded_form_below   its laws
--   coded-forms-differ, raw-terms-differ, coded_forms_add, raw_terms_add, deliveries_need_not_add   the theorems
use mathlib.Core.Path.{◌≡◌, refl, sym, ap, ap₂, ◌∙◌, subst}
use mathlib.Core.Bool.{Bool, true, false, xor}
use mathlib.Core.List.{List, [], ◌∷◌, zip_with, flat_map}
use Prim.Native.Nat.{ℕ, zero, suc, ◌+◌, ◌-◌, ◌*◌, ◌/◌, ◌%◌, ◌^◌, ◌<◌}
use native.Mathlib.Nat.{mod-lt, mod-add-div'}
use native.Mathlib.Omega.{arith}
use lib.ListN.{length, get_or, length-take, get_or-map}
use lib.Seq.{ext_get_or}
use Rattle.span.specs.Word.{◌⊕◌, odd, bit, digit}
use Rattle.span.specs.Combination.{Below, combination}
use Rattle.span.specs.Relation.{least_from, least_coefficients}
use Rattle.span.proofs.Word.{xor_zero_l, xor_lt, xor_mod, bit-xor, xor-false-l, topped-xor}
use Rattle.span.proofs.Masks.{topped-lt}
use Rattle.tables.specs.declared.table.Table.{Table}
use Rattle.tables.specs.Table.{sizes_fit, rows_fit, fit, info_rows}
use Rattle.tables.specs.Refusal.{first_of}
use Rattle.tables.proofs.Fit.{fit-facts}
use Rattle.link.specs.Memory.{joining, started, coder_words, decoder_words}
use Rattle.link.specs.Step.{information, parity as received}
use Rattle.link.specs.Refusals.{answered, leaves, step_fault, some_above, coder_fault, decoder_fault}
use Rattle.link.specs.Coder.{coder_next, code_memory}
use Rattle.link.specs.Decoder.{decoder_joining, decoder_register, decoder_found, part_next, decoder_next, delivered}
use Rattle.link.specs.Decoder.{delivery, decode_answer, decode_memory}
use Rattle.link.specs.Runs.{Sent, sent_by, taken_by, none_sent}
use Rattle.link.specs.Formed.{CoderFormed, DecoderFormed}
use Rattle.link.specs.Massey.{convolution, stream, info_sent, block_sent, block_taken, raw_at, register_at, found_at}
use Rattle.link.specs.Computed.{calls, answers_by}
use Rattle.link.specs.Sums.{coded_from, raw_from, coded_form, raw_terms, Adds, CodedFormsAdd, RawTermsAdd}
use Rattle.link.specs.Sums.{DeliveriesNeedNotAdd, CodedFormsDiffer, RawTermsDiffer}
use Rattle.link.proofs.Convolution.{convolution-ext}
use Rattle.link.proofs.Runs.{coder_before, before_first, coder-memory, decoder-memory}
use Rattle.link.proofs.Turn.{CoderRun}
use Rattle.link.proofs.OneTable.{from_one, coded, decoded, verdict}
use Rattle.link.proofs.Formed.{started_formed}
use Rattle.link.proofs.Massey.{coded-bit, parity, parities}
use Rattle.link.proofs.Differences.{parities_differ, raws_differ}
use Rattle.link.proofs.Taken.{none_refused, sent_each, taken_each}
use Rattle.link.proofs.Computed.{each_at}

-- ---- two sequences

module _ {X : Type 0} (plus : X → X → X) where
  pub zip_size : (xs ys : List X) → length xs ≡ length ys → length (zip_with plus xs ys) ≡ length xs
  unfolding zip_with
  zip_size [] ys e = refl
  zip_size (x ∷ xs) [] e = absurd (omega arith)
  zip_size (x ∷ xs) (y ∷ ys) e = ap suc (zip_size xs ys (omega arith))

  zip-at : (d : X) → plus d d ≡ d → (xs ys : List X) → length xs ≡ length ys → (p : ℕ)
      → get_or (zip_with plus xs ys) p d ≡ plus (get_or xs p d) (get_or ys p d)
  unfolding zip_with
  zip-at d none [] [] e p = sym none
  zip-at d none [] (y ∷ ys) e p = absurd (omega arith)
  zip-at d none (x ∷ xs) [] e p = absurd (omega arith)
  zip-at d none (x ∷ xs) (y ∷ ys) e zero = refl
  zip-at d none (x ∷ xs) (y ∷ ys) e (suc p) = zip-at d none xs ys (omega arith) p

pub blocks_at : (xs ys : List ℕ) → length xs ≡ length ys → (p : ℕ)
    → get_or (zip_with ◌⊕◌ xs ys) p 0 ≡ get_or xs p 0 ⊕ get_or ys p 0
blocks_at = zip-at ◌⊕◌ 0 (xor_zero_l 0)

pub blocks-below : (bits : ℕ) (xs ys : List ℕ) → length xs ≡ length ys → Below bits xs → Below bits ys
    → Below bits (zip_with ◌⊕◌ xs ys)
blocks-below bits xs ys e f g i h =
    let size = zip_size ◌⊕◌ xs ys e in
    rw (blocks_at xs ys e i) (xor_lt bits (get_or xs i 0) (get_or ys i 0) (f i (omega arith)) (g i (omega arith)))

-- What stands at a place of the form is told of the blocks, `at x p`, and the sum at a place of what two lists lead to
-- is told so of the sum of their blocks.
module _ {X : Type 0} (plus : X → X → X) (d : X) (none : plus d d ≡ d) (bits : ℕ) (from form : List ℕ → List X)
    (at : (ℕ → ℕ) → ℕ → X) (from-size : (bs : List ℕ) → Below bits bs → length (from bs) ≡ length bs)
    (form-size : (bs : List ℕ) → Below bits bs → length (form bs) ≡ length bs)
    (at-ext : (x y : ℕ → ℕ) → ((i : ℕ) → x i ≡ y i) → (p : ℕ) → at x p ≡ at y p)
    (is : (bs : List ℕ) → Below bits bs → (p : ℕ) → p < length bs → get_or (form bs) p d ≡ at (λ i. get_or bs i 0) p)
    (both_is : (xs ys : List ℕ) → length xs ≡ length ys → Below bits xs → Below bits ys → (p : ℕ) → p < length xs
    → plus (get_or (from xs) p d) (get_or (from ys) p d) ≡ at (λ i. get_or xs i 0 ⊕ get_or ys i 0) p) where
  adds : Adds bits plus from form
  adds xs ys same f g =
      let both = zip_with ◌⊕◌ xs ys in
      let below = blocks-below bits xs ys same f g in
      let blocks = zip_size ◌⊕◌ xs ys same in
      let whole = form-size both below in
      let first = from-size xs f in
      let second = from-size ys g in
      let sums = zip_size plus (from xs) (from ys) (omega arith) in
      ext_get_or d (form both) (zip_with plus (from xs) (from ys)) (omega arith)
      (λ p h.
      is both below p (omega arith)
      ∙ at-ext (λ i. get_or both i 0) (λ i. get_or xs i 0 ⊕ get_or ys i 0) (blocks_at xs ys same) p
      ∙ sym (zip-at plus d none (from xs) (from ys) (omega arith) p ∙ both_is xs ys same f g p (omega arith)))

-- ---- what stands at a place

-- 000, eq. 1: place p is block p div m of stream p mod m
abbrev pub parity_at : Table → (ℕ → ℕ) → ℕ → Bool
parity_at t x p =
    convolution (t.symbols - 1) t.span (info_rows t) (stream t.depth (p % t.depth) x) (p / t.depth)

-- the block x p with its parity
abbrev pub coded_at : Table → (ℕ → ℕ) → ℕ → ℕ
coded_at t x p = x p + digit (parity_at t x p) * 2 ^ (t.symbols - 1)

-- the parity of the information received, and the parity received
abbrev raw_of : Table → (ℕ → ℕ) → ℕ → Bool
raw_of t x p = xor (parity_at t (λ i. information t.symbols (x i)) p) (received t.symbols (x p))

module _ (t : Table) where
  abbrev n : ℕ
  n = t.symbols

  abbrev m : ℕ
  m = t.depth

  parity-ext : (x y : ℕ → ℕ) → ((i : ℕ) → x i ≡ y i) → (p : ℕ) → parity_at t x p ≡ parity_at t y p
  parity-ext x y h p =
      convolution-ext (n - 1) t.span (info_rows t) (stream m (p % m) x) (stream m (p % m) y) (p / m)
      (λ b. h (p % m + b * m))

  pub coded_ext : (x y : ℕ → ℕ) → ((i : ℕ) → x i ≡ y i) → (p : ℕ) → coded_at t x p ≡ coded_at t y p
  coded_ext x y h p = ap₂ (λ (b : ℕ) (s : Bool). b + digit s * 2 ^ (n - 1)) (h p) (parity-ext x y h p)

  raw-ext : (x y : ℕ → ℕ) → ((i : ℕ) → x i ≡ y i) → (p : ℕ) → raw_of t x p ≡ raw_of t y p
  raw-ext x y h p =
      ap₂ xor
      (parity-ext (λ i. information n (x i)) (λ i. information n (y i)) (λ i. ap (information n) (h i)) p)
      (ap (received n) (h p))

  module _ (fits : fit t ≡ true) where
    turn : (p : ℕ) → p % m < m
    turn p = mod-lt p (fit-facts t fits).m_from

    -- ---- of the coder

    module _ (s : List ℕ) (f : CoderFormed t s) (bs : List ℕ) (below : Below (n - 1) bs) where
      abbrev sent : List Sent
      sent = sent_by s (calls t bs)

      codes : CoderRun n t.span m (info_rows t) (coder_before s (calls t bs)) (info_sent sent) (block_sent sent)
          (length sent)
      codes = coded t s (calls t bs) (sent_each t fits s f bs below).tables

      coded-own : (p : ℕ) → p < length bs
          → get_or (coded_from t s bs) p 0 ≡ info_sent sent p + digit (bit (n - 1) (block_sent sent p)) * 2 ^ (n - 1)
      coded-own p h =
          let size = (sent_each t fits s f bs below).size in
          let step = codes.codes p (omega arith) in
          get_or-map (λ (x : Sent). x.block) sent p none_sent
          ∙ ap (λ (k : ℕ). (get_or sent k none_sent).block) (sym (from_one p)) ∙ step.coded
          ∙ ap (λ (q : Bool). info_sent sent p + digit q * 2 ^ (n - 1)) (sym (coded-bit step))

    -- from a started memory the parity is the sum
    pub coded_at_lem : (bs : List ℕ) → Below (n - 1) bs → (p : ℕ) → p < length bs
        → get_or (coded_form t bs) p 0 ≡ coded_at t (λ i. get_or bs i 0) p
    coded_at_lem bs below p h =
        let s = started (coder_words t) in
        let f = (started_formed t fits).0 in
        let u = sent_by s (calls t bs) in
        let each = sent_each t fits s f bs below in
        let size = each.size in
        let here : p % m + p / m * m ≡ p = mod-add-div' p m in
        let is : bit (n - 1) (block_sent u p) ≡ parity_at t (info_sent u) p =
        subst (λ (q : ℕ). bit (n - 1) (block_sent u q) ≡ parity_at t (info_sent u) p) here
        (parity t (calls t bs) each.tables (p % m) (p / m) (turn p) (omega arith)).0 in
        coded-own s f bs below p h ∙ ap (λ (q : Bool). info_sent u p + digit q * 2 ^ (n - 1)) is
        ∙ coded_ext (info_sent u) (λ i. get_or bs i 0) each.blocks p

    pub coded_form_below : (bs : List ℕ) → Below (n - 1) bs → Below n (coded_form t bs)
    coded_form_below bs below p h =
        let size = ((none_refused t (started (coder_words t)) bs fits).0 (started_formed t fits).0).1 below in
        let from = (fit-facts t fits).n_from in
        let all : suc (n - 1) ≡ n = omega arith in
        rw (coded_at_lem bs below p (omega arith))
        (subst (λ (k : ℕ). coded_at t (λ i. get_or bs i 0) p < 2 ^ k) all
        (topped-lt (n - 1) (get_or bs p 0) (parity_at t (λ i. get_or bs i 0) p) (below p (omega arith))))

    coded-both : (s : List ℕ) → CoderFormed t s → (xs ys : List ℕ) → length xs ≡ length ys → Below (n - 1) xs
        → Below (n - 1) ys → (p : ℕ) → p < length xs
        → get_or (coded_from t s xs) p 0 ⊕ get_or (coded_from t s ys) p 0 ≡ coded_at t (λ i. get_or xs i 0 ⊕ get_or ys i 0) p
    coded-both s f xs ys same fx fy p h =
        let u = sent_by s (calls t xs) in
        let v = sent_by s (calls t ys) in
        let x-each = sent_each t fits s f xs fx in
        let y-each = sent_each t fits s f ys fy in
        let x-size = x-each.size in
        let y-size = y-each.size in
        let x-run = codes s f xs fx in
        let y-run = codes s f ys fy in
        let here : p % m + p / m * m ≡ p = mod-add-div' p m in
        let begin = before_first coder_fault coder_next code_memory coder-memory s (calls t xs)
        ∙ sym (before_first coder_fault coder_next code_memory coder-memory s (calls t ys)) in
        let is : xor (bit (n - 1) (block_sent u p)) (bit (n - 1) (block_sent v p))
        ≡ parity_at t (λ i. info_sent u i ⊕ info_sent v i) p =
        subst (λ (q : ℕ). xor (bit (n - 1) (block_sent u q)) (bit (n - 1) (block_sent v q))
        ≡ parity_at t (λ i. info_sent u i ⊕ info_sent v i) p) here
        (parities_differ (simp length-take (omega arith)) x-run y-run begin (p % m) (p / m) (turn p) (omega arith)
        (omega arith)) in
        ap₂ ◌⊕◌ (coded-own s f xs fx p h) (coded-own s f ys fy p (omega arith))
        ∙ topped-xor (n - 1) (info_sent u p) (info_sent v p) (bit (n - 1) (block_sent u p)) (bit (n - 1) (block_sent v p))
        (x-run.codes p (omega arith)).info_lt (y-run.codes p (omega arith)).info_lt
        ∙ ap (λ (q : Bool). info_sent u p ⊕ info_sent v p + digit q * 2 ^ (n - 1)) is
        ∙ coded_ext (λ i. info_sent u i ⊕ info_sent v i) (λ i. get_or xs i 0 ⊕ get_or ys i 0)
        (λ i. ap₂ ◌⊕◌ (x-each.blocks i) (y-each.blocks i)) p

    -- ---- of the decoder

    raw_at_lem : (rs : List ℕ) → Below n rs → (p : ℕ) → p < length rs
        → get_or (raw_terms t rs) p false ≡ raw_of t (λ i. get_or rs i 0) p
    raw_at_lem rs below p h =
        let s = started (decoder_words t) in
        let u = taken_by s (calls t rs) in
        let each = taken_each t fits s (started_formed t fits).1 rs below in
        let size = each.size in
        let here : p % m + p / m * m ≡ p = mod-add-div' p m in
        ap (λ (q : ℕ). raw_at s (calls t rs) q) (sym here)
        ∙ parities t (calls t rs) each.tables (p % m) (p / m) (turn p) (omega arith)
        ∙ ap (λ (q : ℕ). xor (parity_at t (λ i. information n (block_taken u i)) p) (received n (block_taken u q))) here
        ∙ raw-ext (block_taken u) (λ i. get_or rs i 0) each.blocks p

    raw-both : (s : List ℕ) → DecoderFormed t s → (xs ys : List ℕ) → length xs ≡ length ys → Below n xs → Below n ys
        → (p : ℕ) → p < length xs
        → xor (get_or (raw_from t s xs) p false) (get_or (raw_from t s ys) p false)
        ≡ raw_of t (λ i. get_or xs i 0 ⊕ get_or ys i 0) p
    raw-both s f xs ys same fx fy p h =
        let u = taken_by s (calls t xs) in
        let v = taken_by s (calls t ys) in
        let x-each = taken_each t fits s f xs fx in
        let y-each = taken_each t fits s f ys fy in
        let x-size = x-each.size in
        let y-size = y-each.size in
        let here : p % m + p / m * m ≡ p = mod-add-div' p m in
        let begin = before_first decoder_fault decoder_next decode_memory decoder-memory s (calls t xs)
        ∙ sym (before_first decoder_fault decoder_next decode_memory decoder-memory s (calls t ys)) in
        ap (λ (q : ℕ). xor (raw_at s (calls t xs) q) (raw_at s (calls t ys) q)) (sym here)
        ∙ raws_differ (simp length-take (omega arith)) (decoded t s (calls t xs) x-each.tables)
        (decoded t s (calls t ys) y-each.tables) begin (raw_at s (calls t xs)) (raw_at s (calls t ys))
        (register_at s (calls t xs)) (register_at s (calls t ys)) (found_at s (calls t xs)) (found_at s (calls t ys))
        (verdict t s (calls t xs) x-each.tables) (verdict t s (calls t ys) y-each.tables) (p % m) (p / m) (turn p)
        (omega arith) (omega arith)
        ∙ ap₂ xor
        (parity-ext (λ i. information n (block_taken u i) ⊕ information n (block_taken v i))
        (λ i. information n (block_taken u i ⊕ block_taken v i))
        (λ i. sym (xor_mod (block_taken u i) (block_taken v i) (n - 1))) p)
        (ap (λ (q : ℕ). xor (received n (block_taken u q)) (received n (block_taken v q))) here
        ∙ sym (bit-xor (n - 1) (block_taken u p) (block_taken v p)))
        ∙ raw-ext (λ i. block_taken u i ⊕ block_taken v i) (λ i. get_or xs i 0 ⊕ get_or ys i 0)
        (λ i. ap₂ ◌⊕◌ (x-each.blocks i) (y-each.blocks i)) p

-- ---- the law

pub coded-forms-differ : CodedFormsDiffer
coded-forms-differ t s fits f =
    adds ◌⊕◌ 0 (xor_zero_l 0) (t.symbols - 1) (coded_from t s) (coded_form t) (coded_at t)
    (λ bs. ((none_refused t s bs fits).0 f).1)
    (λ bs. ((none_refused t (started (coder_words t)) bs fits).0 (started_formed t fits).0).1) (coded_ext t)
    (coded_at_lem t fits) (coded-both t fits s f)

pub raw-terms-differ : RawTermsDiffer
raw-terms-differ t s fits f =
    adds xor false (xor-false-l false) t.symbols (raw_from t s) (raw_terms t) (raw_of t)
    (λ rs. ((none_refused t s rs fits).1 f).1)
    (λ rs. ((none_refused t (started (decoder_words t)) rs fits).1 (started_formed t fits).1).1) (raw-ext t)
    (raw_at_lem t fits) (raw-both t fits s f)

pub coded_forms_add : CodedFormsAdd
coded_forms_add t fits = coded-forms-differ t (started (coder_words t)) fits (started_formed t fits).0

pub raw_terms_add : RawTermsAdd
raw_terms_add t fits = raw-terms-differ t (started (decoder_words t)) fits (started_formed t fits).1

-- ---- where it fails

pub deliveries_need_not_add : DeliveriesNeedNotAdd
unfolding zip_with flat_map answers_by decode_answer decode_memory decoder_fault answered leaves step_fault first_of fit
    sizes_fit rows_fit some_above decoder_joining decoder_register decoder_found part_next decoder_next delivered delivery
    joining least_from least_coefficients combination bit odd xor ◌⊕◌
deliveries_need_not_add = (
  refl,
  refl,
  refl,
  λ law.
      let z : ◌≡◌ {A = ℕ} 1 0 =
      ap (λ (l : List ℕ). get_or l 0 0)
      (law (2 ∷ 2 ∷ 0 ∷ 0 ∷ []) (2 ∷ 0 ∷ 0 ∷ 2 ∷ []) refl
      (each_at (λ i. get_or (2 ∷ 2 ∷ 0 ∷ 0 ∷ []) i 0 < 4) 4
      (omega arith, (omega arith, (omega arith, (omega arith, tt)))))
      (each_at (λ i. get_or (2 ∷ 0 ∷ 0 ∷ 2 ∷ []) i 0 < 4) 4
      (omega arith, (omega arith, (omega arith, (omega arith, tt)))))) in
      omega arith,
)
