-- Why a load is corrected: it is errors that are far enough apart, added to a coded message, from started memories on.
-- Assumes nothing.
--
--   disturbed_message, load_received, load_corrected   the theorems
use mathlib.Core.Path.{◌≡◌, refl, sym, ap, ◌∙◌, subst}
use mathlib.Core.Bool.{true}
use mathlib.Core.Logic.{◌⊎◌, inl, inr}
use mathlib.Core.List.{List, zip_with}
use Prim.Native.Nat.{ℕ, zero, suc, ◌+◌, ◌-◌, ◌≤◌, ◌<◌}
use native.Mathlib.Omega.{arith}
use lib.ListN.{length, get_or, replicate, length-replicate, get_or-map}
use lib.Seq.{ext_get_or}
use Rattle.span.specs.Word.{◌⊕◌}
use Rattle.span.specs.Combination.{Below}
use Rattle.span.proofs.Word.{xor_zero_l, xor_zero_r, xor_comm, xor_assoc, xor_self}
use Rattle.tables.specs.declared.table.Table.{Table}
use Rattle.tables.specs.Table.{fit}
use Rattle.tables.proofs.Fit.{fit-facts, zeros-at}
use Rattle.link.specs.Memory.{started, coder_words, decoder_words, delay_of}
use Rattle.link.specs.Runs.{Sent, Taken, sent_by, sent_at, taken_at, none_sent, none_taken}
use Rattle.link.specs.Recovery.{Origin, Wrong, Separated, Running}
use Rattle.link.specs.Clean.{Tells}
use Rattle.link.specs.Computed.{calls}
use Rattle.link.specs.Sums.{coded_form}
use Rattle.link.proofs.Origin.{origin-known}
use Rattle.link.proofs.Formed.{started_formed}
use Rattle.link.proofs.Massey.{waiting}
use Rattle.link.proofs.Clean.{clean_marks, started_clean}
use Rattle.link.proofs.Taken.{OneEach, none_refused, sent_each, taken_each}
use Rattle.link.proofs.Sums.{zip_size, blocks_at, blocks-below, coded_form_below, coded_forms_add}
use Rattle.load.specs.Load.{load_of}
use Rattle.load.specs.Corrected.{taken_from, CorrectedTo, LoadCorrected, LoadReceived, DisturbedMessage}
use Rattle.load.proofs.Load.{zeros-below, load_length, load_below}
use Rattle.load.proofs.Apart.{Apart, load_apart}

-- ---- errors that are far enough apart

module _ (t : Table) (o : Origin t) (infos errs : List ℕ) (below : Below (t.symbols - 1) infos)
    (small : Below t.symbols errs) (same : length errs ≡ length infos)
    (apart : Apart t.depth (delay_of t) errs) where
  abbrev rs : List ℕ
  rs = zip_with ◌⊕◌ (coded_form t infos) errs

  abbrev sent : List Sent
  sent = sent_by (started (coder_words t)) (calls t infos)

  fits : fit t ≡ true
  fits = (origin-known t o).fits

  coded-size : length (coded_form t infos) ≡ length infos
  coded-size = ((none_refused t (started (coder_words t)) infos fits).0 (started_formed t fits).0).1 below

  received-size : length rs ≡ length infos
  received-size = zip_size ◌⊕◌ (coded_form t infos) errs (coded-size ∙ sym same) ∙ coded-size

  received-below : Below t.symbols rs
  received-below =
      blocks-below t.symbols (coded_form t infos) errs (coded-size ∙ sym same) (coded_form_below t fits infos below)
      small

  sent-ones : OneEach (λ (x : Sent). x.table) (λ (x : Sent). x.info) none_sent t infos sent
  sent-ones = sent_each t fits (started (coder_words t)) (started_formed t fits).0 infos below

  taken-ones : OneEach (λ (x : Taken). x.table) (λ (x : Taken). x.block) none_taken t rs (taken_from t rs)
  taken-ones = taken_each t fits (started (decoder_words t)) (started_formed t fits).1 rs received-below

  running : Running t (started (coder_words t)) (started (decoder_words t)) (calls t infos) (calls t rs)
  running =
      let a = sent-ones.size in
      let b = taken-ones.size in
      let c = received-size in
      record {
        origin = o;
        coder_tables = sent-ones.tables;
        decoder_tables = taken-ones.tables;
        enough = omega arith;
      }

  coded_at_lem : (p : ℕ) → get_or (coded_form t infos) p 0 ≡ (sent_at sent (suc p)).block
  coded_at_lem p =
      let here : p ≡ suc p - 1 = omega arith in
      get_or-map (λ (x : Sent). x.block) sent p none_sent ∙ ap (λ (k : ℕ). (get_or sent k none_sent).block) here

  -- a block is taken as it was sent, with its error added
  taken_at_lem : (p : ℕ) → (taken_at (taken_from t rs) (suc p)).block ≡ (sent_at sent (suc p)).block ⊕ get_or errs p 0
  taken_at_lem p =
      taken-ones.blocks p ∙ blocks_at (coded_form t infos) errs (coded-size ∙ sym same) p
      ∙ ap (λ (b : ℕ). b ⊕ get_or errs p 0) (coded_at_lem p)

  right : (p : ℕ) → get_or errs p 0 ≡ 0 → (taken_at (taken_from t rs) (suc p)).block ≡ (sent_at sent (suc p)).block
  right p none =
      let b = (sent_at sent (suc p)).block in
      taken_at_lem p ∙ ap (λ (e : ℕ). b ⊕ e) none ∙ xor_zero_r b

  error-at : (q : ℕ) → 1 ≤ q → (taken_at (taken_from t rs) q).block ⊕ (sent_at sent q).block ≡ get_or errs (q - 1) 0
  error-at zero from = absurd (omega arith)
  error-at (suc p) from =
      let b = (sent_at sent (suc p)).block in
      let e = get_or errs p 0 in
      let here : p ≡ suc p - 1 = omega arith in
      ap (λ (a : ℕ). a ⊕ b) (taken_at_lem p ∙ xor_comm b e) ∙ xor_assoc e b b ∙ ap (λ (z : ℕ). e ⊕ z) (xor_self b)
      ∙ xor_zero_r e ∙ ap (λ (k : ℕ). get_or errs k 0) here

  separated : Separated (Wrong sent (taken_from t rs)) t.depth (delay_of t) (length (taken_from t rs))
  separated zero q from l h u v = absurd (omega arith)
  separated (suc p) zero from l h u v = absurd (omega arith)
  separated (suc p) (suc q) from l h u v =
      go (apart p q (omega arith) (λ e. u (right p e)) (λ e. v (right q e)))
    where
      go : (q < p + t.depth) ⊎ (p + delay_of t < q) → (suc q < suc p + t.depth) ⊎ (suc p + delay_of t < suc q)
      go (inl z) = inl (omega arith)
      go (inr z) = inr (omega arith)

  sent-info : (q : ℕ) → (sent_at sent q).info ≡ get_or infos (q - 1) 0
  sent-info q =
      let here : q - 1 ≡ suc (q - 1) - 1 = omega arith in
      ap (λ (k : ℕ). (get_or sent k none_sent).info) here ∙ sent-ones.blocks (q - 1)

  corrected : CorrectedTo t rs (λ (p : ℕ). get_or infos (p - 1) 0) (λ (p : ℕ). get_or errs (p - 1) 0)
  corrected =
      let decoder = started (decoder_words t) in
      let size = taken-ones.size in
      let none = zeros-at (decoder_words t) 1 in
      record {
        none_refused = ((none_refused t decoder rs fits).1 (started_formed t fits).1).0.0 received-below;
        all_taken_lem = size;
        waits = λ p from to few. waiting t decoder (calls t rs) taken-ones.tables p from (omega arith) (omega arith);
        deliveries = λ p to late.
            let q = p - delay_of t in
            let a = (taken_at (taken_from t rs) p).answer in
            subst (λ (x : ℕ). Tells a x (get_or errs (q - 1) 0)) (sent-info q)
            (subst (Tells a (sent_at sent q).info) (error-at q (omega arith))
            (clean_marks t (started (coder_words t)) decoder (calls t infos) (calls t rs) running
            (started_clean t fits) separated p late (omega arith)));
      }

-- ---- the theorems

pub disturbed_message : DisturbedMessage
disturbed_message t seed infos o below =
    let fits = (origin-known t o).fits in
    corrected t o infos (load_of t seed (length infos)) below
    (load_below t.symbols t.depth (delay_of t) seed (length infos))
    (load_length t.symbols t.depth (delay_of t) seed (length infos))
    (load_apart t.depth (delay_of t) (fit-facts t fits).m_from t.symbols seed (length infos))

abbrev zeros : ℕ → List ℕ
zeros k = replicate k 0

zeros-add : (xs : List ℕ) → zip_with ◌⊕◌ (zeros (length xs)) xs ≡ xs
zeros-add xs =
    let long = length-replicate {A = ℕ} (length xs) 0 in
    let size = zip_size ◌⊕◌ (zeros (length xs)) xs long ∙ long in
    ext_get_or 0 (zip_with ◌⊕◌ (zeros (length xs)) xs) xs size
    (λ i h.
    blocks_at (zeros (length xs)) xs long i ∙ ap (λ (z : ℕ). z ⊕ get_or xs i 0) (zeros-at (length xs) i)
    ∙ xor_zero_l (get_or xs i 0))

-- zeros are the exclusive or of zeros and zeros, and what is added to itself is 0
zeros-coded : (t : Table) (k : ℕ) → fit t ≡ true → coded_form t (zeros k) ≡ zeros k
zeros-coded t k known =
    let below = zeros-below (t.symbols - 1) k in
    let form = coded_form t (zeros k) in
    let long = length-replicate {A = ℕ} k 0 in
    let size = ((none_refused t (started (coder_words t)) (zeros k) known).0 (started_formed t known).0).1 below in
    let both : zeros k ≡ zip_with ◌⊕◌ (zeros k) (zeros k) =
    sym (ap (λ (j : ℕ). zip_with ◌⊕◌ (zeros j) (zeros k)) (sym long) ∙ zeros-add (zeros k)) in
    ext_get_or 0 form (zeros k) size
    (λ i h.
    ap (λ (l : List ℕ). get_or (coded_form t l) i 0) both
    ∙ ap (λ (l : List ℕ). get_or l i 0) (coded_forms_add t known (zeros k) (zeros k) refl below below)
    ∙ blocks_at form form refl i ∙ xor_self (get_or form i 0) ∙ sym (zeros-at k i))

pub load_received : LoadReceived
load_received t seed k known =
    let long = length-replicate {A = ℕ} k 0 in
    let blocks = load_of t seed k in
    let size = load_length t.symbols t.depth (delay_of t) seed k in (
      zeros-coded t k known,
      ap (λ (j : ℕ). zip_with ◌⊕◌ (coded_form t (zeros k)) (load_of t seed j)) long
          ∙ ap (λ (l : List ℕ). zip_with ◌⊕◌ l blocks) (zeros-coded t k known ∙ ap zeros (sym size))
          ∙ zeros-add blocks,
    )

pub load_corrected : LoadCorrected
load_corrected t seed k o =
    let long = length-replicate {A = ℕ} k 0 in
    let c =
    subst (λ (j : ℕ). CorrectedTo t (load_of t seed k) (λ (p : ℕ). get_or (zeros k) (p - 1) 0)
    (λ (p : ℕ). get_or (load_of t seed j) (p - 1) 0)) long
    (subst (λ (rs : List ℕ). CorrectedTo t rs (λ (p : ℕ). get_or (zeros k) (p - 1) 0)
    (λ (p : ℕ). get_or (load_of t seed (length (zeros k))) (p - 1) 0))
    (load_received t seed k (origin-known t o).fits).1
    (disturbed_message t seed (zeros k) o (zeros-below (t.symbols - 1) k))) in
    record {
      none_refused = c.none_refused;
      all_taken_lem = c.all_taken_lem;
      waits = c.waits;
      deliveries = λ p to late.
          let q = p - delay_of t in
          let a = (taken_at (taken_from t (load_of t seed k)) p).answer in
          subst (λ (x : ℕ). Tells a x (get_or (load_of t seed k) (q - 1) 0)) (zeros-at k (q - 1)) (c.deliveries p to late);
    }
