-- Runs of one fit table from a well-formed memory on: no step is refused exactly if each block is below the bound of
-- 15. Assumes nothing.
--
--   none_refused   the theorem
--   OneEach        a run has one entry of each block, of the same table
--   sent_each, taken_each   so it is of coder and decoder
use mathlib.Core.Path.{◌≡◌, refl, sym, ap, ap₂, ◌∙◌, subst}
use mathlib.Core.Bool.{true, false}
use mathlib.Core.List.{List, [], ◌∷◌}
use Prim.Native.Nat.{ℕ, zero, suc, ◌-◌, ◌^◌, ◌≤◌, ◌<◌}
use native.Mathlib.Decide.{dec_lt}
use native.Mathlib.Omega.{arith}
use borrow.Author.Tests.{lt-leb}
use lib.ListN.{length, get_or, drop, length-map, get_or-eq_default}
use Rattle.span.specs.Combination.{Below}
use Rattle.span.proofs.Combination.{below-tail}
use Rattle.tables.specs.declared.table.Table.{Table}
use Rattle.tables.specs.Table.{fit, SameTable}
use Rattle.link.specs.Memory.{coder_words, decoder_words}
use Rattle.link.specs.Refusals.{coder_malformed, decoder_malformed, coder_fault, decoder_fault, leaves}
use Rattle.link.specs.Coder.{coder_next, code_answer, code_memory}
use Rattle.link.specs.Decoder.{decoder_next, decode_answer, decode_memory}
use Rattle.link.specs.Runs.{Sent, Taken, run, sent_of, taken_of, sent_by, taken_by, none_sent, none_taken, placed}
use Rattle.link.specs.Formed.{CoderFormed, DecoderFormed}
use Rattle.link.specs.Massey.{raw_entry}
use Rattle.link.specs.Computed.{calls, answers_by}
use Rattle.link.specs.Sums.{raw_from, NoneRefused, NoneRefusedLaw}
use Rattle.link.proofs.Refusals.{step_settled, step_passed}
use Rattle.link.proofs.Runs.{Told, run_taken, memory_taken, coder-memory, decoder-memory, sent_entry, taken_entry}
use Rattle.link.proofs.Runs.{sent-told, taken-told, decoder-placed}
use Rattle.link.proofs.Formed.{formed-exactly, formed-kept}
use Rattle.link.proofs.OneTable.{from_one}

-- the entries xs of a run, each with a table and a block, are those of the blocks bs with the table t
pub record OneEach {X : Type 0} (table_of : X → Table) (block_of : X → ℕ) (d : X) (t : Table) (bs : List ℕ) (xs : List X)
    : Type 0 where
  pub size : length xs ≡ length bs
  pub tables : (p : ℕ) → 1 ≤ p → p ≤ length xs → SameTable (table_of (get_or xs (p - 1) d)) t
  pub blocks : (p : ℕ) → block_of (get_or xs (suc p - 1) d) ≡ get_or bs p 0

equal-same : (u t : Table) → u ≡ t → SameTable u t
equal-same u t e =
    subst (λ (v : Table). SameTable v t) (sym e) (record { symbols = refl; span = refl; depth = refl; rows = refl })

-- ---- coder and decoder alike: on a well-formed memory a step is taken exactly if its block is below 2^bits, and the
-- memory after it is well-formed again

module _ (fault : Table → List ℕ → ℕ → ℕ) (next memory : Table → List ℕ → ℕ → List ℕ)
    (is-memory : (t : Table) (s : List ℕ) (b : ℕ) → memory t s b ≡ leaves (fault t s b) (next t s b) s)
    (t : Table) (bits : ℕ) (Formed : List ℕ → Type 0)
    (takes : (s : List ℕ) (b : ℕ) → Formed s → b < 2 ^ bits → fault t s b ≡ 0)
    (keeps : (s : List ℕ) (b : ℕ) → Formed s → fault t s b ≡ 0 → Formed (next t s b)) where
  all_taken_lem : (s : List ℕ) → Formed s → (bs : List ℕ) → Below bits bs → NoneRefused fault memory s (calls t bs)
  unfolding answers_by
  all_taken_lem s f [] below = refl
  all_taken_lem s f (b ∷ bs) below =
      let e = takes s b f (below 0 (omega arith)) in
      ap₂ ◌∷◌ e
      (ap (λ (m : List ℕ). answers_by fault memory m (calls t bs)) (memory_taken fault next memory is-memory t s b e)
      ∙ all_taken_lem (next t s b) (keeps s b f e) bs (below-tail bits b bs below))

  all-below : ((s : List ℕ) (b : ℕ) → fault t s b ≡ 0 → b < 2 ^ bits) → (s bs : List ℕ)
      → NoneRefused fault memory s (calls t bs) → Below bits bs
  unfolding answers_by
  all-below small s [] e i h = absurd (omega arith)
  all-below small s (b ∷ bs) e zero h = small s b (ap (λ (l : List ℕ). get_or l 0 0) e)
  all-below small s (b ∷ bs) e (suc i) h =
      all-below small (memory t s b) bs (ap (λ (l : List ℕ). drop 1 l) e) i (omega arith)

  module _ {X : Type 0} (kept : Table → List ℕ → ℕ → List X) (entry : Table → List ℕ → ℕ → X)
      (told : Told fault next memory is-memory kept entry) (d : X) where
    -- there is an entry of each block, and what is so of the entry of any step is so of it
    module _ (Of : X → ℕ → Type 0) (each : (s : List ℕ) (b : ℕ) → Of (entry t s b) b) where
      abbrev Whole : List ℕ → List X → Type 0
      Whole bs xs = (length xs ≡ length bs) × ((p : ℕ) → p < length bs → Of (get_or xs p d) (get_or bs p 0))

      one_more : (x : X) (xs : List X) (b : ℕ) (bs : List ℕ) → Of x b → Whole bs xs → Whole (b ∷ bs) (x ∷ xs)
      one_more x xs b bs first (size, rest) = (ap suc size, at)
        where
          at : (p : ℕ) → p < suc (length bs) → Of (get_or (x ∷ xs) p d) (get_or (b ∷ bs) p 0)
          at zero h = first
          at (suc p) h = rest p (omega arith)

      whole : (s : List ℕ) → Formed s → (bs : List ℕ) → Below bits bs → Whole bs (run memory kept s (calls t bs))
      unfolding run
      whole s f [] below = (refl, λ p h. absurd (omega arith))
      whole s f (b ∷ bs) below =
          let e = takes s b f (below 0 (omega arith)) in
          subst (Whole (b ∷ bs))
          (sym (run_taken fault next memory is-memory kept entry told s (record { table = t; block = b })
          (calls t bs) e))
          (one_more (entry t s b) (run memory kept (next t s b) (calls t bs)) b bs (each s b)
          (whole (next t s b) (keeps s b f e) bs (below-tail bits b bs below)))

    module _ (table_of : X → Table) (block_of : X → ℕ) (table_is : (s : List ℕ) (b : ℕ) → table_of (entry t s b) ≡ t)
        (block-is : (s : List ℕ) (b : ℕ) → block_of (entry t s b) ≡ b) (none : block_of d ≡ 0)
        (s : List ℕ) (f : Formed s) (bs : List ℕ) (below : Below bits bs) where
      abbrev xs : List X
      xs = run memory kept s (calls t bs)

      is_whole : (length xs ≡ length bs)
          × ((p : ℕ) → p < length bs → (table_of (get_or xs p d) ≡ t) × (block_of (get_or xs p d) ≡ get_or bs p 0))
      is_whole =
          whole (λ (x : X) (b : ℕ). (table_of x ≡ t) × (block_of x ≡ b)) (λ s b. (table_is s b, block-is s b)) s f bs
          below

      -- past the end both are 0
      block_at : (p : ℕ) → Dec (p < length bs) → block_of (get_or xs p d) ≡ get_or bs p 0
      block_at p (yes h) = (is_whole.1 p h).1
      block_at p (no h) =
          let size = is_whole.0 in
          ap block_of (get_or-eq_default xs d (omega arith)) ∙ none ∙ sym (get_or-eq_default bs 0 (omega arith))

      one_each : OneEach table_of block_of d t bs xs
      one_each =
          let size = is_whole.0 in
          record {
            size = size;
            tables = λ p from to.
                equal-same (table_of (get_or xs (p - 1) d)) t (is_whole.1 (p - 1) (omega arith)).0;
            blocks = λ p.
                ap (λ (k : ℕ). block_of (get_or xs k d)) (from_one p) ∙ block_at p (dec_lt p (length bs));
          }

-- ---- each

module _ (t : Table) (fits : fit t ≡ true) where
  coder-takes : (s : List ℕ) (b : ℕ) → CoderFormed t s → b < 2 ^ (t.symbols - 1) → coder_fault t s b ≡ 0
  unfolding coder_fault
  coder-takes s b f h =
      let e = (formed-exactly t s).0.0 f in
      step_settled t (coder_words t) (coder_malformed t s) (2 ^ (t.symbols - 1)) s b fits e.0 false false e.1.now
      (lt-leb (2 ^ (t.symbols - 1)) b h)

  decoder-takes : (s : List ℕ) (r : ℕ) → DecoderFormed t s → r < 2 ^ t.symbols → decoder_fault t s r ≡ 0
  unfolding decoder_fault
  decoder-takes s r f h =
      let e = (formed-exactly t s).1.0 f in
      step_settled t (decoder_words t) (decoder_malformed t s) (2 ^ t.symbols) s r fits e.0 false false e.1.now
      (lt-leb (2 ^ t.symbols) r h)

  coder-keeps : (s : List ℕ) (b : ℕ) → CoderFormed t s → coder_fault t s b ≡ 0 → CoderFormed t (coder_next t s b)
  coder-keeps s b = (formed-kept t t (equal-same t t refl) s b).0

  decoder-keeps : (s : List ℕ) (r : ℕ) → DecoderFormed t s → decoder_fault t s r ≡ 0
      → DecoderFormed t (decoder_next t s r)
  decoder-keeps s r = (formed-kept t t (equal-same t t refl) s r).1

  pub sent_each : (s : List ℕ) → CoderFormed t s → (bs : List ℕ) → Below (t.symbols - 1) bs
      → OneEach (λ (x : Sent). x.table) (λ (x : Sent). x.info) none_sent t bs (sent_by s (calls t bs))
  sent_each =
      one_each coder_fault coder_next code_memory coder-memory t (t.symbols - 1) (CoderFormed t) coder-takes coder-keeps
      (λ t s b. sent_of t b (code_answer t s b)) sent_entry sent-told none_sent (λ (x : Sent). x.table)
      (λ (x : Sent). x.info) (λ s b. refl) (λ s b. refl) refl

  pub taken_each : (s : List ℕ) → DecoderFormed t s → (rs : List ℕ) → Below t.symbols rs
      → OneEach (λ (x : Taken). x.table) (λ (x : Taken). x.block) none_taken t rs (taken_by s (calls t rs))
  taken_each =
      one_each decoder_fault decoder_next decode_memory decoder-memory t t.symbols (DecoderFormed t) decoder-takes
      decoder-keeps (λ t s r. taken_of t r (decode_answer t s r)) taken_entry taken-told none_taken
      (λ (x : Taken). x.table) (λ (x : Taken). x.block) (λ s r. refl) (λ s r. refl) refl

  raw-size : (s : List ℕ) → DecoderFormed t s → (rs : List ℕ) → Below t.symbols rs
      → length (raw_from t s rs) ≡ length rs
  raw-size s f rs below =
      (whole decoder_fault decoder_next decode_memory decoder-memory t t.symbols (DecoderFormed t) decoder-takes
      decoder-keeps (placed decoder_fault raw_entry) raw_entry (decoder-placed raw_entry) false (λ x r. Unit {0})
      (λ s r. tt) s f rs below).0

pub none_refused : NoneRefusedLaw
unfolding coder_fault decoder_fault
none_refused t s bs fits = (
  λ f. (
    (
      all_taken_lem coder_fault coder_next code_memory coder-memory t (t.symbols - 1) (CoderFormed t) (coder-takes t fits)
          (coder-keeps t fits) s f bs,
      all-below coder_fault coder_next code_memory coder-memory t (t.symbols - 1) (CoderFormed t) (coder-takes t fits)
          (coder-keeps t fits)
          (λ s b e. (step_passed t (coder_words t) (coder_malformed t s) (2 ^ (t.symbols - 1)) s b e).block) s bs,
    ),
    λ below.
        length-map (sent_by s (calls t bs)) (λ (x : Sent). x.block) ∙ (sent_each t fits s f bs below).size,
  ),
  λ f. (
    (
      all_taken_lem decoder_fault decoder_next decode_memory decoder-memory t t.symbols (DecoderFormed t)
          (decoder-takes t fits) (decoder-keeps t fits) s f bs,
      all-below decoder_fault decoder_next decode_memory decoder-memory t t.symbols (DecoderFormed t)
          (decoder-takes t fits) (decoder-keeps t fits)
          (λ s r e. (step_passed t (decoder_words t) (decoder_malformed t s) (2 ^ t.symbols) s r e).block) s bs,
    ),
    raw-size t fits s f bs,
  ),
)
