-- Demand 2: the streams of runs from memories of zeros, as the sequences of `Convolution` and `Register`. Assumes
-- nothing.
--
--   coded-bit          the parity of a coded block
--   coder_pending_lem, coder_parity, coder_zero   a stream of the coder: the pending word, the parity, and the sum over all
--                                             symbols
--   decoder_pending, decoder_parities, decoder_raw, decoder_register_lem   a stream of the decoder: the pending word, the
--                      raw term by the parities and by the blocks, and the register
--   decoder_delivers   what a decoder delivers, from any memory
--   parity, syndromes, syndrome_errors, registers, pendings, pendings-received, deliveries   the theorems
--   parities           the raw terms as the paper forms them
use mathlib.Core.Path.{◌≡◌, sym, ap, ap₂, ◌∙◌, subst}
use mathlib.Core.Bool.{Bool, false, cond, xor}
use mathlib.Core.Logic.{◌↔◌, ◌⊎◌, inl, inr}
use mathlib.Core.List.{List, [], ◌∷◌, ◌++◌}
use Prim.Native.Nat.{ℕ, zero, suc, ◌+◌, ◌-◌, ◌*◌, ◌/◌, ◌%◌, ◌^◌, ◌≤◌, ◌<◌}
use native.Mathlib.Omega.{arith}
use lib.Dec.{leb}
use lib.ListN.{length, get_or, length-append, length-take}
use lib.Seq.{length-take-le}
use Rattle.link.specs.declared.decode.Delivered.{Delivered}
use Rattle.std.specs.Prelude.{Option, Some, None, Ok}
use Rattle.span.specs.Word.{◌⊕◌, odd, bit, digit}
use Rattle.span.specs.Combination.{combination}
use Rattle.span.proofs.Word.{xor-false-r}
use Rattle.span.proofs.Combination.{combination-lt}
use Rattle.tables.specs.declared.table.Table.{Table}
use Rattle.tables.specs.Table.{rows_of, info_rows}
use Rattle.tables.proofs.Fit.{zeros-at}
use Rattle.link.specs.Memory.{joining, started, coder_words, turn_of, decoder_words, pending_at, fill_of, delay_of}
use Rattle.link.specs.Memory.{pending_of}
use Rattle.link.specs.Step.{information, parity as received, found, error_of, kept_of, mark_of}
use Rattle.link.specs.Refusals.{Answer, coder_fault, decoder_fault}
use Rattle.link.specs.Coder.{coder_next, code_memory}
use Rattle.link.specs.Decoder.{decoder_next, decode_memory}
use Rattle.link.specs.Runs.{Call, DecoderTables, sent_by, taken_by, taken_at, placed}
use Rattle.link.specs.Massey.{convolution, HoldsPast, stream, info_sent, block_sent, block_taken, raw_at, register_at}
use Rattle.link.specs.Massey.{found_at, ParityLaw, Syndrome, SyndromeErrors, RegisterLaw, Pending, PendingReceived}
use Rattle.link.specs.Massey.{ErrorFound, DeliveryLaw, Waiting}
use Rattle.link.specs.Marks.{NoError, LeastError}
use Rattle.link.proofs.Marks.{found_told}
use Rattle.link.proofs.Origin.{below-snoc}
use Rattle.link.proofs.Step.{topped_low, topped_bit, joined_half, joined_odd, coder_half, coder_even}
use Rattle.link.proofs.Interleaving.{place-first, place-next, place-earlier}
use Rattle.link.proofs.Runs.{coder_before, decoder_before, before_first, coder-memory, decoder-memory}
use Rattle.link.proofs.Runs.{coder-placed, decoder-placed, sent-place, taken-place}
use Rattle.tables.proofs.Fit.{Fits}
use Rattle.link.proofs.Coder.{CoderStep}
use Rattle.link.proofs.Decoder.{Verdict, stream_in, pending_in, syndrome_in, delayed_in}
use Rattle.link.proofs.OneTable.{coded, taken_table, decoded, verdict}
use Rattle.link.proofs.Turn.{CoderRun, DecoderRun, coder_again, coder_first, pending_again, pending_first}
use Rattle.link.proofs.Turn.{syndrome_again, syndrome_first}
use Rattle.link.proofs.Delay.{fill_complete, fill_waits, oldest}
use Rattle.link.proofs.Convolution.{convolution-xor, stream_convolution, stream_past}
use Rattle.link.proofs.Register.{register_lt, register_bit}

-- ---- images with the parity's row

all-images : (n N m : ℕ) (infos : List ℕ) → Fits n N m infos → (c : ℕ) → combination (infos ++ (1 ∷ [])) c < 2 ^ N
all-images n N m infos f c =
    combination-lt N (infos ++ (1 ∷ [])) c (below-snoc N infos (let z = f.N_from in omega arith) f.below)

all-size : (n N m : ℕ) (infos : List ℕ) → Fits n N m infos → length infos ≡ n - 1 → length (infos ++ (1 ∷ [])) ≤ n
all-size n N m infos f h = let z = f.n_from in simp length-append (omega arith)

-- ---- a coded block has its parity as bit n − 1

pub coded-bit : {n N m : ℕ} {infos s : List ℕ} {b c : ℕ} {after : List ℕ} → CoderStep n N m infos s b c after
    → bit (n - 1) c ≡ odd (joining infos (pending_at s (turn_of s)) b)
coded-bit {n} {infos = infos} {s} {b} step =
    ap (bit (n - 1)) step.coded
    ∙ topped_bit (n - 1) b (odd (joining infos (pending_at s (turn_of s)) b)) step.info_lt

-- ---- a stream of the coder

module _ {n N m : ℕ} {infos : List ℕ} {M : ℕ → List ℕ} {B C : ℕ → ℕ} {count : ℕ} (l : CoderRun n N m infos M B C count)
    (r b : ℕ) (low : r < m) (inside : r + b * m < count) where
  abbrev pub pending : ℕ → ℕ
  pending k = pending_at (M (r + k * m)) (turn_of (M (r + k * m)))

  pub step : (k : ℕ) → k ≤ b
      → CoderStep n N m infos (M (r + k * m)) (B (r + k * m)) (C (r + k * m)) (M (suc (r + k * m)))
  step k h = l.codes (r + k * m) (place-earlier m r b k count inside h)

  pub pending_begin : pending 0 ≡ pending_at (M 0) ((turn_of (M 0) + r) % m)
  pending_begin =
      let z = place-earlier m r b 0 count inside (omega arith) in
      ap (λ (q : ℕ). pending_at (M q) (turn_of (M q))) (place-first m r) ∙ coder_first l r low (omega arith)

  pub pending_on : (k : ℕ) → k < b → pending (suc k) ≡ joining infos (pending k) (B (r + k * m)) / 2
  pending_on k h =
      let z = place-earlier m r b (suc k) count inside h in
      let p = place-next m r k in
      ap (λ (q : ℕ). pending_at (M q) (turn_of (M q))) p ∙ coder_again l (r + k * m) (omega arith)

  pub coder_bit : bit (n - 1) (stream m r C b) ≡ odd (joining infos (pending b) (B (r + b * m)))
  coder_bit = coded-bit (step b (omega arith))

  module _ (zeros : (i : ℕ) → get_or (M 0) i 0 ≡ 0) where
    pending-start : pending 0 ≡ 0
    pending-start = pending_begin ∙ zeros (1 + (turn_of (M 0) + r) % m)

    parity-sum : length infos ≤ n - 1
        → odd (joining infos (pending b) (B (r + b * m))) ≡ convolution (n - 1) N infos (stream m r B) b
    unfolding joining
    parity-sum size =
        stream_convolution (n - 1) N infos (stream m r B) pending (suc b) size
        (λ c. combination-lt N infos c (step b (omega arith)).fits.below) pending-start
        (λ k h. pending_on k (omega arith)) b (omega arith)

    pub coder_pending_lem : length infos ≤ n - 1 → HoldsPast (n - 1) N infos (stream m r B) b (pending b)
    unfolding joining
    coder_pending_lem size =
        stream_past (n - 1) N infos (stream m r B) pending (suc b) size
        (λ c. combination-lt N infos c (step b (omega arith)).fits.below) pending-start
        (λ k h. pending_on k (omega arith)) b (omega arith)

    pub coder_parity : length infos ≤ n - 1
        → (bit (n - 1) (stream m r C b) ≡ convolution (n - 1) N infos (stream m r B) b)
        × (stream m r C b % 2 ^ (n - 1) ≡ stream m r B b)
    coder_parity size =
        let s = step b (omega arith) in
        let p = odd (joining infos (pending b) (B (r + b * m))) in (
          coder_bit ∙ parity-sum size,
          ap (λ (x : ℕ). x % 2 ^ (n - 1)) s.coded ∙ topped_low (n - 1) (B (r + b * m)) p s.info_lt,
        )

    -- with the parity's row nothing is left of what is sent
    pub coder_zero : length infos ≡ n - 1 → convolution n N (infos ++ (1 ∷ [])) (stream m r C) b ≡ false
    coder_zero size =
        let s = step b (omega arith) in
        let f = s.fits in
        sym (stream_convolution n N (infos ++ (1 ∷ [])) (stream m r C) pending (suc b) (all-size n N m infos f size)
        (all-images n N m infos f) pending-start
        (λ k h.
        let q = step k (omega arith) in
        pending_on k (omega arith)
        ∙ sym (coder_half infos (n - 1) size (pending k) 0 (B (r + k * m)) (C (r + k * m)) 0 q.info_lt q.coded))
        b (omega arith))
        ∙ coder_even infos (n - 1) size (pending b) 0 (B (r + b * m)) (C (r + b * m)) 0 s.info_lt s.coded

-- ---- a stream of the decoder

module _ {n N m : ℕ} {infos : List ℕ} {S : ℕ → List ℕ} {R : ℕ → ℕ} {A : ℕ → Answer (Option Delivered)} {count : ℕ}
    (l : DecoderRun n N m infos S R A count) (r b : ℕ) (low : r < m) (inside : r + b * m < count) where
  abbrev pub joins : ℕ → ℕ
  joins k = pending_in N (S (r + k * m))

  abbrev syndrome : ℕ → ℕ
  syndrome k = syndrome_in N (S (r + k * m))

  pub joins_begin : joins 0 ≡ get_or (S 0) (stream_in N ((turn_of (S 0) + r) % m)) 0
  joins_begin =
      let z = place-earlier m r b 0 count inside (omega arith) in
      ap (λ (q : ℕ). pending_in N (S q)) (place-first m r) ∙ pending_first l r low (omega arith)

  pub joins_on : (k : ℕ) → k < b → joins (suc k) ≡ joining infos (joins k) (R (r + k * m) % 2 ^ (n - 1)) / 2
  joins_on k h =
      let z = place-earlier m r b (suc k) count inside h in
      let p = place-next m r k in
      ap (λ (q : ℕ). pending_in N (S q)) p ∙ pending_again l (r + k * m) (omega arith)

  module _ (raw : ℕ → Bool) (register : ℕ → ℕ) (error : ℕ → Option ℕ)
      (judges : (p : ℕ) → p < count → Verdict n N infos (S p) (R p) (raw p) (register p) (error p))
      (zeros : (i : ℕ) → get_or (S 0) i 0 ≡ 0) where
    judged : (k : ℕ) → k ≤ b
        → Verdict n N infos (S (r + k * m)) (R (r + k * m)) (raw (r + k * m)) (register (r + k * m)) (error (r + k * m))
    judged k h = judges (r + k * m) (place-earlier m r b k count inside h)

    joins-start : joins 0 ≡ 0
    joins-start = joins_begin ∙ zeros (stream_in N ((turn_of (S 0) + r) % m))

    pub decoder_pending : length infos ≤ n - 1
        → HoldsPast (n - 1) N infos (stream m r (λ p. R p % 2 ^ (n - 1))) b (joins b)
    unfolding joining
    decoder_pending size =
        stream_past (n - 1) N infos (stream m r (λ p. R p % 2 ^ (n - 1))) joins (suc b) size
        (λ c. combination-lt N infos c (l.decodes (r + b * m) inside).fits.below) joins-start
        (λ k h. joins_on k (omega arith)) b (omega arith)

    -- the parity formed by coding what was received as information, and the parity received
    pub decoder_parities : length infos ≤ n - 1
        → stream m r raw b
        ≡ xor (convolution (n - 1) N infos (stream m r (λ p. R p % 2 ^ (n - 1))) b) (bit (n - 1) (stream m r R b))
    unfolding joining
    decoder_parities size =
        (judged b (omega arith)).raw_is
        ∙ ap (λ (s : Bool). xor s (bit (n - 1) (stream m r R b)))
        (stream_convolution (n - 1) N infos (stream m r (λ p. R p % 2 ^ (n - 1))) joins (suc b) size
        (λ c. combination-lt N infos c (l.decodes (r + b * m) inside).fits.below) joins-start
        (λ k h. joins_on k (omega arith)) b (omega arith))

    pub decoder_raw : length infos ≡ n - 1 → stream m r raw b ≡ convolution n N (infos ++ (1 ∷ [])) (stream m r R) b
    decoder_raw size =
        let f = (l.decodes (r + b * m) inside).fits in
        (judged b (omega arith)).raw_is ∙ sym (joined_odd infos (n - 1) size (joins b) (R (r + b * m)))
        ∙ stream_convolution n N (infos ++ (1 ∷ [])) (stream m r R) joins (suc b) (all-size n N m infos f size)
        (all-images n N m infos f) joins-start
        (λ k h. joins_on k (omega arith) ∙ sym (joined_half infos (n - 1) size (joins k) (R (r + k * m)))) b
        (omega arith)

    syndrome-start : syndrome 0 ≡ 0
    syndrome-start =
        let z = place-earlier m r b 0 count inside (omega arith) in
        let p = place-first m r in
        ap (λ (q : ℕ). syndrome_in N (S q)) p ∙ syndrome_first l r low (omega arith)
        ∙ zeros (stream_in N ((turn_of (S 0) + r) % m) + 1)

    syndrome_on : (k : ℕ) → k < b → syndrome (suc k) ≡ kept_of (stream m r error k) (stream m r register k)
    syndrome_on k h =
        let z = place-earlier m r b (suc k) count inside h in
        let p = place-next m r k in
        let v = judged k (omega arith) in
        ap (λ (q : ℕ). syndrome_in N (S q)) p ∙ syndrome_again l (r + k * m) (omega arith)
        ∙ sym (ap₂ kept_of v.found_is v.register_is)

    register-joins : (k : ℕ) → k ≤ b → stream m r register k ≡ syndrome k + digit (stream m r raw k) * 2 ^ (N - 1)
    register-joins k h =
        let v = judged k h in
        v.register_is ∙ ap (λ (s : Bool). syndrome k + digit s * 2 ^ (N - 1)) (sym v.raw_is)

    cleared : (c : ℕ) → c ≤ b → (c ≡ 0) ⊎ ((e : ℕ) × (stream m r error (c - 1) ≡ Some e)) → syndrome c ≡ 0
    cleared zero h z = syndrome-start
    cleared (suc c) h (inl z) = absurd (omega arith)
    cleared (suc c) h (inr (e, is)) =
        syndrome_on c h
        ∙ ap (λ (f : Option ℕ). kept_of f (stream m r register c))
        (ap (stream m r error) (let p : c ≡ suc c - 1 = omega arith in p) ∙ is)

    pub decoder_register_lem : (c : ℕ) → c ≤ b → (c ≡ 0) ⊎ ((e : ℕ) × (stream m r error (c - 1) ≡ Some e))
        → ((d : ℕ) → c ≤ d → d < b → stream m r error d ≡ None)
        → (stream m r register b < 2 ^ N)
        × ((k : ℕ) → k < N
        → bit (N - 1 - k) (stream m r register b) ≡ cond (leb (c + k) b) (stream m r raw (b - k)) false)
    decoder_register_lem c from clear none =
        let N_from = (l.decodes (r + b * m) inside).fits.N_from in
        let w = N - 1 in
        let halves : (d : ℕ) → c ≤ d → d < b → syndrome (suc d) ≡ stream m r register d / 2 =
        (λ d f h. syndrome_on d h ∙ ap (λ (f : Option ℕ). kept_of f (stream m r register d)) (none d f h)) in (
          subst (λ (k : ℕ). stream m r register b < 2 ^ k) (let e : suc (N - 1) ≡ N = omega arith in e)
              (register_lt w syndrome (stream m r register) (stream m r raw) c b (cleared c from clear)
              (λ d f h. register-joins d h) halves from),
          λ k h.
              register_bit w syndrome (stream m r register) (stream m r raw) c b (cleared c from clear)
              (λ d f h. register-joins d h) halves from (w - k) k
              (omega arith),
        )

-- ---- what is delivered

module _ {n N m : ℕ} {infos : List ℕ} {S : ℕ → List ℕ} {R : ℕ → ℕ} {A : ℕ → Answer (Option Delivered)} {count : ℕ}
    (l : DecoderRun n N m infos S R A count)
    (raw : ℕ → Bool) (register : ℕ → ℕ) (error : ℕ → Option ℕ)
    (judges : (p : ℕ) → p < count → Verdict n N infos (S p) (R p) (raw p) (register p) (error p)) where
  pub decoder_delivers : (p q : ℕ) → p < count → q + m * (N - 1) ≡ p
      → A p ≡ Ok (Some (record {
        info = R q % 2 ^ (n - 1) ⊕ error_of (error p) % 2 ^ (n - 1);
        mark = mark_of (2 ^ (n - 1)) (error p) (register p);
      }))
  decoder_delivers p q h e =
      let v = judges p h in
      (l.decodes p h).answers (fill_complete l p h (omega arith))
      ∙ ap₂ (λ (f : Option ℕ) (x : ℕ).
      Ok (Some (record { info = delayed_in N (S p) 0 ⊕ error_of f % 2 ^ (n - 1); mark = mark_of (2 ^ (n - 1)) f x })))
      (sym v.found_is) (sym v.register_is)
      ∙ ap (λ (x : ℕ). Ok (Some (record {
        info = x ⊕ error_of (error p) % 2 ^ (n - 1);
        mark = mark_of (2 ^ (n - 1)) (error p) (register p);
      }))) (oldest l p q h e)

-- ---- runs from started memories

info-size : (t : Table) → t.symbols - 1 ≤ length t.rows → length (info_rows t) ≡ t.symbols - 1
info-size t room = length-take-le (t.symbols - 1) t.rows room

coder-zeros : (t : Table) (cs : List Call) (i : ℕ) → get_or (coder_before (started (coder_words t)) cs 0) i 0 ≡ 0
coder-zeros t cs i =
    ap (λ (s : List ℕ). get_or s i 0)
    (before_first coder_fault coder_next code_memory coder-memory (started (coder_words t)) cs) ∙ zeros-at (coder_words t) i

decoder-zeros : (t : Table) (ds : List Call) (i : ℕ) → get_or (decoder_before (started (decoder_words t)) ds 0) i 0 ≡ 0
decoder-zeros t ds i =
    ap (λ (s : List ℕ). get_or s i 0)
    (before_first decoder_fault decoder_next decode_memory decoder-memory (started (decoder_words t)) ds)
    ∙ zeros-at (decoder_words t) i

pub parity : ParityLaw
parity t cs tables r b low inside =
    coder_parity (coded t (started (coder_words t)) cs tables) r b low inside (coder-zeros t cs)
    (simp length-take (omega arith))

pub syndromes : Syndrome
syndromes t ds room tables r b low inside =
    let s = started (decoder_words t) in
    decoder_raw (decoded t s ds tables) r b low inside (raw_at s ds) (register_at s ds) (found_at s ds)
    (verdict t s ds tables) (decoder-zeros t ds) (info-size t room)

-- 000, II.B: "the parity sequence formed by encoding the received information sequences", and the received one
pub parities : (t : Table) (ds : List Call) →
    let memory = started (decoder_words t) in
    let block = block_taken (taken_by memory ds) in
    DecoderTables t memory ds → (r b : ℕ) → r < t.depth → r + b * t.depth < length (taken_by memory ds)
    → stream t.depth r (raw_at memory ds) b
    ≡ xor (convolution (t.symbols - 1) t.span (info_rows t)
    (stream t.depth r (λ p. information t.symbols (block p))) b)
    (received t.symbols (stream t.depth r block b))
parities t ds tables r b low inside =
    let s = started (decoder_words t) in
    decoder_parities (decoded t s ds tables) r b low inside (raw_at s ds) (register_at s ds) (found_at s ds)
    (verdict t s ds tables) (decoder-zeros t ds) (simp length-take (omega arith))

pub syndrome_errors : SyndromeErrors
syndrome_errors t cs ds room coder decoder enough r b low inside =
    let sent = stream t.depth r (block_sent (sent_by (started (coder_words t)) cs)) in
    let received = stream t.depth r (block_taken (taken_by (started (decoder_words t)) ds)) in
    let all = convolution t.symbols t.span (rows_of t) in
    syndromes t ds room decoder r b low inside
    ∙ sym (convolution-xor t.symbols t.span (rows_of t) received sent b
    ∙ ap (xor (all received b))
    (coder_zero (coded t (started (coder_words t)) cs coder) r b low (omega arith) (coder-zeros t cs) (info-size t room))
    ∙ xor-false-r (all received b))

pub registers : RegisterLaw
registers t ds tables r b c low inside =
    let s = started (decoder_words t) in
    decoder_register_lem (decoded t s ds tables) r b low inside (raw_at s ds) (register_at s ds) (found_at s ds)
    (verdict t s ds tables) (decoder-zeros t ds) c

pub pendings : Pending
pendings t cs tables r b low inside =
    let s = started (coder_words t) in
    let info = stream t.depth r (info_sent (sent_by s cs)) in
    subst (HoldsPast (t.symbols - 1) t.span (info_rows t) info b)
    (sym ((sent-place s cs (r + b * t.depth) inside).is (placed coder_fault (λ t s b. pending_at s (turn_of s)))
    (λ t s b. pending_at s (turn_of s)) (coder-placed (λ t s b. pending_at s (turn_of s))) 0))
    (coder_pending_lem (coded t s cs tables) r b low inside (coder-zeros t cs) (simp length-take (omega arith)))

pub pendings-received : PendingReceived
pendings-received t ds tables r b low inside =
    let s = started (decoder_words t) in
    let p = r + b * t.depth in
    let info = stream t.depth r (λ p. information t.symbols (block_taken (taken_by s ds) p)) in
    subst (HoldsPast (t.symbols - 1) t.span (info_rows t) info b)
    (sym ((taken-place s ds p inside).is (placed decoder_fault (λ t s r. pending_of t s (turn_of s)))
    (λ t s r. pending_of t s (turn_of s)) (decoder-placed (λ t s r. pending_of t s (turn_of s))) 0
    ∙ ap (λ (N : ℕ). pending_in N (decoder_before s ds p)) (taken_table t s ds tables p inside).span))
    (decoder_pending (decoded t s ds tables) r b low inside (raw_at s ds) (register_at s ds) (found_at s ds)
    (verdict t s ds tables) (decoder-zeros t ds) (simp length-take (omega arith)))

pub errors_found : ErrorFound
errors_found t s ds tables p inside =
    let rows = rows_of t in
    let x = register_at s ds p in
    let v = verdict t s ds tables p inside in
    subst
    (λ (f : Option ℕ). ((e : ℕ) → (f ≡ Some e) ↔ LeastError rows x e) × ((f ≡ None) ↔ NoError rows x))
    (sym (v.found_is ∙ ap (found rows) (sym v.register_is))) (found_told rows x)

pub deliveries : DeliveryLaw
deliveries t s ds tables p late inside =
    let taken = taken_by s ds in
    let error = found_at s ds (p - 1) in
    -- places count from 1
    let here : suc (p - 1) ≡ p = omega arith in
    let there : suc (p - delay_of t - 1) ≡ p - delay_of t = omega arith in
    ap (λ (k : ℕ). (taken_at taken k).answer) (sym here)
    ∙ decoder_delivers (decoded t s ds tables) (raw_at s ds) (register_at s ds) (found_at s ds) (verdict t s ds tables)
    (p - 1) (p - delay_of t - 1)
    (omega arith) (omega arith)
    ∙ ap (λ (k : ℕ). Ok (Some (record {
      info = information t.symbols (taken_at taken k).block ⊕ information t.symbols (error_of error);
      mark = mark_of (2 ^ (t.symbols - 1)) error (register_at s ds (p - 1));
    }))) there

pub waiting : Waiting
waiting t s ds tables p from inside few =
    let run = decoded t s ds tables in
    let here : suc (p - 1) ≡ p = omega arith in
    let first = ap fill_of (before_first decoder_fault decoder_next decode_memory decoder-memory s ds) in
    ap (λ (k : ℕ). (taken_at (taken_by s ds) k).answer) (sym here)
    ∙ (run.decodes (p - 1) (omega arith)).waits (omega (arith, fill_waits run (p - 1) (omega arith), first))
