-- Well-formed memories stay well-formed: a step writes the words of its stream, each below its bound, and no other.
-- Assumes nothing.
use mathlib.Core.Path.{◌≡◌, refl, sym, ap, ◌∙◌, subst}
use mathlib.Core.Bool.{Bool, true, false, cond, not, xor}
use mathlib.Core.Logic.{◌≢◌, ◌↔◌, ◌⊎◌, inl, inr}
use mathlib.Core.List.{List, [], ◌∷◌, ◌++◌}
use Prim.Native.Nat.{ℕ, suc, ◌+◌, ◌-◌, ◌/◌, ◌%◌, ◌^◌, ◌≤◌, ◌<◌, zero-le}
use native.Mathlib.Nat.{add-zero, add_assoc, mod-lt}
use native.Mathlib.Decide.{dec_lt}
use native.Mathlib.Omega.{arith}
use borrow.Author.Tests.{eq-eqb, eqb-true, eqb-false, ltb-true}
use lib.Dec.{leb, ltb, eqb}
use lib.ListN.{length, get_or, set, length-replicate}
use lib.Seq.{get_or-set_same, get_or-set_other}
use lib.Pow.{pow_pos}
use Rattle.std.specs.Prelude.{Option}
use Rattle.link.specs.declared.decode.Delivered.{Delivered}
use Rattle.span.specs.Word.{◌⊕◌, odd, bit}
use Rattle.span.specs.Combination.{combination}
use Rattle.span.proofs.Word.{xor_lt}
use Rattle.span.proofs.Combination.{combination-lt}
use Rattle.tables.specs.declared.table.Table.{Table}
use Rattle.tables.specs.Table.{SameTable, fit, info_rows}
use Rattle.tables.proofs.Fit.{fit-facts}
use Rattle.link.specs.Memory.{joining, next_turn, started, coder_words, turn_of, decoder_words, pending_at, fill_of}
use Rattle.link.specs.Memory.{delay_of, stream_at}
use Rattle.link.specs.Step.{found}
use Rattle.link.specs.Refusals.{Answer, step_fault, coder_malformed, decoder_malformed, coder_fault, decoder_fault}
use Rattle.link.specs.Coder.{coded_block, coder_next, code_answer, code_memory}
use Rattle.link.specs.Formed.{CoderFormed, DecoderFormed, NeverMalformed, FormedExactly, FormedSteps}
use Rattle.link.specs.Formed.{StartedFormed, FormedKept, FormedThroughout}
use Rattle.link.specs.Decoder.{decoder_next, delivery, decode_answer, decode_memory}
use Rattle.link.specs.Runs.{Sent, Taken, sent_of, taken_of, sent_by, taken_by, none_sent, none_taken}
use Rattle.link.proofs.Interleaving.{turn_next}
use Rattle.link.proofs.Refusals.{step_fault_lem}
use Rattle.link.proofs.Malformed.{coder-fine, fine-coder, Fine, decoder-fine, fine-decoder}
use Rattle.span.proofs.Masks.{topped-lt}
use Rattle.tables.proofs.Fit.{zeros-at}
use Rattle.link.proofs.Sequence.{kept-lt}
use Rattle.link.proofs.Runs.{sent_entry, taken_entry, coder-memory, decoder-memory, sent-told, taken-told}
use Rattle.link.proofs.Runs.{ran_keeps}
use Rattle.tables.proofs.Fit.{Fits}
use Rattle.link.proofs.Coder.{CoderStep, coder-step, coder-length}
use Rattle.link.proofs.Decoder.{stream_in, pending_in, syndrome_in, register_in, DecoderStep, decoder_step}
use Rattle.link.proofs.Decoder.{decoder-length}
use Rattle.link.proofs.OneTable.{same_step, from_one}

-- ---- what 14 refuses for no stream

-- with stream k's turn, where that is not the first word's own
turn-set : (s : List ℕ) (k : ℕ) → 0 < length s → turn_of (set s 0 k) ≡ k
turn-set s k h = get_or-set_same s 0 k 0 h

word_set : (s : List ℕ) (k i : ℕ) → 0 < i → get_or (set s 0 k) i 0 ≡ get_or s i 0
word_set s k i h = get_or-set_other s 0 i k 0 (λ (e : i ≡ 0). omega arith)

coder-exactly : (t : Table) (s : List ℕ) → CoderFormed t s
    ↔ ((length s ≡ coder_words t) × NeverMalformed coder_malformed t s)
coder-exactly t s = (
  λ f.
      let size = f.size in (
        size,
        record {
          now = coder-fine t s f.turn (f.pending (turn_of s) f.turn);
          others = λ k h.
              let k-is = turn-set s k (omega arith) in
              coder-fine t (set s 0 k) (rw k-is h) (rw (k-is, word_set s k (1 + k) (omega arith)) (f.pending k h));
        },
      ),
  λ (size, never). record {
    size = size;
    turn = (fine-coder t s never.now).0;
    pending = λ k h.
        let k-is = turn-set s k (omega arith) in
        rw (k-is, word_set s k (1 + k) (omega arith)) at (fine-coder t (set s 0 k) (never.others k h)).1;
  },
)

-- the first word is the turn, so that another turn leaves the words of every stream, and the fill
fine-turned : (t : Table) (s : List ℕ) (k : ℕ) → Fine t s k → Fine t (set s 0 k) k
fine-turned t s k f = record {
  turn = f.turn;
  fill = rw (word_set s k 1 (omega arith)) f.fill;
  pending = rw (word_set s k (stream_at t k) (omega arith)) f.pending;
  syndrome = rw (word_set s k (stream_at t k + 1) (omega arith)) f.syndrome;
  delayed = λ i h. rw (word_set s k (stream_at t k + 2 + i) (omega arith)) (f.delayed i h);
}

fine_back : (t : Table) (s : List ℕ) (k : ℕ) → Fine t (set s 0 k) k → Fine t s k
fine_back t s k f = record {
  turn = f.turn;
  fill = rw (word_set s k 1 (omega arith)) at f.fill;
  pending = rw (word_set s k (stream_at t k) (omega arith)) at f.pending;
  syndrome = rw (word_set s k (stream_at t k + 1) (omega arith)) at f.syndrome;
  delayed = λ i h. rw (word_set s k (stream_at t k + 2 + i) (omega arith)) at (f.delayed i h);
}

decoder-exactly : (t : Table) (s : List ℕ) → DecoderFormed t s
    ↔ ((length s ≡ decoder_words t) × NeverMalformed decoder_malformed t s)
decoder-exactly t s = (
  λ f.
      let size = f.size in
      let fine : (k : ℕ) → k < t.depth → Fine t s k =
      λ k h. record {
        turn = h;
        fill = f.fill;
        pending = f.pending k h;
        syndrome = f.syndrome k h;
        delayed = λ i l. f.delayed k i h l;
      } in (
        size,
        record {
          now = decoder-fine t s (fine (turn_of s) f.turn);
          others = λ k h.
              decoder-fine t (set s 0 k)
              (subst (Fine t (set s 0 k)) (sym (turn-set s k (omega arith))) (fine-turned t s k (fine k h)));
        },
      ),
  λ (size, never).
      let fine : (k : ℕ) → k < t.depth → Fine t s k =
      λ k h. fine_back t s k
      (subst (Fine t (set s 0 k)) (turn-set s k (omega arith)) (fine-decoder t (set s 0 k) (never.others k h))) in
      let here = fine-decoder t s never.now in
      record {
        size = size;
        turn = here.turn;
        fill = here.fill;
        pending = λ k h. (fine k h).pending;
        syndrome = λ k h. (fine k h).syndrome;
        delayed = λ k i h l. (fine k h).delayed i l;
      },
)

pub formed-exactly : FormedExactly
formed-exactly t s = (coder-exactly t s, decoder-exactly t s)

-- neither 13 nor 14 applies to a memory that is long enough and not malformed
step-fine : (t : Table) (words : ℕ) (malformed : Bool) (bound : ℕ) (s : List ℕ) (b : ℕ) → length s ≡ words
    → malformed ≡ false
    → (step_fault t words malformed bound s b ≢ 13) × (step_fault t words malformed bound s b ≢ 14)
step-fine t words malformed bound s b size fine =
    let e : step_fault t words malformed bound s b ≡ cond (not (fit t)) 12 (cond (leb bound b) 15 0) =
    step_fault_lem t words malformed bound s b ∙ simp (eq-eqb (length s) words size, fine) in (
      λ h. other (not (fit t)) (leb bound b) 13 (omega arith) (omega arith) (sym e ∙ h),
      λ h. other (not (fit t)) (leb bound b) 14 (omega arith) (omega arith) (sym e ∙ h),
    )
  where
    other : (c d : Bool) (k : ℕ) → 12 < k → k < 15 → cond c 12 (cond d 15 0) ≡ k → ⊥
    other true d k l u h = omega arith
    other false true k l u h = omega arith
    other false false k l u h = omega arith

pub formed_steps : FormedSteps
unfolding coder_fault decoder_fault
formed_steps t s b = (
  λ f. step-fine t (coder_words t) (coder_malformed t s) (2 ^ (t.symbols - 1)) s b f.size
      ((coder-exactly t s).0 f).1.now,
  λ f. step-fine t (decoder_words t) (decoder_malformed t s) (2 ^ t.symbols) s b f.size
      ((decoder-exactly t s).0 f).1.now,
)

-- ---- a start

zero-lt : (words i k : ℕ) → get_or (started words) i 0 < 2 ^ k
zero-lt words i k = rw (zeros-at words i) (pow_pos k)

pub started_formed : StartedFormed
started_formed t fits =
    let z = fit-facts t fits in (
      record {
        size = length-replicate (coder_words t) 0;
        turn = rw (zeros-at (coder_words t) 0) z.m_from;
        pending = λ k h. zero-lt (coder_words t) (1 + k) (t.span - 1);
      },
      record {
        size = length-replicate (decoder_words t) 0;
        turn = rw (zeros-at (decoder_words t) 0) z.m_from;
        fill = rw (zeros-at (decoder_words t) 1) zero-le;
        pending = λ k h. zero-lt (decoder_words t) (stream_in t.span k) (t.span - 1);
        syndrome = λ k h. zero-lt (decoder_words t) (stream_in t.span k + 1) (t.span - 1);
        delayed = λ k i h l. zero-lt (decoder_words t) (stream_in t.span k + 2 + i) (t.symbols - 1);
      },
    )

-- ---- a step

pub turn_lt : (m x : ℕ) → x < m → next_turn m x < m
turn_lt m x h = go (turn_next m x)
  where
    go : ((suc x ≡ m) × (next_turn m x ≡ 0)) ⊎ ((suc x ≢ m) × (next_turn m x ≡ suc x)) → next_turn m x < m
    go (inl (a, e)) = omega arith
    go (inr (a, e)) = omega arith

-- the word that joins is below 2^N, so its half is a pending word
joining-half : (n N m : ℕ) (infos : List ℕ) (pending info : ℕ) → Fits n N m infos → pending < 2 ^ (N - 1)
    → joining infos pending info / 2 < 2 ^ (N - 1)
unfolding joining
joining-half n N m infos pending info f h =
    let from = f.N_from in
    let e : suc (N - 1) ≡ N = omega arith in
    let all : pending ⊕ combination infos info < 2 ^ suc (N - 1) =
    xor_lt (suc (N - 1)) pending (combination infos info) (omega arith)
    (subst (λ (k : ℕ). combination infos info < 2 ^ k) (sym e) (combination-lt N infos info f.below)) in
    omega arith

module _ (t : Table) (s : List ℕ) (b c : ℕ) (after : List ℕ)
    (step : CoderStep t.symbols t.span t.depth (info_rows t) s b c after)
    (long : length after ≡ length s) (f : CoderFormed t s) where
  coder_pending_lem : (k : ℕ) → k < t.depth → (q : Bool) → eqb k (turn_of s) ≡ q → pending_at after k < 2 ^ (t.span - 1)
  coder_pending_lem k h true q =
      rw (eqb-true k (turn_of s) q) (rw step.own
      (joining-half t.symbols t.span t.depth (info_rows t) (pending_at s (turn_of s)) b step.fits
      step.pending_lt))
  coder_pending_lem k h false q = rw (step.others k h (eqb-false k (turn_of s) q)) (f.pending k h)

  coder-kept : CoderFormed t after
  coder-kept = record {
    size = long ∙ f.size;
    turn = rw step.turn_on (turn_lt t.depth (turn_of s) step.turn_lt);
    pending = λ k h. coder_pending_lem k h (eqb k (turn_of s)) refl;
  }

fill-le : (fill full : ℕ) → fill ≤ full → cond (ltb fill full) (fill + 1) fill ≤ full
fill-le fill full h = go (ltb fill full) refl
  where
    go : (b : Bool) → ltb fill full ≡ b → cond b (fill + 1) fill ≤ full
    go true q = let z = ltb-true fill full q in omega arith
    go false q = h

register_lt : (n N : ℕ) (infos s : List ℕ) (r : ℕ) → syndrome_in N s < 2 ^ (N - 1)
    → register_in n N infos s r < 2 ^ suc (N - 1)
register_lt n N infos s r =
    topped-lt (N - 1) (syndrome_in N s) (xor (odd (joining infos (pending_in N s) (r % 2 ^ (n - 1)))) (bit (n - 1) r))

-- 14 would not refuse a stream after the step, if it would not before: the turn's own, and any other
module _ (t : Table) (s : List ℕ) (r : ℕ) (answer : Answer (Option Delivered)) (after : List ℕ)
    (step : DecoderStep t.symbols t.span t.depth (info_rows t) s r answer after)
    (own : Fine t s (turn_of s)) (k : ℕ) (f : Fine t s k) where
  abbrev n : ℕ
  n = t.symbols

  abbrev N : ℕ
  N = t.span

  abbrev reg : ℕ
  reg = register_in n N (info_rows t) s r

  pending-kept : (q : Bool) → eqb k (turn_of s) ≡ q → get_or after (stream_in N k) 0 < 2 ^ (N - 1)
  pending-kept true q =
      rw (eqb-true k (turn_of s) q) (rw step.pending_on
      (joining-half n N t.depth (info_rows t) (pending_in N s) (r % 2 ^ (n - 1)) step.fits step.pending_lt))
  pending-kept false q =
      let same : get_or after (stream_in N k) 0 ≡ get_or s (stream_in N k) 0 =
      ap (λ (i : ℕ). get_or after i 0) (sym (add-zero (stream_in N k)))
      ∙ step.others k 0 f.turn (omega arith) (eqb-false k (turn_of s) q)
      ∙ ap (λ (i : ℕ). get_or s i 0) (add-zero (stream_in N k)) in
      rw same f.pending

  syndrome-kept : (q : Bool) → eqb k (turn_of s) ≡ q → get_or after (stream_in N k + 1) 0 < 2 ^ (N - 1)
  syndrome-kept true q =
      rw (eqb-true k (turn_of s) q) (rw step.syndrome_on
      (kept-lt (found (info_rows t ++ (1 ∷ [])) reg) reg (N - 1) (register_lt n N (info_rows t) s r step.syndrome_lt)))
  syndrome-kept false q =
      rw (step.others k 1 f.turn (let z = step.fits.N_from in omega arith) (eqb-false k (turn_of s) q))
      f.syndrome

  -- a block that stays has its bound from the place it had before, and the youngest has no parity
  moved-kept : (i : ℕ) → i < N - 1 → Dec (suc i < N - 1) → get_or after (stream_in N (turn_of s) + 2 + i) 0 < 2 ^ (n - 1)
  moved-kept i l (yes b) = rw (step.delayed_on i b) (own.delayed (suc i) b)
  moved-kept i l (no b) = rw (step.youngest i (omega arith)) (mod-lt r (pow_pos (n - 1)))

  delayed-kept : (i : ℕ) → i < N - 1 → (q : Bool) → eqb k (turn_of s) ≡ q
      → get_or after (stream_in N k + 2 + i) 0 < 2 ^ (n - 1)
  delayed-kept i l true q = rw (eqb-true k (turn_of s) q) (moved-kept i l (dec_lt (suc i) (N - 1)))
  delayed-kept i l false q =
      let same : get_or after (stream_in N k + 2 + i) 0 ≡ get_or s (stream_in N k + 2 + i) 0 =
      ap (λ (j : ℕ). get_or after j 0) (add_assoc (stream_in N k) 2 i)
      ∙ step.others k (2 + i) f.turn (omega arith) (eqb-false k (turn_of s) q)
      ∙ ap (λ (j : ℕ). get_or s j 0) (sym (add_assoc (stream_in N k) 2 i)) in
      rw same (f.delayed i l)

  pub fine_kept : Fine t after k
  fine_kept = record {
    turn = f.turn;
    fill = rw step.fill_on (fill-le (fill_of s) (delay_of t) f.fill);
    pending = pending-kept (eqb k (turn_of s)) refl;
    syndrome = syndrome-kept (eqb k (turn_of s)) refl;
    delayed = λ i l. delayed-kept i l (eqb k (turn_of s)) refl;
  }

fine_of : (t : Table) (s : List ℕ) → DecoderFormed t s → (k : ℕ) → k < t.depth → Fine t s k
fine_of t s f k h = record {
  turn = h;
  fill = f.fill;
  pending = f.pending k h;
  syndrome = f.syndrome k h;
  delayed = λ i l. f.delayed k i h l;
}

decoder-kept : (t : Table) (s : List ℕ) (r : ℕ) (answer : Answer (Option Delivered)) (after : List ℕ)
    → DecoderStep t.symbols t.span t.depth (info_rows t) s r answer after → length after ≡ length s
    → DecoderFormed t s → DecoderFormed t after
decoder-kept t s r answer after step long f = record {
  size = long ∙ f.size;
  turn = rw step.turn_on (turn_lt t.depth (turn_of s) step.turn_lt);
  fill = (kept (turn_of s) step.turn_lt).fill;
  pending = λ k h. (kept k h).pending;
  syndrome = λ k h. (kept k h).syndrome;
  delayed = λ k i h l. (kept k h).delayed i l;
}
  where
    kept : (k : ℕ) → k < t.depth → Fine t after k
    kept k h =
        fine_kept t s r answer after step (fine_of t s f (turn_of s) step.turn_lt) k (fine_of t s f k h)

pub formed-kept : FormedKept
formed-kept t u same s b = (
  λ f e.
      let step = same_step (λ n N m infos (c : ℕ) after. CoderStep n N m infos s b c after) u t same (coded_block u s b)
      (coded_block u s b) refl
      (coder_next u s b) (coder_next u s b) refl (coder-step u s b e) in
      coder-kept t s b (coded_block u s b) (coder_next u s b) step (coder-length u s b) f,
  λ f e.
      let step = same_step (λ n N m infos (a : Answer (Option Delivered)) after. DecoderStep n N m infos s b a after) u t same
      (delivery u s b) (delivery u s b) refl
      (decoder_next u s b) (decoder_next u s b) refl (decoder_step u s b e) in
      decoder-kept t s b (delivery u s b) (decoder_next u s b) step (decoder-length u s b e) f,
)

-- ---- a run

-- places count from 1, a list's entries from 0
at_place : {X : Type 0} (allows : X → Type 0) (xs : List X) (d : X)
    → ((p : ℕ) → 1 ≤ p → p ≤ length xs → allows (get_or xs (p - 1) d))
    → (p : ℕ) → p < length xs → allows (get_or xs p d)
at_place allows xs d all p h =
    subst (λ (q : ℕ). allows (get_or xs q d)) (from_one p) (all (suc p) (omega arith) (omega arith))

pub formed_throughout : FormedThroughout
formed_throughout t s cs = (
  λ f tables. ran_keeps coder_fault coder_next code_memory coder-memory (λ t s b. sent_of t b (code_answer t s b)) sent_entry
      sent-told (CoderFormed t) (λ (x : Sent). SameTable x.table t) none_sent
      (λ c x e same k. (formed-kept t c.table same x c.block).0 k e) s cs f
      (at_place (λ (x : Sent). SameTable x.table t) (sent_by s cs) none_sent tables),
  λ f tables. ran_keeps decoder_fault decoder_next decode_memory decoder-memory (λ t s r. taken_of t r (decode_answer t s r))
      taken_entry taken-told (DecoderFormed t) (λ (x : Taken). SameTable x.table t) none_taken
      (λ c x e same k. (formed-kept t c.table same x c.block).1 k e) s cs f
      (at_place (λ (x : Taken). SameTable x.table t) (taken_by s cs) none_taken tables),
)
