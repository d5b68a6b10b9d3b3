-- A chain of calls is a run, and the structs of its calls are the numbers of the run's answers. Assumes nothing.
--
--   kept-one, chain_run    of a function that C calls: the calls that are not refused are the run's entries
--   sent-told              of `burst_code`
--   taken-run, taken-told  of `burst_decode`
--   called, chain-of, chained   a run is a chain
--   info-at, many, answer_at_lem   the information and the struct of a place
--   mark-sure              the number of a mark other than doubtful
--   recovery-told, guard-end-told   the theorems
--   read-back, made-back, origin-told   a table that is given back
use mathlib.Core.Path.{◌≡◌, refl, sym, ap, ap₂, ◌∙◌, subst}
use mathlib.Core.Bool.{Bool, true, false, cond}
use mathlib.Core.Logic.{◌≢◌, ◌⊎◌, inl, inr}
use mathlib.Core.List.{List, [], ◌∷◌, ◌++◌, map, map-append, map-id, map-map}
use Prim.Native.Nat.{ℕ, ◌-◌, ◌^◌, ◌≤◌}
use native.Mathlib.Omega.{arith}
use borrow.Author.Tests.{eqb-true}
use lib.Dec.{eqb}
use lib.ListN.{length, get_or, length-map, get_or-map}
use Rattle.tables.specs.declared.table.Table.{Table}
use Rattle.std.specs.Prelude.{Result, Ok, Err}
use Rattle.tables.specs.declared.read.ReadError.{ReadError}
use Rattle.tables.specs.declared.read.ReadError.TheVariants.{Refused, Unsuitable}
use Rattle.tables.specs.declared.make.MakeError.{MakeError}
use Rattle.tables.specs.declared.make.MakeError.TheVariants.{OutOfRange}
use Rattle.tables.specs.Format.{fault_number}
use Rattle.tables.specs.Reading.{read_numbers, reading}
use Rattle.tables.specs.Made.{made_numbers, making}
use Rattle.tables.proofs.Reading.{refused-range, refused-parse}
use Rattle.link.specs.declared.decode.Mark.{Mark}
use Rattle.link.specs.declared.decode.Mark.TheVariants.{Clean, Held, Corrected, Doubtful, Parity}
use Rattle.link.specs.declared.decode.Delivered.{Delivered}
use Rattle.std.specs.Prelude.{Option, Some, Ok}
use Rattle.link.specs.Memory.{delay_of}
use Rattle.link.specs.Refusals.{Answer, coder_fault, decoder_fault, call_numbers}
use Rattle.link.specs.Coder.{coded_block, code_answer, code_memory}
use Rattle.link.specs.Decoder.{decode_answer, decode_memory, mark_number, mark_error, record_numbers, decode_numbers}
use Rattle.link.specs.Decoder.{decode_values}
use Rattle.link.specs.Runs.{Call, Sent, Taken, sent_of, taken_of, run, placed, sent_by, taken_by, sent_at, taken_at}
use Rattle.link.specs.Runs.{none_sent, none_taken}
use Rattle.link.proofs.Refusals.{taken-numbers}
use Rattle.link.proofs.Decoder.{decodes, decodes-so}
use Rattle.link.proofs.Runs.{sent_entry, taken_entry}
use Rattle.link.proofs.Runs as runs
use Rattle.link.proofs.Main.{link}
use Rattle.export.specs.declared.reading.BurstReading.{BurstReading}
use Rattle.export.specs.declared.coded.BurstCoded.{BurstCoded}
use Rattle.export.specs.declared.decoded.BurstDecoded.{BurstDecoded}
use Rattle.export.specs.Numbers.{table_of, numbers_of, given_back}
use Rattle.export.specs.Answers.{number_of, reading_of, coded_of, decoded_of}
use Rattle.export.specs.Promises.{CodesBy, DecodesBy}
use Rattle.export.specs.Recovery.{Called, CodeCall, DecodeCall, Chain, CodeCalls, DecodeCalls, handed, unrefused}
use Rattle.export.specs.Recovery.{sent_calls, taken_calls, info_at, answer_at}
use Rattle.export.specs.Recovery.{SentTold, TakenTold, RecoveryTold, GuardEndTold, Chained, OriginTold}
use Rattle.export.proofs.Numbers.{table-back}
use Rattle.export.proofs.Laws.{code-told, decode-told}

-- ---- a chain is a run

-- a function that C calls: its promise, the refusal's number of its answer, and the fault and the memory that the
-- promise tells
module _ {A X Y : Type 0} (promises : Table → List ℕ → ℕ → A → List ℕ → Type 0) (number : A → ℕ)
    (fault : Table → List ℕ → ℕ → ℕ) (memory : Table → List ℕ → ℕ → List ℕ)
    (tells : (t : Table) (s : List ℕ) (b : ℕ) (a : A) (after : List ℕ) → promises t s b a after
    → (number a ≡ fault t s b) × (after ≡ memory t s b))
    (kept : Table → List ℕ → ℕ → List X) (entry : Table → List ℕ → ℕ → X)
    (told : (t : Table) (s : List ℕ) (b : ℕ) → kept t s b ≡ placed fault entry t s b)
    -- what is looked at of an entry, and of a call
    (seen : X → Y) (shown : Called A → Y)
    (same : (c : Called A) (s : List ℕ) → promises (table_of c.numbers) s c.block c.answer c.after
    → fault (table_of c.numbers) s c.block ≡ 0 → seen (entry (table_of c.numbers) s c.block) ≡ shown c) where
  kept-one : (c : Called A) (s : List ℕ) → promises (table_of c.numbers) s c.block c.answer c.after
      → map seen (kept (table_of c.numbers) s c.block) ≡ cond (eqb (number c.answer) 0) (shown c ∷ []) []
  kept-one c s h =
      ap (map seen) (told t s c.block) ∙ go (eqb (fault t s c.block) 0) refl
      ∙ ap (λ (k : ℕ). cond (eqb k 0) (shown c ∷ []) []) (sym (tells t s c.block c.answer c.after h).0)
    where
      t : Table
      t = table_of c.numbers

      go : (q : Bool) → eqb (fault t s c.block) 0 ≡ q
          → map seen (cond q (entry t s c.block ∷ []) []) ≡ cond q (shown c ∷ []) []
      go true e = ap (λ (y : Y). y ∷ []) (same c s h (eqb-true (fault t s c.block) 0 e))
      go false e = refl

  chain_run : (s : List ℕ) (cs : List (Called A)) → Chain promises s cs
      → map seen (run memory kept s (handed cs)) ≡ map shown (unrefused number cs)
  unfolding run unrefused
  chain_run s [] h = refl
  chain_run s (c ∷ cs) h =
      let t = table_of c.numbers in
      let one : List Y = cond (eqb (number c.answer) 0) (shown c ∷ []) [] in
      map-append seen (kept t s c.block) (run memory kept (memory t s c.block) (handed cs))
      ∙ ap (λ (ys : List Y). ys ++ map seen (run memory kept (memory t s c.block) (handed cs))) (kept-one c s h.0)
      ∙ ap (λ (m : List ℕ). one ++ map seen (run memory kept m (handed cs)))
      (sym (tells t s c.block c.answer c.after h.0).1)
      ∙ ap (λ (ys : List Y). one ++ ys) (chain_run c.after cs h.1)
      ∙ go (eqb (number c.answer) 0)
    where
      go : (q : Bool) → cond q (shown c ∷ []) [] ++ map shown (unrefused number cs)
          ≡ map shown (cond q (c ∷ unrefused number cs) (unrefused number cs))
      go true = refl
      go false = refl

pub sent-told : SentTold
sent-told s cs h =
    sym (map-id (sent_by s (handed cs)))
    ∙ chain_run CodesBy (λ a. a.refused) coder_fault code_memory
    (λ t s b a after c. ((code-told t s b a after c).0, c.memory))
    (λ t s b. sent_of t b (code_answer t s b)) sent_entry runs.sent-told (λ x. x)
    (λ c. record { table = table_of c.numbers; info = c.block; block = c.answer.block })
    (λ c s k e. ap (λ (b : ℕ). record { table = table_of c.numbers; info = c.block; block = b })
    (sym (ap (λ (a : BurstCoded). a.block) k.answer
    ∙ ap (λ (ns : List ℕ). (coded_of ns).block) (taken-numbers (coder_fault (table_of c.numbers) s c.block)
    (coded_block (table_of c.numbers) s c.block ∷ []) e)))) s cs h

module _ {Y : Type 0} (seen : Taken → Y) (shown : DecodeCall → Y)
    (same : (d : DecodeCall) (s : List ℕ) → DecodesBy (table_of d.numbers) s d.block d.answer d.after
    → decoder_fault (table_of d.numbers) s d.block ≡ 0
    → seen (taken_entry (table_of d.numbers) s d.block) ≡ shown d) where
  taken-run : (s : List ℕ) (ds : List DecodeCall) → Chain DecodesBy s ds
      → map seen (taken_by s (handed ds)) ≡ map shown (taken_calls ds)
  taken-run =
      chain_run DecodesBy (λ a. a.refused) decoder_fault decode_memory
      (λ t s b a after d. ((decode-told t s b a after d).0, d.memory))
      (λ t s r. taken_of t r (decode_answer t s r)) taken_entry runs.taken-told seen shown same

pub taken-told : TakenTold
taken-told s ds h = (
  taken-run (λ x. x.table) (λ d. table_of d.numbers) (λ d s k e. refl) s ds h,
  taken-run (λ x. x.block) (λ d. d.block) (λ d s k e. refl) s ds h,
  taken-run (λ x. decoded_of (decode_numbers x.answer)) (λ d. d.answer)
      (λ d s k e.
      let t = table_of d.numbers in
      ap (λ (a : Answer (Option Delivered)). decoded_of (decode_numbers a)) (decodes t s d.block e).0
      ∙ ap decoded_of (decodes-so t s d.block _ _ refl refl).numbers ∙ sym k.answer) s ds h,
)

-- ---- and a run is a chain

module _ {A : Type 0} (promises : Table → List ℕ → ℕ → A → List ℕ → Type 0) (answer : Table → List ℕ → ℕ → A)
    (memory : Table → List ℕ → ℕ → List ℕ)
    (keeps : (t : Table) (s : List ℕ) (b : ℕ) → promises t s b (answer t s b) (memory t s b)) where
  called : List ℕ → Call → Called A
  called s c = record {
    numbers = numbers_of c.table;
    block = c.block;
    answer = answer c.table s c.block;
    after = memory c.table s c.block;
  }

  chain-of : (s : List ℕ) (cs : List Call)
      → (ds : List (Called A)) × Chain promises s ds × (handed ds ≡ cs)
  unfolding called
  chain-of s [] = ([], tt, refl)
  chain-of s (c ∷ cs) =
      let t = c.table in
      let back = table-back t in
      let rest = chain-of (memory t s c.block) cs in (
        called s c ∷ rest.0,
        (
          subst (λ (u : Table). promises u s c.block (answer t s c.block) (memory t s c.block)) (sym back)
              (keeps t s c.block),
          rest.1,
        ),
        ap₂ (λ (u : Table) (l : List Call). record { table = u; block = c.block } ∷ l) back rest.2,
      )

pub chained : Chained
chained s cs = (
  chain-of CodesBy (λ t s b. coded_of (call_numbers (coder_fault t s b) (coded_block t s b ∷ []))) code_memory
      (λ t s b. record { answer = refl; memory = refl }) s cs,
  chain-of DecodesBy (λ t s r. decoded_of (call_numbers (decoder_fault t s r) (decode_values t s r))) decode_memory
      (λ t s r. record { answer = refl; memory = refl }) s cs,
)

-- ---- a place of the two lists

info-at : (s : List ℕ) (cs : List CodeCall) → CodeCalls s cs → (p : ℕ)
    → (sent_at (sent_by s (handed cs)) p).info ≡ info_at cs p
info-at s cs h p =
    sym (get_or-map (λ (x : Sent). x.info) (sent_by s (handed cs)) (p - 1) none_sent)
    ∙ ap (λ (xs : List Sent). get_or (map (λ x. x.info) xs) (p - 1) 0) (sent-told s cs h)
    ∙ ap (λ (xs : List ℕ). get_or xs (p - 1) 0) (map-map (λ (x : Sent). x.info) _ (sent_calls cs))

module _ (s : List ℕ) (ds : List DecodeCall) (h : DecodeCalls s ds) where
  many : length (taken_calls ds) ≡ length (taken_by s (handed ds))
  many =
      sym (length-map (taken_calls ds) (λ d. d.block)) ∙ ap length (sym (taken-told s ds h).1)
      ∙ length-map (taken_by s (handed ds)) (λ x. x.block)

  -- the struct of a place whose step delivers a record
  answer_at_lem : (p : ℕ) (r : Delivered) → (taken_at (taken_by s (handed ds)) p).answer ≡ Ok (Some r)
      → answer_at ds p ≡ decoded_of (0 ∷ record_numbers r)
  answer_at_lem p r e =
      ap (λ (xs : List BurstDecoded). get_or xs (p - 1) (decoded_of [])) (sym (taken-told s ds h).2)
      ∙ get_or-map (λ (x : Taken). decoded_of (decode_numbers x.answer)) (taken_by s (handed ds)) (p - 1) none_taken
      ∙ ap (λ (a : Answer (Option Delivered)). decoded_of (decode_numbers a)) e

-- ---- the theorems

mark-sure : (k : Mark) → k ≢ Doubtful → (1 ≤ mark_number k) × (mark_number k ≤ 5) × (mark_number k ≢ 4)
mark-sure Clean sure = (omega arith, omega arith, λ e. omega arith)
mark-sure Held sure = (omega arith, omega arith, λ e. omega arith)
mark-sure (Corrected e) sure = (omega arith, omega arith, λ e. omega arith)
mark-sure Doubtful sure = absurd (sure refl)
mark-sure (Parity e) sure = (omega arith, omega arith, λ e. omega arith)

pub recovery-told : RecoveryTold
recovery-told t coder decoder cs ds c d f p late h =
    let count = many decoder ds d in
    let r = link.recovery t coder decoder (handed cs) (handed ds) f p late (omega arith) in
    let struct = answer_at_lem decoder ds d p _ r.1 in
    let mark : (answer_at ds p).mark ≡ mark_number r.0 = ap (λ (a : BurstDecoded). a.mark) struct in
    let sure = mark-sure r.0 r.2 in (
      ap (λ (a : BurstDecoded). a.refused) struct,
      ap (λ (a : BurstDecoded). a.info) struct ∙ info-at coder cs c (p - delay_of t),
      omega arith,
      omega arith,
      λ e. sure.2 (sym mark ∙ e),
    )

pub guard-end-told : GuardEndTold
guard-end-told t coder decoder cs ds c d f p late early h =
    let count = many decoder ds d in
    let r = link.guard_end t coder decoder (handed cs) (handed ds) f p late early (omega arith) in
    let struct = answer_at_lem decoder ds d p _ r.1 in (
      ap (λ (a : BurstDecoded). a.refused) struct,
      ap (λ (a : BurstDecoded). a.info) struct ∙ info-at coder cs c (p - delay_of t),
      go r.0 struct r.2,
    )
  where
    go : (k : Mark) → {i : ℕ} → answer_at ds p ≡ decoded_of (0 ∷ i ∷ mark_number k ∷ mark_error k ∷ [])
        → (k ≡ Clean) ⊎ (k ≡ Parity (2 ^ (t.symbols - 1)))
        → (((answer_at ds p).mark ≡ 1) × ((answer_at ds p).error ≡ 0))
        ⊎ (((answer_at ds p).mark ≡ 5) × ((answer_at ds p).error ≡ 2 ^ (t.symbols - 1)))
    go k e (inl z) = inl (
      ap (λ (a : BurstDecoded). a.mark) e ∙ ap mark_number z,
      ap (λ (a : BurstDecoded). a.error) e ∙ ap mark_error z,
    )
    go k e (inr z) = inr (
      ap (λ (a : BurstDecoded). a.mark) e ∙ ap mark_number z,
      ap (λ (a : BurstDecoded). a.error) e ∙ ap mark_error z,
    )

-- ---- tables

-- a table that is given back with number 0
read-back : (bytes before after : List ℕ) (a : Result Table ReadError) → reading bytes ≡ a
    → (reading_of (read_numbers a)).refused ≡ 0 → after ≡ given_back a before → reading bytes ≡ Ok (table_of after)
read-back bytes before after (Ok t) e z b = e ∙ ap Ok (sym (ap table_of b ∙ table-back t))
read-back bytes before after (Err (Refused f p)) e z b =
    let range = refused-range bytes (fault_number f) p (refused-parse bytes f p e) in absurd (omega arith)
read-back bytes before after (Err (Unsuitable c)) e z b = absurd (omega arith)

made-back : (n m : ℕ) (before after : List ℕ) (a : Result Table MakeError) → making n m ≡ a
    → number_of (made_numbers a) ≡ 0 → after ≡ given_back a before → making n m ≡ Ok (table_of after)
made-back n m before after (Ok t) e z b = e ∙ ap Ok (sym (ap table_of b ∙ table-back t))
made-back n m before after (Err OutOfRange) e z b = absurd (omega arith)

pub origin-told : OriginTold
origin-told = (
  λ bytes r before after h z.
      inl (
        bytes,
        read-back bytes before after (reading bytes) refl (sym (ap (λ (x : BurstReading). x.refused) h.answer) ∙ z) h.table,
      ),
  λ n m before r after h z.
      inr (n, m, made-back n m before after (making n m) refl (sym h.number ∙ z) h.table),
)
