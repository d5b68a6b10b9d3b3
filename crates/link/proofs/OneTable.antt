-- Runs whose steps all use the same table: their steps as records of `Memory`, on the memories that the run leaves.
-- Assumes nothing.
--
--   same_step     a step under a table that is the same
--   from_one      places count from 1, sequences from 0
--   coded         the steps of the coder
--   taken_table   the table of a step of the decoder
--   decoded       the steps of the decoder
--   verdict       their raw terms, registers and errors
use mathlib.Core.Path.{◌≡◌, sym, ap, ◌∙◌, subst}
use mathlib.Core.Bool.{Bool, false}
use mathlib.Core.List.{List}
use Prim.Native.Nat.{ℕ, suc, ◌-◌, ◌<◌}
use native.Mathlib.Omega.{arith}
use lib.ListN.{length, get_or, take}
use Rattle.std.specs.Prelude.{Option}
use Rattle.std.specs.Prelude.{None}
use Rattle.tables.specs.declared.table.Table.{Table}
use Rattle.tables.specs.Table.{SameTable}
use Rattle.tables.specs.Table.{info_rows}
use Rattle.link.specs.Step.{raw_term}
use Rattle.link.specs.Refusals.{decoder_fault}
use Rattle.link.specs.Coder.{coder_next, code_answer}
use Rattle.link.specs.Decoder.{decoder_next, decoder_joining, decoder_register, decoder_found, decode_answer}
use Rattle.link.specs.Runs.{Call, Sent, Taken, sent_by, taken_by, none_sent, none_taken, sent_at, taken_at, CoderTables}
use Rattle.link.specs.Runs.{DecoderTables, sent_of, taken_of, placed}
use Rattle.link.specs.Massey.{info_sent, block_sent, block_taken, raw_entry, raw_at, register_at, found_at}
use Rattle.link.proofs.Runs.{sent_entry, taken_entry, sent-told, taken-told, decoder-placed, coder_before}
use Rattle.link.proofs.Runs.{decoder_before, sent-place, taken-place}
use Rattle.link.proofs.Coder.{CoderStep, coder-step}
use Rattle.link.proofs.Decoder.{DecoderStep, decoder_step, Verdict, decoder-verdict}
use Rattle.link.proofs.Turn.{CoderRun, DecoderRun}

-- a step under a table is one under any that is the same, of equal entries and equal memories after it
pub same_step : {X : Type 0} (P : ℕ → ℕ → ℕ → List ℕ → X → List ℕ → Type 0) (u t : Table) → SameTable u t → (x y : X)
    → y ≡ x → (a b : List ℕ) → b ≡ a
    → P u.symbols u.span u.depth (info_rows u) x a → P t.symbols t.span t.depth (info_rows t) y b
same_step P u t same x y is a b on h =
    let rows = subst (λ (r : List ℕ). P u.symbols u.span u.depth r x a)
    (ap (λ (k : ℕ). take (k - 1) u.rows) same.symbols ∙ same.rows) h in
    let n = subst (λ (k : ℕ). P k u.span u.depth (info_rows t) x a) same.symbols rows in
    let N = subst (λ (k : ℕ). P t.symbols k u.depth (info_rows t) x a) same.span n in
    let m = subst (λ (k : ℕ). P t.symbols t.span k (info_rows t) x a) same.depth N in
    let entry = subst (λ v. P t.symbols t.span t.depth (info_rows t) v a) (sym is) m in
    subst (P t.symbols t.span t.depth (info_rows t) y) (sym on) entry

pub from_one : (p : ℕ) → suc p - 1 ≡ p
from_one p = omega arith

module _ (t : Table) (s : List ℕ) (cs : List Call) (tables : CoderTables t s cs) where
  step : (p : ℕ) → p < length (sent_by s cs)
      → CoderStep t.symbols t.span t.depth (info_rows t) (coder_before s cs p) (info_sent (sent_by s cs) p)
      (block_sent (sent_by s cs) p) (coder_before s cs (suc p))
  step p h =
      let e = sent-place s cs p h in
      let u = e.call.table in
      let is : sent_at (sent_by s cs) (suc p) ≡ sent_entry u (coder_before s cs p) e.call.block =
      ap (λ (k : ℕ). get_or (sent_by s cs) k none_sent) (from_one p)
      ∙ e.is (λ t s b. sent_of t b (code_answer t s b)) sent_entry sent-told none_sent in
      let same : SameTable u t =
      subst (λ (v : Table). SameTable v t) (ap (λ (x : Sent). x.table) is)
      (tables (suc p) (omega arith) (omega arith)) in
      same_step (λ n N m infos (x : Sent) after. CoderStep n N m infos (coder_before s cs p) x.info x.block after)
      u t same
      (sent_entry u (coder_before s cs p) e.call.block) (sent_at (sent_by s cs) (suc p)) is
      (coder_next u (coder_before s cs p) e.call.block)
      (coder_before s cs (suc p)) e.on (coder-step u (coder_before s cs p) e.call.block e.taken)

  pub coded : CoderRun t.symbols t.span t.depth (info_rows t) (coder_before s cs) (info_sent (sent_by s cs))
      (block_sent (sent_by s cs)) (length (sent_by s cs))
  coded = record { codes = step }

-- what is known of a decoder step: its block and answer, its raw term, register and error
record StepFacts : Type 0 where
  of : Taken
  raw : Bool
  register : ℕ
  error : Option ℕ

module _ (t : Table) (s : List ℕ) (ds : List Call) (tables : DecoderTables t s ds) where
  taken_is : (p : ℕ) (h : p < length (taken_by s ds))
      → taken_at (taken_by s ds) (suc p)
      ≡ taken_entry (taken-place s ds p h).call.table (decoder_before s ds p) (taken-place s ds p h).call.block
  taken_is p h =
      ap (λ (k : ℕ). get_or (taken_by s ds) k none_taken) (from_one p)
      ∙ (taken-place s ds p h).is (λ t s r. taken_of t r (decode_answer t s r)) taken_entry taken-told none_taken

  pub taken_table : (p : ℕ) (h : p < length (taken_by s ds)) → SameTable (taken-place s ds p h).call.table t
  taken_table p h =
      subst (λ (v : Table). SameTable v t) (ap (λ (x : Taken). x.table) (taken_is p h))
      (tables (suc p) (omega arith) (omega arith))

  both : (p : ℕ) → p < length (taken_by s ds)
      → DecoderStep t.symbols t.span t.depth (info_rows t) (decoder_before s ds p) (block_taken (taken_by s ds) p)
      (taken_at (taken_by s ds) (suc p)).answer (decoder_before s ds (suc p))
      × Verdict t.symbols t.span (info_rows t) (decoder_before s ds p) (block_taken (taken_by s ds) p) (raw_at s ds p)
      (register_at s ds p) (found_at s ds p)
  both p h =
      let e = taken-place s ds p h in
      let u = e.call.table in
      let M = decoder_before s ds p in
      let r = e.call.block in
      let is : taken_at (taken_by s ds) (suc p) ≡ taken_entry u M r = taken_is p h in
      let raw_is : raw_at s ds p ≡ raw_term (decoder_joining u M r) u.symbols r =
      e.is (placed decoder_fault raw_entry) raw_entry (decoder-placed raw_entry) false in
      let register_is : register_at s ds p ≡ decoder_register u M r =
      e.is (placed decoder_fault decoder_register) decoder_register (decoder-placed decoder_register) 0 in
      let found_is : found_at s ds p ≡ decoder_found u M r =
      e.is (placed decoder_fault decoder_found) decoder_found (decoder-placed decoder_found) None in
      let known : StepFacts = record {
        of = taken_at (taken_by s ds) (suc p);
        raw = raw_at s ds p;
        register = register_at s ds p;
        error = found_at s ds p;
      } in
      let entry : StepFacts = record {
        of = taken_entry u M r;
        raw = raw_term (decoder_joining u M r) u.symbols r;
        register = decoder_register u M r;
        error = decoder_found u M r;
      } in
      same_step
      (λ n N m infos (x : StepFacts) after. DecoderStep n N m infos M x.of.block x.of.answer after
      × Verdict n N infos M x.of.block x.raw x.register x.error)
      u t (taken_table p h) entry known (cc) (decoder_next u M r) (decoder_before s ds (suc p)) e.on (
        decoder_step u M r e.taken,
        decoder-verdict u M r,
      )

  pub decoded : DecoderRun t.symbols t.span t.depth (info_rows t) (decoder_before s ds)
      (block_taken (taken_by s ds))
      (λ (p : ℕ). (taken_at (taken_by s ds) (suc p)).answer) (length (taken_by s ds))
  decoded = record { decodes = λ p h. (both p h).0 }

  pub verdict : (p : ℕ) → p < length (taken_by s ds)
      → Verdict t.symbols t.span (info_rows t) (decoder_before s ds p) (block_taken (taken_by s ds) p) (raw_at s ds p)
      (register_at s ds p) (found_at s ds p)
  verdict p h = (both p h).1
