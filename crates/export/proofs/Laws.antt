-- What the numbers tell a caller. Assumes nothing.
use mathlib.Core.Path.{◌≡◌, refl, sym, ap, subst, ◌∙◌}
use mathlib.Core.Bool.{Bool, true, false, cond}
use mathlib.Core.Logic.{◌≢◌}
use mathlib.Core.List.{List, [], ◌∷◌}
use Prim.Native.Nat.{ℕ, ◌-◌, ◌*◌, ◌<◌}
use native.Mathlib.Decide.{ℕ_discrete}
use native.Mathlib.Omega.{arith}
use borrow.Author.Tests.{ltb-true, ltb-false, le-ltb}
use lib.Dec.{ltb}
use lib.ListN.{length, get_or, take, length-drop}
use Rattle.tables.specs.declared.table.Table.{Table}
use Rattle.std.specs.Prelude.{Result, Ok, Err}
use Rattle.tables.specs.declared.make.MakeError.{MakeError}
use Rattle.tables.specs.declared.read.ReadError.{ReadError}
use Rattle.tables.specs.declared.read.ReadError.TheVariants.{Refused, Unsuitable}
use Rattle.tables.specs.declared.judge.Unsound.{Unsound}
use Rattle.tables.specs.declared.judge.Unsound.TheVariants.{NotFit, Clashing}
use Rattle.tables.specs.declared.write.WriteError.{WriteError}
use Rattle.tables.specs.declared.write.WriteError.TheVariants.{NoRoom}
use Rattle.tables.specs.Code.{Suitable}
use Rattle.tables.specs.Table.{rows_of, sizes_fit, fit, Whole, SameTable}
use Rattle.tables.specs.Reading.{read_numbers, reading}
use Rattle.tables.specs.Judging.{judging, Judges}
use Rattle.tables.specs.Writing.{written_length, write_numbers, write_by, write_answer, write_buffer, Writes}
use Rattle.tables.specs.Made.{columns, triangle_rows, made_table, making, made_numbers}
use Rattle.tables.specs.Format.{fault_number}
use Rattle.tables.proofs.Judging.{judged}
use Rattle.tables.proofs.Reading.{accepted-suitable, refused-range, refused-parse, refused-unsuitable}
use Rattle.tables.proofs.Written.{parses-exactly}
use Rattle.tables.proofs.Writing.{writes-by, reads-back}
use Rattle.tables.proofs.Made.{made, is_made, not_made}
use Rattle.tables.proofs.MadeWhole.{made-whole}
use Rattle.link.specs.Memory.{started}
use Rattle.link.specs.Refusals.{start_fault, coder_fault, decoder_fault, leaves, call_numbers}
use Rattle.link.specs.Start.{length_fault}
use Rattle.link.specs.Coder.{coded_block, coder_next}
use Rattle.link.specs.Decoder.{decode_values, decoder_next}
use Rattle.link.proofs.Refusals.{refuses, takes, refused-numbers, taken-numbers}
use Rattle.link.proofs.Starting.{start-memory}
use Rattle.link.proofs.Runs.{coder-memory, decoder-memory}
use Rattle.load.specs.Load.{load_of}
use Rattle.load.specs.Filling.{load_fault}
use Rattle.load.proofs.Filling.{load-blocks}
use Rattle.iwadare.specs.Refusals as refusals
use Rattle.iwadare.specs.Coder as coder
use Rattle.iwadare.specs.Decoder as decoder
use Rattle.iwadare.proofs.Runs as stations
use Rattle.export.specs.declared.reading.BurstReading.{BurstReading}
use Rattle.export.specs.declared.written.BurstWritten.{BurstWritten}
use Rattle.export.specs.Numbers.{table_of, numbers_of, given_back}
use Rattle.export.proofs.Numbers.{table-back}
use Rattle.export.specs.Answers.{number_of, reading_of, written_of, coded_of, decoded_of, iwadare_decoded_of}
use Rattle.export.specs.Promises.{Reads}
use Rattle.export.specs.Laws.{ReadTold, ReadToldLaw, WriteTold, WriteToldLaw, StoredBack, MadeTold}
use Rattle.export.specs.Laws.{StartTold, CodeTold, DecodeTold, LoadTold, IwadareStartTold}
use Rattle.export.specs.Laws.{IwadareCodeTold, IwadareDecodeTold}

read-so : (bytes : List ℕ) → ((i : ℕ) → get_or bytes i 0 < 256) → (a : Result Table ReadError) (before : List ℕ)
    → reading bytes ≡ a → ReadTold bytes (reading_of (read_numbers a)) before (given_back a before)
read-so bytes low (Ok t) before e =
    let s = accepted-suitable bytes t e in
    record {
      accepted = λ z. (t, s.0, s.2, ((parses-exactly bytes t low).0 s.0).whole, refl, refl);
      left = λ n. absurd (n refl);
      placed = λ n. absurd (n refl);
      clashes = λ e. absurd (omega arith);
    }
read-so bytes low (Err (Refused f p)) before e =
    let at = refused-parse bytes f p e in
    let range = refused-range bytes (fault_number f) p at in
    record {
      accepted = λ z. absurd (omega arith);
      left = λ n. refl;
      placed = λ n o. (at, refl);
      clashes = λ e. absurd (omega arith);
    }
read-so bytes low (Err (Unsuitable c)) before e =
    let s = refused-unsuitable bytes c.l c.e0 c.e1 e in
    record {
      accepted = λ z. absurd (omega arith);
      left = λ n. refl;
      placed = λ n o. absurd (o refl);
      clashes = λ e. (s.0, s.1, s.2, refl);
    }

pub read_told : ReadToldLaw
read_told bytes r before after low reads =
    rw (reads.table, reads.answer) (read-so bytes low (reading bytes) before refl)

-- the answer that the judgement and the length of the bytes decide
module _ (t : Table) (before : List ℕ) where
  abbrev Told : Result ℕ WriteError → Type 0
  Told a = (after : List ℕ) → after ≡ write_buffer a t before → WriteTold t before (written_of (write_numbers a)) after

  sound-told : fit t ≡ true → Suitable t.span (rows_of t) → (b : Bool) → ltb (length before) (written_length t) ≡ b
      → Told (cond b (Err NoRoom) (Ok (written_length t)))
  sound-told f s true q =
      let short = ltb-true (length before) (written_length t) q in
      λ after m. record {
        done = λ z. absurd (omega arith);
        left = λ z. m;
        unfit = λ z. absurd (omega arith);
        clashes = λ z. absurd (omega arith);
        short = λ x y z. (f, s, short, refl);
      }
  sound-told f s false q =
      let room = ltb-false (length before) (written_length t) q in
      λ after m. record {
        done = λ z. (f, s, room, m, refl);
        left = λ z. absurd (z refl);
        unfit = λ z. absurd (omega arith);
        clashes = λ z. absurd (omega arith);
        short = λ x y z. absurd (x refl);
      }

  write-so : (j : Result (Unit {0}) Unsound) → Judges t j → Told (write_by t (length before) j)
  write-so (Err NotFit) s = λ after m. record {
    done = λ z. absurd (omega arith);
    left = λ z. m;
    unfit = λ z. (s, refl);
    clashes = λ z. absurd (omega arith);
    short = λ x y z. absurd (y refl);
  }
  write-so (Err (Clashing c)) s = λ after m. record {
    done = λ z. absurd (omega arith);
    left = λ z. m;
    unfit = λ z. absurd (omega arith);
    clashes = λ z. (s.0, s.1, refl);
    short = λ x y z. absurd (z refl);
  }
  write-so (Ok sound) s = sound-told s.0 s.1 (ltb (length before) (written_length t)) refl

pub write-told : WriteToldLaw
unfolding write_answer
write-told t before r after h =
    rw h.answer (write-so t before (judging t) ((judged t (judging t)).0 refl) after h.buffer)

pub stored_back : StoredBack
unfolding table_of
stored_back ns before after old new w r many h z reads =
    let t = table_of ns in
    let n = written_length t in
    let told = (write-told t before w after h).done z in
    let done : Writes t before (Ok n) after =
    writes-by t before (Ok tt) (Ok n) after (sym ((judged t (Ok tt)).1 (told.0, told.1)))
    (rw (le-ltb (length before) n told.2)) told.3 in
    let count : w.length ≡ n = ap (λ (x : BurstWritten). x.length) told.4 in
    let right : Reads (take n after) r old new = subst (λ (k : ℕ). Reads (take k after) r old new) count reads in
    let fifteen : length t.rows ≡ 15 = let e = length-drop 3 ns in omega arith in
    let (u, read, whole, same, _) = reads-back t before after n fifteen done in
    let number : r.refused ≡ 0 =
    ap (λ (x : BurstReading). x.refused) right.answer
    ∙ ap (λ (a : Result Table ReadError). (reading_of (read_numbers a)).refused) read in
    let came : table_of new ≡ u =
    ap table_of (right.table ∙ ap (λ (a : Result Table ReadError). given_back a old) read) ∙ table-back u in
    (number, subst (λ (v : Table). SameTable v t) (sym came) same, subst Whole (sym came) whole)

pub made_told : MadeTold
made_told n m before r after told = go (sizes_fit n 2 m) refl
  where
    go : (b : Bool) → sizes_fit n 2 m ≡ b
        → (r ≡ cond b 0 11)
        × (r ≡ 0
        → (t : Table) × (making n m ≡ Ok t) × (t.symbols ≡ n) × (t.span ≡ 2 * n) × (t.depth ≡ m)
        × Suitable t.span (rows_of t)
        × (rows_of t ≡ triangle_rows (take (n - 1) columns) n)
        × Whole t × (after ≡ numbers_of t))
        × (r ≢ 0 → after ≡ before)
    go true q =
        let t = made_table n m in
        let yes = is_made n m q in
        let l = made n m t yes in
        let zero : r ≡ 0 = told.number ∙ ap (λ (a : Result Table MakeError). number_of (made_numbers a)) yes in (
          zero,
          λ z. (
            t,
            yes,
            l.0,
            l.1,
            l.2,
            l.4,
            l.5,
            made-whole n m t yes,
            told.table ∙ ap (λ (a : Result Table MakeError). given_back a before) yes,
          ),
          λ z. absurd (z zero),
        )
    go false q =
        let no = not_made n m q in
        let e = told.number ∙ ap (λ (a : Result Table MakeError). number_of (made_numbers a)) no in
        (e, λ z. absurd (omega arith), λ z. told.table ∙ ap (λ (a : Result Table MakeError). given_back a before) no)

-- ---- starts, steps and loads

-- the number of a call is its fault
number_is : (fault : ℕ) (values : List ℕ) → number_of (call_numbers fault values) ≡ fault
number_is fault values = go (ℕ_discrete fault 0)
  where
    go : Dec (fault ≡ 0) → number_of (call_numbers fault values) ≡ fault
    go (yes z) = ap number_of (taken-numbers fault values z) ∙ sym z
    go (no z) = ap number_of (refused-numbers fault values z)

-- ---- the struct `of` the numbers of a call, whose first number `refusedOf` tells

module _ {X : Type 0} (of : List ℕ → X) (refusedOf : X → ℕ) (first : (ns : List ℕ) → refusedOf (of ns) ≡ number_of ns)
    (fault : ℕ) (values next before : List ℕ) (r : X) (after : List ℕ) (answer : r ≡ of (call_numbers fault values))
    (memory : after ≡ leaves fault next before) where
  call-told : (refusedOf r ≡ fault) × (refusedOf r ≢ 0 → (r ≡ of (refusedOf r ∷ [])) × (after ≡ before))
      × (refusedOf r ≡ 0 → (r ≡ of (0 ∷ values)) × (after ≡ next))
  call-told =
      let number : refusedOf r ≡ fault = ap refusedOf answer ∙ first (call_numbers fault values) ∙ number_is fault values
      in (
        number,
        λ some. (
          answer ∙ ap of (refused-numbers fault values (λ z. some (number ∙ z)))
              ∙ ap (λ (k : ℕ). of (k ∷ [])) (sym number),
          memory ∙ sym (refuses (λ k. r) fault r next before fault refl (omega arith)).1,
        ),
        λ none. (
          answer ∙ ap of (taken-numbers fault values (sym number ∙ none)),
          memory ∙ sym (takes (λ k. r) fault r next before (sym number ∙ none)).1,
        ),
      )

-- of a start, and of a load, the number is all
number-told : (fault : ℕ) (next before : List ℕ) (r : ℕ) (after : List ℕ) → r ≡ number_of (call_numbers fault [])
    → after ≡ leaves fault next before → (r ≡ fault) × (r ≢ 0 → after ≡ before) × (r ≡ 0 → after ≡ next)
number-told fault next before r after number memory =
    let c = call-told number_of (λ k. k) (λ ns. refl) fault [] next before r after number memory in
    (c.0, λ some. (c.1 some).1, λ none. (c.2 none).1)

pub start-told : StartTold
start-told t words before r after h =
    number-told (start_fault t words before) (started words) before r after h.number
    (h.memory ∙ start-memory t words before)

pub code-told : CodeTold
code-told t before info r after h =
    call-told coded_of (λ x. x.refused) (λ ns. refl) (coder_fault t before info) (coded_block t before info ∷ [])
    (coder_next t before info) before r after h.answer (h.memory ∙ coder-memory t before info)

pub decode-told : DecodeTold
decode-told t before received r after h =
    call-told decoded_of (λ x. x.refused) (λ ns. refl) (decoder_fault t before received) (decode_values t before received)
    (decoder_next t before received) before r after h.answer (h.memory ∙ decoder-memory t before received)

pub load_told : LoadTold
load_told t seed before r after h =
    number-told (load_fault t seed) (load_of t seed (length before)) before r after h.number
    (h.blocks ∙ load-blocks t seed before)

pub iwadare-start-told : IwadareStartTold
iwadare-start-told words before r after h =
    number-told (length_fault words before) (started words) before r after h.number h.memory

pub iwadare-code-told : IwadareCodeTold
iwadare-code-told before info r after h =
    call-told coded_of (λ x. x.refused) (λ ns. refl) (refusals.coder_fault before info)
    (coder.coded_block before info ∷ []) (coder.coder_next before info) before r after h.answer
    (h.memory ∙ stations.coder-memory tt before info)

pub iwadare-decode-told : IwadareDecodeTold
iwadare-decode-told before received r after h =
    call-told iwadare_decoded_of (λ x. x.refused) (λ ns. refl) (refusals.decoder_fault before received)
    (decoder.decode_values before received) (decoder.decoder_next before received) before r after h.answer
    (h.memory ∙ stations.decoder-memory tt before received)
