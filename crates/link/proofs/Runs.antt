-- Runs of calls, for coder and decoder alike: a refused call leaves the memory and keeps nothing, so what is kept is
-- that of the calls that are taken, each on the memory that the one before it left. Assumes nothing.
--
--   before, before_first      the memory before the call that is taken at a place, and at the first
--   Told                      what is kept of a call is one entry, or nothing of a refusal
--   run_taken                 a run whose first call is taken
--   Place, run_place          what stands at a place
--   ran_keeps                 what every call keeps, a run keeps
--   run-append                a run over two lists
--   refused_skipped           a run with a refused call in it
--   sent-told, taken-told     what is kept of the calls of coder and decoder
--   sent-place, taken-place   their places
use mathlib.Core.Path.{◌≡◌, refl, sym, ap, ◌∙◌, subst}
use mathlib.Core.Bool.{Bool, true, false, cond}
use mathlib.Core.Logic.{◌≢◌}
use mathlib.Core.List.{List, [], ◌∷◌, ◌++◌, append_assoc}
use Prim.Native.Nat.{ℕ, zero, suc, ◌<◌}
use native.Mathlib.Omega.{arith}
use borrow.Author.Tests.{eq-eqb, ne_eqb, eqb-true, eqb-false}
use lib.Dec.{ltb, eqb}
use lib.ListN.{length, get_or}
use Rattle.tables.specs.declared.table.Table.{Table}
use Rattle.std.specs.Prelude.{Some, None, Ok}
use Rattle.link.specs.Memory.{fill_of, delay_of}
use Rattle.link.specs.Refusals.{coder_fault, decoder_fault, answered, leaves, refused}
use Rattle.link.specs.Coder.{coded_block, coder_next, code_answer, code_memory}
use Rattle.link.specs.Decoder.{decoder_next, delivered, delivery, decode_answer, decode_memory}
use Rattle.link.specs.Runs.{CallOf, Call, Sent, Taken, sent_of, taken_of, run, ran, placed, sent_by, taken_by}
use Rattle.link.specs.Runs.{RunAppend}
use Rattle.link.specs.Runs.{RefusedSkipped}

-- a call's fault and the memory after it where that is 0: what every call leaves
module _ {T : Type 0} (fault : T → List ℕ → ℕ → ℕ) (next memory : T → List ℕ → ℕ → List ℕ)
    (is-memory : (t : T) (s : List ℕ) (b : ℕ) → memory t s b ≡ leaves (fault t s b) (next t s b) s) where
  pub memory_taken : (t : T) (s : List ℕ) (b : ℕ) → fault t s b ≡ 0 → memory t s b ≡ next t s b
  unfolding leaves
  memory_taken t s b e = is-memory t s b ∙ rw (eq-eqb (fault t s b) 0 e)

  memory-refused : (t : T) (s : List ℕ) (b : ℕ) → fault t s b ≢ 0 → memory t s b ≡ s
  unfolding leaves
  memory-refused t s b e = is-memory t s b ∙ rw (ne_eqb (fault t s b) 0 e)

  later : List ℕ → (ℕ → List ℕ) → ℕ → List ℕ
  later s f zero = s
  later s f (suc p) = f p

  -- the memory before the call that is taken at place p, counted from 0
  pub before : List ℕ → List (CallOf T) → ℕ → List ℕ
  before s [] p = s
  before s (c ∷ cs) p =
      cond (eqb (fault c.table s c.block) 0)
      (later s (before (next c.table s c.block) cs) p) (before s cs p)

  before-taken : (s : List ℕ) (c : CallOf T) (cs : List (CallOf T)) (p : ℕ) → fault c.table s c.block ≡ 0
      → before s (c ∷ cs) p ≡ later s (before (next c.table s c.block) cs) p
  unfolding before
  before-taken s c cs p e = rw (eq-eqb (fault c.table s c.block) 0 e)

  before-refused : (s : List ℕ) (c : CallOf T) (cs : List (CallOf T)) (p : ℕ) → fault c.table s c.block ≢ 0
      → before s (c ∷ cs) p ≡ before s cs p
  unfolding before
  before-refused s c cs p e = rw (ne_eqb (fault c.table s c.block) 0 e)

  pub before_first : (s : List ℕ) (cs : List (CallOf T)) → before s cs 0 ≡ s
  unfolding before later
  before_first s [] = refl
  before_first s (c ∷ cs) = go (eqb (fault c.table s c.block) 0) (before_first s cs)
    where
      go : (b : Bool) → before s cs 0 ≡ s → cond b s (before s cs 0) ≡ s
      go true h = refl
      go false h = h

  abbrev pub Told : {X : Type 0} → (T → List ℕ → ℕ → List X) → (T → List ℕ → ℕ → X) → Type 0
  Told kept entry = (t : T) (s : List ℕ) (b : ℕ) → kept t s b ≡ placed fault entry t s b

  module _ {X : Type 0} (kept : T → List ℕ → ℕ → List X) (entry : T → List ℕ → ℕ → X) (told : Told kept entry)
      (s : List ℕ) (c : CallOf T) (cs : List (CallOf T)) where
    pub run_taken : fault c.table s c.block ≡ 0
        → run memory kept s (c ∷ cs) ≡ entry c.table s c.block ∷ run memory kept (next c.table s c.block) cs
    unfolding run
    run_taken e =
        let kept-one : kept c.table s c.block ≡ entry c.table s c.block ∷ [] =
        told c.table s c.block ∙ rw (eq-eqb (fault c.table s c.block) 0 e) in
        ap (λ (xs : List X). xs ++ run memory kept (memory c.table s c.block) cs) kept-one
        ∙ ap (λ (m : List ℕ). entry c.table s c.block ∷ run memory kept m cs)
        (memory_taken c.table s c.block e)

    run-refused : fault c.table s c.block ≢ 0 → run memory kept s (c ∷ cs) ≡ run memory kept s cs
    unfolding run
    run-refused e =
        let kept-none : kept c.table s c.block ≡ [] =
        told c.table s c.block ∙ rw (ne_eqb (fault c.table s c.block) 0 e) in
        ap (λ (xs : List X). xs ++ run memory kept (memory c.table s c.block) cs) kept-none
        ∙ ap (λ (m : List ℕ). run memory kept m cs) (memory-refused c.table s c.block e)

  -- At a place a call is taken, on the memory there. Whatever is told of the calls, that of this call stands at the
  -- place.
  pub record Place (s : List ℕ) (cs : List (CallOf T)) (p : ℕ) : Type 1 where
    pub call : CallOf T
    pub taken : fault call.table (before s cs p) call.block ≡ 0
    pub is : {X : Type 0} (kept : T → List ℕ → ℕ → List X) (entry : T → List ℕ → ℕ → X)
        → Told kept entry → (d : X)
        → get_or (run memory kept s cs) p d ≡ entry call.table (before s cs p) call.block
    pub on : before s cs (suc p) ≡ next call.table (before s cs p) call.block

  module _ (s : List ℕ) (c : CallOf T) (cs : List (CallOf T)) where
    place-first : fault c.table s c.block ≡ 0 → Place s (c ∷ cs) 0
    unfolding later
    place-first e =
        let here = before-taken s c cs 0 e in
        record {
          call = c;
          taken = ap (λ (m : List ℕ). fault c.table m c.block) here ∙ e;
          is = λ kept entry told d.
              ap (λ xs. get_or xs 0 d) (run_taken kept entry told s c cs e)
              ∙ ap (λ (m : List ℕ). entry c.table m c.block) (sym here);
          on = before-taken s c cs 1 e ∙ before_first (next c.table s c.block) cs
              ∙ ap (λ (m : List ℕ). next c.table m c.block) (sym here);
        }

    -- after a first call that is taken, and after one that is not
    place-next : fault c.table s c.block ≡ 0 → (p : ℕ) → Place (next c.table s c.block) cs p
        → Place s (c ∷ cs) (suc p)
    unfolding later
    place-next e p k =
        let here = before-taken s c cs (suc p) e in
        record {
          call = k.call;
          taken = ap (λ (m : List ℕ). fault k.call.table m k.call.block) here ∙ k.taken;
          is = λ kept entry told d.
              ap (λ xs. get_or xs (suc p) d) (run_taken kept entry told s c cs e) ∙ k.is kept entry told d
              ∙ ap (λ (m : List ℕ). entry k.call.table m k.call.block) (sym here);
          on =
              before-taken s c cs (suc (suc p)) e ∙ k.on
              ∙ ap (λ (m : List ℕ). next k.call.table m k.call.block) (sym here);
        }

    place_same : fault c.table s c.block ≢ 0 → (p : ℕ) → Place s cs p → Place s (c ∷ cs) p
    place_same e p k =
        let here = before-refused s c cs p e in
        record {
          call = k.call;
          taken = ap (λ (m : List ℕ). fault k.call.table m k.call.block) here ∙ k.taken;
          is = λ kept entry told d.
              ap (λ xs. get_or xs p d) (run-refused kept entry told s c cs e) ∙ k.is kept entry told d
              ∙ ap (λ (m : List ℕ). entry k.call.table m k.call.block) (sym here);
          on =
              before-refused s c cs (suc p) e ∙ k.on
              ∙ ap (λ (m : List ℕ). next k.call.table m k.call.block) (sym here);
        }

  pub run_place : {X : Type 0} (kept : T → List ℕ → ℕ → List X) (entry : T → List ℕ → ℕ → X) → Told kept entry
      → (s : List ℕ) (cs : List (CallOf T)) (p : ℕ) → p < length (run memory kept s cs) → Place s cs p
  unfolding run
  run_place kept entry told s [] p h = absurd (omega arith)
  run_place {X} kept entry told s (c ∷ cs) p h =
      go (eqb (fault c.table s c.block) 0) refl (run_place kept entry told (next c.table s c.block) cs)
      (run_place kept entry told s cs p) p refl h
    where
      go : (b : Bool) → eqb (fault c.table s c.block) 0 ≡ b
          → ((q : ℕ) → q < length (run memory kept (next c.table s c.block) cs)
          → Place (next c.table s c.block) cs q)
          → (p < length (run memory kept s cs) → Place s cs p)
          → (q : ℕ) → p ≡ q → q < length (run memory kept s (c ∷ cs)) → Place s (c ∷ cs) q
      go true e more same zero k l = place-first s c cs (eqb-true (fault c.table s c.block) 0 e)
      go true e more same (suc q) k l =
          let z = eqb-true (fault c.table s c.block) 0 e in
          let size = ap length (run_taken kept entry told s c cs z) in
          place-next s c cs z q (more q (omega arith))
      go false e more same q k l =
          let z = eqb-false (fault c.table s c.block) 0 e in
          let size = ap length (run-refused kept entry told s c cs z) in
          place_same s c cs z q (subst (Place s cs) k (same (omega arith)))

  -- what a call that is taken keeps, a run keeps, if each of its entries allows it
  pub ran_keeps : {X : Type 0} (kept : T → List ℕ → ℕ → List X) (entry : T → List ℕ → ℕ → X) → Told kept entry
      → (Kept : List ℕ → Type 0) (allows : X → Type 0) (d : X)
      → ((c : CallOf T) (s : List ℕ) → fault c.table s c.block ≡ 0 → allows (entry c.table s c.block)
      → Kept s → Kept (next c.table s c.block))
      → (s : List ℕ) (cs : List (CallOf T)) → Kept s
      → ((p : ℕ) → p < length (run memory kept s cs) → allows (get_or (run memory kept s cs) p d))
      → Kept (ran memory s cs)
  unfolding ran
  ran_keeps kept entry told Kept allows d step s [] k a = k
  ran_keeps {X} kept entry told Kept allows d step s (c ∷ cs) k a =
      go (eqb (fault c.table s c.block) 0) refl
      (ran_keeps kept entry told Kept allows d step (memory c.table s c.block) cs)
    where
      Allowed : List X → Type 0
      Allowed xs = (p : ℕ) → p < length xs → allows (get_or xs p d)

      go : (b : Bool) → eqb (fault c.table s c.block) 0 ≡ b
          → (Kept (memory c.table s c.block) → Allowed (run memory kept (memory c.table s c.block) cs)
          → Kept (ran memory (memory c.table s c.block) cs))
          → Kept (ran memory (memory c.table s c.block) cs)
      go true e rest =
          let z = eqb-true (fault c.table s c.block) 0 e in
          let m = memory_taken c.table s c.block z in
          let all : Allowed (entry c.table s c.block ∷ run memory kept (next c.table s c.block) cs) =
          subst Allowed (run_taken kept entry told s c cs z) a in
          rest (subst Kept (sym m) (step c s z (all 0 (omega arith)) k))
          (subst (λ (n : List ℕ). Allowed (run memory kept n cs)) (sym m) (λ p h. all (suc p) (omega arith)))
      go false e rest =
          let z = eqb-false (fault c.table s c.block) 0 e in
          let m = memory-refused c.table s c.block z in
          rest (subst Kept (sym m) k)
          (subst (λ (n : List ℕ). Allowed (run memory kept n cs)) (sym m)
          (subst Allowed (run-refused kept entry told s c cs z) a))

-- ---- a run over two lists

pub run-append : RunAppend
unfolding run ran
run-append T X memory kept s [] cs' = (refl, refl)
run-append T X memory kept s (c ∷ cs) cs' =
    let here = kept c.table s c.block in
    let there = memory c.table s c.block in
    let rest = run-append T X memory kept there cs cs' in (
      ap (λ (xs : List X). here ++ xs) rest.0
          ∙ sym (append_assoc here (run memory kept there cs) (run memory kept (ran memory there cs) cs')),
      rest.1,
    )

-- a call that is refused, anywhere in a list
module _ {T : Type 0} (fault : T → List ℕ → ℕ → ℕ) (next memory : T → List ℕ → ℕ → List ℕ)
    (is-memory : (t : T) (s : List ℕ) (b : ℕ) → memory t s b ≡ leaves (fault t s b) (next t s b) s) {X : Type 0}
    (kept : T → List ℕ → ℕ → List X) (entry : T → List ℕ → ℕ → X)
    (told : Told fault next memory is-memory kept entry)
    (s : List ℕ) (cs : List (CallOf T)) (c : CallOf T) (cs' : List (CallOf T))
    (refused : fault c.table (ran memory s cs) c.block ≢ 0) where
  there : List ℕ
  there = ran memory s cs

  pub skipped : (run memory kept s (cs ++ (c ∷ cs')) ≡ run memory kept s (cs ++ cs'))
      × (ran memory s (cs ++ (c ∷ cs')) ≡ ran memory s (cs ++ cs'))
  unfolding ran there
  skipped =
      let with-c = run-append T X memory kept s cs (c ∷ cs') in
      let without = run-append T X memory kept s cs cs' in (
        with-c.0
            ∙ ap (λ (xs : List X). run memory kept s cs ++ xs)
            (run-refused fault next memory is-memory kept entry told there c cs' refused)
            ∙ sym without.0,
        with-c.1 ∙ ap (λ (m : List ℕ). ran memory m cs')
            (memory-refused fault next memory is-memory c.table there c.block refused)
            ∙ sym without.1,
      )

-- ---- coder and decoder

pub coder-memory : (t : Table) (s : List ℕ) (b : ℕ) → code_memory t s b ≡ leaves (coder_fault t s b) (coder_next t s b) s
unfolding code_memory
coder-memory t s b = refl

pub decoder-memory : (t : Table) (s : List ℕ) (r : ℕ)
    → decode_memory t s r ≡ leaves (decoder_fault t s r) (decoder_next t s r) s
unfolding decode_memory
decoder-memory t s r = refl

abbrev pub coder_before : List ℕ → List Call → ℕ → List ℕ
coder_before = before coder_fault coder_next code_memory coder-memory

abbrev pub decoder_before : List ℕ → List Call → ℕ → List ℕ
decoder_before = before decoder_fault decoder_next decode_memory decoder-memory

-- what is kept of a step that is taken
abbrev pub sent_entry : Table → List ℕ → ℕ → Sent
sent_entry t s b = record { table = t; info = b; block = coded_block t s b }

abbrev pub taken_entry : Table → List ℕ → ℕ → Taken
taken_entry t s r = record { table = t; block = r; answer = delivery t s r }

pub sent-told : Told coder_fault coder_next code_memory coder-memory (λ t s b. sent_of t b (code_answer t s b)) sent_entry
unfolding code_answer answered
sent-told t s b = go (eqb (coder_fault t s b) 0)
  where
    go : (q : Bool) → sent_of t b (cond q (Ok (coded_block t s b)) (refused (coder_fault t s b)))
        ≡ cond q (sent_entry t s b ∷ []) []
    go true = refl
    go false = refl

pub taken-told : Told decoder_fault decoder_next decode_memory decoder-memory
    (λ t s r. taken_of t r (decode_answer t s r)) taken_entry
unfolding decode_answer answered delivery
taken-told t s r = go (eqb (decoder_fault t s r) 0) (ltb (fill_of s) (delay_of t))
  where
    go : (q d : Bool)
        → taken_of t r (cond q (cond d (Ok None) (Ok (Some (delivered t s r)))) (refused (decoder_fault t s r)))
        ≡ cond q (record { table = t; block = r; answer = cond d (Ok None) (Ok (Some (delivered t s r))) } ∷ []) []
    go true true = refl
    go true false = refl
    go false d = refl

-- anything told of a step that is taken
pub coder-placed : {X : Type 0} (entry : Table → List ℕ → ℕ → X)
    → Told coder_fault coder_next code_memory coder-memory (placed coder_fault entry) entry
coder-placed entry t s b = refl

pub decoder-placed : {X : Type 0} (entry : Table → List ℕ → ℕ → X)
    → Told decoder_fault decoder_next decode_memory decoder-memory (placed decoder_fault entry) entry
decoder-placed entry t s r = refl

pub sent-place : (s : List ℕ) (cs : List Call) (p : ℕ) → p < length (sent_by s cs)
    → Place coder_fault coder_next code_memory coder-memory s cs p
sent-place =
    run_place coder_fault coder_next code_memory coder-memory (λ t s b. sent_of t b (code_answer t s b)) sent_entry sent-told

pub taken-place : (s : List ℕ) (ds : List Call) (p : ℕ) → p < length (taken_by s ds)
    → Place decoder_fault decoder_next decode_memory decoder-memory s ds p
taken-place =
    run_place decoder_fault decoder_next decode_memory decoder-memory
    (λ t s r. taken_of t r (decode_answer t s r)) taken_entry taken-told

pub refused_skipped : RefusedSkipped
refused_skipped s cs c cs' = (
  skipped coder_fault coder_next code_memory coder-memory
      (λ t s b. sent_of t b (code_answer t s b)) sent_entry sent-told s cs c cs',
  skipped decoder_fault decoder_next decode_memory decoder-memory
      (λ t s r. taken_of t r (decode_answer t s r)) taken_entry taken-told s cs c cs',
)
