-- What a call that fills a load answers and leaves. Assumes nothing.
--
--   load-blocks             the lent blocks after a call, by its fault
--   settled                 what `fill_load` promises, once its two tests are settled
--   load_calls, load_rows   the theorems
use mathlib.Core.Path.{◌≡◌, refl, sym, ◌∙◌, subst}
use mathlib.Core.Bool.{Bool, true, false, cond}
use mathlib.Core.Logic.{◌⊎◌, inl, inr}
use mathlib.Core.List.{List, []}
use Prim.Native.Nat.{ℕ, ◌-◌}
use lib.Dec.{eqb}
use lib.ListN.{length, take}
use Rattle.std.specs.Prelude.{Result, Ok, Err}
use Rattle.tables.specs.declared.table.Table.{Table}
use Rattle.tables.specs.Table.{table, fit}
use Rattle.tables.proofs.Fit.{fit_same}
use Rattle.tables.proofs.Same.{sizes-are}
use Rattle.link.specs.Refusals.{leaves, call_numbers}
use Rattle.load.specs.declared.fill.LoadError.{LoadError}
use Rattle.load.specs.declared.fill.LoadError.TheVariants.{UnfitTable, ZeroSeed}
use Rattle.load.specs.Load.{load_of}
use Rattle.load.specs.Filling.{refusal_number, load_fault, load_answer, load_blocks, load_numbers, Loads}
use Rattle.load.specs.Filling.{LoadCalls, LoadRows}

pub load-blocks : (t : Table) (seed : ℕ) (out : List ℕ)
    → load_blocks t seed out ≡ leaves (load_fault t seed) (load_of t seed (length out)) out
unfolding load_blocks
load-blocks t seed out = refl

-- fault, answer and blocks by whether the table is fit, and whether the seed is 0
abbrev fault_by : Bool → Bool → ℕ
fault_by f z = cond f (cond z 17 0) 12

abbrev answer_by : Bool → Bool → Result (Unit {0}) LoadError
answer_by f z = cond f (cond z (Err ZeroSeed) (Ok tt)) (Err UnfitTable)

abbrev blocks_by : Bool → Bool → List ℕ → List ℕ → List ℕ
blocks_by f z next out = cond f (cond z out next) out

blocks-are : (f z : Bool) (next out : List ℕ) → blocks_by f z next out ≡ leaves (fault_by f z) next out
unfolding leaves
blocks-are true true next out = refl
blocks-are true false next out = refl
blocks-are false z next out = refl

numbers-are : (f z : Bool) → load_numbers (answer_by f z) ≡ call_numbers (fault_by f z) []
unfolding call_numbers
numbers-are true true = refl
numbers-are true false = refl
numbers-are false z = refl

pub settled : (t : Table) (seed : ℕ) (out : List ℕ) (f z : Bool) → fit t ≡ f → eqb seed 0 ≡ z
    → Loads t seed out (answer_by f z) (blocks_by f z (load_of t seed (length out)) out)
unfolding load_fault load_answer load_blocks
settled t seed out f z e g = rw (sym e, sym g) record {
  answer = refl;
  blocks = blocks-are (fit t) (eqb seed 0) (load_of t seed (length out)) out;
  numbers = numbers-are (fit t) (eqb seed 0);
}

-- ---- the theorems

calls-by : (next out : List ℕ) (r : Result (Unit {0}) LoadError) (out' : List ℕ) (f z : Bool)
    → r ≡ answer_by f z → out' ≡ blocks_by f z next out
    → ((e : LoadError) → r ≡ Err e
    → let k = refusal_number e in
    (k ≡ fault_by f z) × ((k ≡ 12) ⊎ (k ≡ 17)) × (out' ≡ out))
    × (fault_by f z ≡ 0 → (r ≡ Ok tt) × (out' ≡ next))
calls-by next out r out' true true p q = (zero, λ g. cc)
  where
    zero : (e : LoadError) → r ≡ Err e
        → let k = refusal_number e in
        (k ≡ 17) × ((k ≡ 12) ⊎ (k ≡ 17)) × (out' ≡ out)
    zero UnfitTable g = cc
    zero ZeroSeed g = (refl, inr refl, q)
calls-by next out r out' true false p q = (λ e g. cc, λ g. (p, q))
calls-by next out r out' false z p q = (unfit, λ g. cc)
  where
    unfit : (e : LoadError) → r ≡ Err e
        → let k = refusal_number e in
        (k ≡ 12) × ((k ≡ 12) ⊎ (k ≡ 17)) × (out' ≡ out)
    unfit UnfitTable g = (refl, inl refl, q)
    unfit ZeroSeed g = cc

pub load_calls : LoadCalls
unfolding load_fault load_answer load_blocks
load_calls t seed out r out' l =
    let next = load_of t seed (length out) in
    let f = fit t in
    let z = eqb seed 0 in
    calls-by next out r out' f z l.answer (l.blocks ∙ sym (blocks-are f z next out))

module _ (n N m : ℕ) (us ts : List ℕ) (e : take (n - 1) us ≡ take (n - 1) ts) (seed : ℕ) where
  faults : load_fault (table n N m us) seed ≡ load_fault (table n N m ts) seed
  unfolding load_fault
  faults = rw (fit_same n N m us ts e)

  answers : load_answer (table n N m us) seed ≡ load_answer (table n N m ts) seed
  unfolding load_answer
  answers = rw (fit_same n N m us ts e)

  blocks : (out : List ℕ) → load_blocks (table n N m us) seed out ≡ load_blocks (table n N m ts) seed out
  unfolding load_blocks
  blocks out = rw faults

pub load_rows : LoadRows
load_rows = (
  λ u t s seed out. (
    subst (λ (v : Table). load_answer v seed ≡ load_answer t seed) (sizes-are u t s)
        (answers t.symbols t.span t.depth u.rows t.rows s.rows seed),
    subst (λ (v : Table). load_blocks v seed out ≡ load_blocks t seed out) (sizes-are u t s)
        (blocks t.symbols t.span t.depth u.rows t.rows s.rows seed out),
  ),
  λ t rows seed k. refl,
)
