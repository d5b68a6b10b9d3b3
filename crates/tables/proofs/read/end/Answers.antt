-- `tables::read::end`: a row that was not given; then the length. Assumes nothing.
use Rattle.std.proofs.Common.{rules, ◌≡◌, true, not, ◌-◌, ◌≤◌, length, get_or, ℕ, Bool, false, List, [], ◌∷◌}
use mathlib.Core.Path.{refl, sym, ◌∙◌}
use mathlib.Core.Bool.{beq, ◌||◌, ◌&&◌}
use Prim.Native.Nat.{zero, suc}
use native.Mathlib.Omega.{arith}
use borrow.Author.Tests.{lt-ltb, le-ltb}
use lib.ListN.{take}
use lib.Seq.{take-suc}
use Rattle.std.specs.List.{list_any}
use Rattle.std.proofs.lemmas.List.Folds.{list_any-append}
use Rattle.tables.specs.Format.{all_given, fault_of}
use Rattle.tables.proofs.read.end.Goals as goal

-- a test for false passes one of the first c exactly if not all of them were given
any_missing : (test : Bool → Bool) → ((b : Bool) → test b ≡ not b) → (given : List Bool) (c : ℕ) → c ≤ length given
    → list_any test (take c given) ≡ not (all_given given c)
unfolding all_given
any_missing test t given zero h = refl
any_missing test t given (suc c) h =
    rw (
      take-suc given c false (omega arith),
      list_any-append test (take c given) (get_or given c false ∷ []),
      any_missing test t given c (omega arith),
      t (get_or given c false),
    )
    (either (all_given given c) (get_or given c false))
  where
    either : (a b : Bool) → (not a || (not b || false)) ≡ not (a && b)
    either true true = refl
    either true false = refl
    either false b = refl

-- what the search answers, as the statement says it
missing : (given : List Bool) (symbols : ℕ) → length given ≡ 15 → symbols ≤ 16 → (answer : Bool)
    → answer ≡ list_any (λ b. beq b false) (take (symbols - 1) given) → not (all_given given (symbols - 1)) ≡ answer
missing given symbols n h answer e = sym (e ∙ any_missing (λ b. beq b false) test given (symbols - 1) (omega arith))
  where
    test : (b : Bool) → beq b false ≡ not b
    test true = refl
    test false = refl

pub returns-then-contains : goal.returns-then-contains
unfolding fault_of
returns-then-contains c =
    let g = c.args.g.now in
    rw (
      missing g.given g.table.symbols (search rules) c.requires.1 c.contains.result c.contains.ensures.value,
      c.if-contains.true,
    ) refl

pub returns-then-rest-gt1 : goal.returns-then-rest-gt1
unfolding fault_of
returns-then-rest-gt1 c =
    let g = c.args.g.now in
    rw (
      missing g.given g.table.symbols (search rules) c.requires.1 c.contains.result c.contains.ensures.value,
      c.if-contains.false,
      lt-ltb 1 (length c.args.rest.now) (omega arith),
    ) refl

pub returns : goal.returns
unfolding fault_of
returns c =
    let g = c.args.g.now in
    rw (
      missing g.given g.table.symbols (search rules) c.requires.1 c.contains.result c.contains.ensures.value,
      c.if-contains.false,
      le-ltb 1 (length c.args.rest.now) (omega arith),
    ) refl
