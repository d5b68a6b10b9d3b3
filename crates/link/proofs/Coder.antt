-- The coder's step: its refusals, and what a step that is taken does to each word, as records over n, N, m and the
-- information's rows. Assumes nothing.
--
--   coder-fault               the chain of tests
--   code-refuses, codes, codes-so   answer and memory of a step that is refused and of one that is not, and the promise
--   code-unfit                12 applies
--   CoderTaken, coder-taken   what the tests of a step that is taken say
--   CoderStep, coder-step     what the step does
--   coded-below, coded-fits   a coded block is below 2^n, and has 16 bits at most
--   coder-length              the length stays
use mathlib.Core.Path.{◌≡◌, refl, sym, ap, ap₂, ◌∙◌, subst}
use mathlib.Core.Bool.{Bool, true, false, cond, not}
use mathlib.Core.Logic.{◌≢◌}
use mathlib.Core.List.{List, [], ◌∷◌}
use Prim.Native.Nat.{ℕ, suc, ◌+◌, ◌-◌, ◌*◌, ◌/◌, ◌^◌, ◌≤◌, ◌<◌}
use native.Mathlib.Nat.{zero-mul, one-mul, le_refl}
use native.Mathlib.Omega.{arith}
use lib.Dec.{leb, eqb}
use lib.ListN.{length, set, length-set}
use lib.Seq.{get_or-set_same, get_or-set_other}
use lib.Pow.{pow_mono}
use Rattle.span.specs.Word.{◌⊕◌, odd, sel, digit}
use Rattle.span.specs.Combination.{combination}
use Rattle.tables.specs.declared.table.Table.{Table}
use Rattle.tables.specs.Table.{fit, info_rows}
use Rattle.std.specs.Prelude.{Ok}
use Rattle.link.specs.Coder.{code_answer, code_memory, code_numbers, Codes, CodedBelow, coder_joining, coded_block}
use Rattle.link.specs.Coder.{coder_next}
use Rattle.tables.proofs.Fit.{Fits}
use Rattle.link.specs.Memory.{joining, next_turn, coder_words, turn_of, pending_at}
use Rattle.link.specs.Refusals.{Answer, coder_malformed, coder_fault, refused}
use Rattle.span.proofs.Masks.{topped-lt}
use Rattle.link.proofs.Malformed.{fine-coder}
use Rattle.link.proofs.Refusals.{
  step_fault_lem,
  step_passed,
  refuses,
  takes,
  call-numbers,
  numbered,
  coder-range,
  number_12,
}

-- ---- refusals

pub coder-fault : (t : Table) (s : List ℕ) (b : ℕ)
    → coder_fault t s b
    ≡ cond (not (fit t)) 12 (cond (not (eqb (length s) (coder_words t))) 13
    (cond (coder_malformed t s) 14 (cond (leb (2 ^ (t.symbols - 1)) b) 15 0)))
unfolding coder_fault
coder-fault t s b = step_fault_lem t (coder_words t) (coder_malformed t s) (2 ^ (t.symbols - 1)) s b

pub code-refuses : (t : Table) (s : List ℕ) (b : ℕ) (k : ℕ) → coder_fault t s b ≡ k → 0 < k
    → (refused k ≡ code_answer t s b) × (s ≡ code_memory t s b)
unfolding code_answer code_memory
code-refuses t s b = refuses refused (coder_fault t s b) (Ok (coded_block t s b)) (coder_next t s b) s

pub codes : (t : Table) (s : List ℕ) (b : ℕ) → coder_fault t s b ≡ 0
    → (Ok (coded_block t s b) ≡ code_answer t s b) × (coder_next t s b ≡ code_memory t s b)
unfolding code_answer code_memory
codes t s b = takes refused (coder_fault t s b) (Ok (coded_block t s b)) (coder_next t s b) s

-- answer and memory are all that is promised: the numbers follow
pub codes-so : (t : Table) (s : List ℕ) (b : ℕ) (r : Answer ℕ) (after : List ℕ) → r ≡ code_answer t s b
    → after ≡ code_memory t s b → Codes t s b r after
unfolding code_answer
codes-so t s b r after p q = record {
  answer = p;
  memory = q;
  numbers = ap code_numbers p
      ∙ call-numbers code_numbers (coder_fault t s b) (Ok (coded_block t s b)) refused
      (coded_block t s b ∷ []) refl (λ some. numbered (coder_fault t s b) (coder-range t s b some));
}

-- 12, and no other
pub code-unfit : (t : Table) (s : List ℕ) (b : ℕ) → fit t ≡ false → coder_fault t s b ≡ 12
unfolding coder_fault
code-unfit t s b = number_12 t (coder_words t) (coder_malformed t s) (2 ^ (t.symbols - 1)) s b

-- ---- a step that is taken

-- what the tests of a step that is taken say
pub record CoderTaken (t : Table) (s : List ℕ) (b : ℕ) : Type 0 where
  pub sizes : Fits t.symbols t.span t.depth (info_rows t)
  pub size : length s ≡ 1 + t.depth
  pub turn : turn_of s < t.depth
  pub pending : pending_at s (turn_of s) < 2 ^ (t.span - 1)
  pub info : b < 2 ^ (t.symbols - 1)

pub coder-taken : (t : Table) (s : List ℕ) (b : ℕ) → coder_fault t s b ≡ 0 → CoderTaken t s b
unfolding coder_fault
coder-taken t s b e =
    let p = step_passed t (coder_words t) (coder_malformed t s) (2 ^ (t.symbols - 1)) s b e in
    let g = fine-coder t s p.formed in
    record { sizes = p.sizes; size = p.size; turn = g.0; pending = g.1; info = p.block }

-- a step in numbers: with the information's image, and the parity's weight
pub sel-digit : (s : Bool) (k : ℕ) → sel s k ≡ digit s * k
sel-digit true k = sym (one-mul k)
sel-digit false k = sym (zero-mul k)

pub sel-most : (s : Bool) (k : ℕ) → sel s k ≤ k
sel-most true k = le_refl k
sel-most false k = omega arith

module _ (t : Table) (s : List ℕ) (b image : ℕ) (e : image ≡ combination (info_rows t) b) where
  pub block_in_numbers : (weight : ℕ) → weight ≡ 2 ^ (t.symbols - 1)
      → b + sel (odd (pending_at s (turn_of s) ⊕ image)) weight ≡ coded_block t s b
  unfolding coded_block coder_joining joining
  block_in_numbers weight w =
      ap₂ (λ (i k : ℕ). b + sel (odd (pending_at s (turn_of s) ⊕ i)) k) e w
      ∙ ap (λ (x : ℕ). b + x) (sel-digit (odd (pending_at s (turn_of s) ⊕ combination (info_rows t) b)) _)

  pub memory_in_numbers :
      set (set s (1 + turn_of s) ((pending_at s (turn_of s) ⊕ image) / 2)) 0 (next_turn t.depth (turn_of s))
      ≡ coder_next t s b
  unfolding coder_next coder_joining joining
  memory_in_numbers =
      ap (λ (i : ℕ). set (set s (1 + turn_of s) ((pending_at s (turn_of s) ⊕ i) / 2)) 0 (next_turn t.depth (turn_of s))) e

pub record CoderStep (n N m : ℕ) (infos : List ℕ) (s : List ℕ) (b c : ℕ) (after : List ℕ) : Type 0 where
  pub fits : Fits n N m infos
  pub turn_lt : turn_of s < m
  pub pending_lt : pending_at s (turn_of s) < 2 ^ (N - 1)
  pub info_lt : b < 2 ^ (n - 1)
  pub coded : c ≡ b + digit (odd (joining infos (pending_at s (turn_of s)) b)) * 2 ^ (n - 1)
  pub turn_on : turn_of after ≡ next_turn m (turn_of s)
  pub own : pending_at after (turn_of s) ≡ joining infos (pending_at s (turn_of s)) b / 2
  pub others : (k : ℕ) → k < m → k ≢ turn_of s → pending_at after k ≡ pending_at s k

pub coder-step : (t : Table) (s : List ℕ) (b : ℕ) → coder_fault t s b ≡ 0
    → CoderStep t.symbols t.span t.depth (info_rows t) s b (coded_block t s b) (coder_next t s b)
unfolding coded_block coder_next coder_joining
coder-step t s b e =
    let k = coder-taken t s b e in
    let size = k.size in
    let turn = k.turn in
    let w = joining (info_rows t) (pending_at s (turn_of s)) b / 2 in
    let to = next_turn t.depth (turn_of s) in
    record {
      fits = k.sizes;
      turn_lt = turn;
      pending_lt = k.pending;
      info_lt = k.info;
      coded = refl;
      turn_on = get_or-set_same (set s (1 + turn_of s) w) 0 to 0 (rw (length-set s (1 + turn_of s) w) (omega arith));
      own =
          get_or-set_other (set s (1 + turn_of s) w) 0 (1 + turn_of s) to 0 (λ (z : 1 + turn_of s ≡ 0). omega arith)
          ∙ get_or-set_same s (1 + turn_of s) w 0 (omega arith);
      others = λ k l ne.
          get_or-set_other (set s (1 + turn_of s) w) 0 (1 + k) to 0 (λ (z : 1 + k ≡ 0). omega arith)
          ∙ get_or-set_other s (1 + turn_of s) (1 + k) w 0 (λ (z : 1 + k ≡ 1 + turn_of s). ne (omega arith));
    }

pub coded-below : CodedBelow
unfolding coded_block
coded-below t s b e =
    let k = coder-taken t s b e in
    let n : suc (t.symbols - 1) ≡ t.symbols = (let z = k.sizes in omega arith) in
    subst (λ (j : ℕ). coded_block t s b < 2 ^ j) n (topped-lt (t.symbols - 1) b (odd (coder_joining t s b)) k.info)

-- so it has 16 bits at most
pub coded-fits : (t : Table) (s : List ℕ) (b : ℕ) → coder_fault t s b ≡ 0 → coded_block t s b < 2 ^ 16
coded-fits t s b e =
    let most = pow_mono (coder-taken t s b e).sizes.n_to in
    let l = coded-below t s b e in
    omega arith

pub coder-length : (t : Table) (s : List ℕ) (b : ℕ) → length (coder_next t s b) ≡ length s
unfolding coder_next
coder-length t s b = simp length-set
