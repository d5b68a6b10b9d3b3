-- The coder's step: its refusals, and what the tests of a step that is taken say. Assumes nothing.
--
--   coder-fault               the chain of tests
--   code-refuses, codes, codes-so   answer and memory of a step that is refused and of one that is not, and the promise
--   CoderTaken, coder-taken   what the tests of a step that is taken say
--   coded-below               a coded block is below 8
--   joined                    the word w as it is computed, of coder and decoder
use mathlib.Core.Path.{◌≡◌, refl, sym, ap, ◌∙◌}
use mathlib.Core.Bool.{cond, not}
use mathlib.Core.List.{List, [], ◌∷◌}
use Prim.Native.Nat.{ℕ, ◌<◌}
use native.Mathlib.Omega.{arith}
use borrow.Author.Tests.{leb-false}
use lib.Bits.{bit_xor}
use lib.Dec.{leb, eqb}
use lib.ListN.{length}
use Rattle.span.specs.Word.{◌⊕◌, odd}
use Rattle.span.specs.Combination.{combination}
use Rattle.span.proofs.Word.{xor-code}
use Rattle.span.proofs.Masks.{topped-lt}
use Rattle.std.specs.Prelude.{Ok}
use Rattle.link.specs.Refusals.{Answer, refused}
use Rattle.link.specs.Memory.{joining}
use Rattle.link.specs.Coder.{code_numbers}
use Rattle.link.proofs.Memory.{joining-is}
use Rattle.link.proofs.Refusals.{refuses, takes, call-numbers, numbered}
use Rattle.iwadare.specs.Memory.{generators, coder_words, coder_pending, pending_bound, delayed_bound}
use Rattle.iwadare.specs.Refusals.{coder_malformed, coder_fault}
use Rattle.iwadare.specs.Formed.{CoderFormed}
use Rattle.iwadare.specs.Coder.{coder_joining, coded_block, coder_next, code_answer, code_memory, Codes}
use Rattle.iwadare.proofs.Refusals.{coder-range, step_fault_lem, step_passed}

-- ---- refusals

pub coder-fault : (s : List ℕ) (b : ℕ)
    → coder_fault s b
    ≡ cond (not (eqb (length s) coder_words)) 13 (cond (coder_malformed s) 14 (cond (leb delayed_bound b) 15 0))
unfolding coder_fault
coder-fault s b = step_fault_lem coder_words (coder_malformed s) delayed_bound s b

pub code-refuses : (s : List ℕ) (b : ℕ) (k : ℕ) → coder_fault s b ≡ k → 0 < k
    → (refused k ≡ code_answer s b) × (s ≡ code_memory s b)
unfolding code_answer code_memory
code-refuses s b = refuses refused (coder_fault s b) (Ok (coded_block s b)) (coder_next s b) s

pub codes : (s : List ℕ) (b : ℕ) → coder_fault s b ≡ 0
    → (Ok (coded_block s b) ≡ code_answer s b) × (coder_next s b ≡ code_memory s b)
unfolding code_answer code_memory
codes s b = takes refused (coder_fault s b) (Ok (coded_block s b)) (coder_next s b) s

-- answer and memory are all that is promised: the numbers follow
pub codes-so : (s : List ℕ) (b : ℕ) (r : Answer ℕ) (after : List ℕ) → r ≡ code_answer s b → after ≡ code_memory s b
    → Codes s b r after
unfolding code_answer
codes-so s b r after p q = record {
  answer = p;
  memory = q;
  numbers = ap code_numbers p
      ∙ call-numbers code_numbers (coder_fault s b) (Ok (coded_block s b)) refused (coded_block s b ∷ []) refl
      (λ some. let l = coder-range s b some in numbered _ (omega (arith, l.0), l.1));
}

-- ---- a step that is taken

pub record CoderTaken (s : List ℕ) (b : ℕ) : Type 0 where
  pub formed : CoderFormed s
  pub info : b < delayed_bound

pub coder-taken : (s : List ℕ) (b : ℕ) → coder_fault s b ≡ 0 → CoderTaken s b
unfolding coder_fault
coder-taken s b e =
    let p = step_passed coder_words (coder_malformed s) delayed_bound s b e in
    record {
      formed = record { size = p.size; pending = leb-false pending_bound (coder_pending s) p.formed };
      info = p.block;
    }

pub coded-below : (s : List ℕ) (b : ℕ) → coder_fault s b ≡ 0 → coded_block s b < 8
unfolding coded_block
coded-below s b e = topped-lt 2 b (odd (coder_joining s b)) (coder-taken s b e).info

-- of coder and decoder
pub joined : (pending info image : ℕ) → image ≡ combination generators info
    → bit_xor pending image ≡ joining generators pending info
joined pending info image e =
    xor-code pending image ∙ ap (λ (i : ℕ). pending ⊕ i) e ∙ sym (joining-is generators pending info)
