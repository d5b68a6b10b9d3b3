-- `iwadare::decode::taken`: w and the 13 terms as they are computed, and by them memory and answer. Assumes nothing.
use mathlib.Core.Path.{◌≡◌, sym, ap, ap₂, subst, ◌∙◌}
use mathlib.Core.Bool.{Bool, xor}
use mathlib.Core.List.{List, [], ◌∷◌, ◌++◌}
use Prim.Native.Nat.{ℕ, ◌+◌, ◌/◌, ◌%◌, ◌^◌, ◌<◌}
use native.Mathlib.Omega.{arith}
use borrow.Author.Tests.{lt-ltb, le-ltb}
use lib.Bits.{bit_xor}
use lib.Dec.{ltb}
use lib.ListN.{get_or, set, drop}
use Rattle.span.specs.Word.{◌⊕◌, odd, sel}
use Rattle.span.specs.Combination.{combination}
use Rattle.span.proofs.Word.{xor-code, odd-xor, bit-odd}
use Rattle.span.proofs.Combination.{combination-low}
use Rattle.link.proofs.Refusals.{picked, passed}
use Rattle.link.proofs.Coder.{sel-digit}
use Rattle.std.specs.Prelude.{Some, None, Ok}
use Rattle.iwadare.specs.Memory.{generators, delay, fill_of, pending_of, terms_of, fill_next}
use Rattle.iwadare.specs.Decoder.{decoder_joining, raw_of, register_of, flips_symbol1, flips_symbol0, terms_next}
use Rattle.iwadare.specs.Decoder.{decoder_next, delivered, delivery}
use Rattle.iwadare.proofs.Coder.{joined}
use Rattle.iwadare.proofs.Decoder.{decoder-taken, register_lt, delivered-below}
use Rattle.iwadare.proofs.decode.taken.Goals as goal
use Rattle.iwadare.proofs.decode.taken.Goals.{After-keep, After-select}

-- the step in the words that are computed: w, the 13 terms, and what these say
module _ (s : List ℕ) (r image : ℕ) (e : image ≡ combination generators r) where
  abbrev w : ℕ
  w = bit_xor (pending_of s) image

  joining-is : w ≡ decoder_joining s r
  unfolding decoder_joining
  joining-is = joined (pending_of s) (r % 4) image (e ∙ sym (combination-low generators r))

  register_is : (top : ℕ) → top ≡ sel (odd (bit_xor w (r / 4))) 4096 → terms_of s + top ≡ register_of s r
  unfolding register_of raw_of
  register_is top f =
      ap (λ (y : ℕ). terms_of s + y)
      (f ∙ ap (λ (b : Bool). sel b 4096) (ap odd (xor-code w (r / 4)) ∙ odd-xor w (r / 4)
      ∙ ap₂ xor (ap odd joining-is) (sym (bit-odd 2 r)))
      ∙ sel-digit (raw_of s r) (2 ^ 12))

  memory_is : (x terms one : ℕ) → x ≡ register_of s r → terms ≡ terms_next x → one ≡ sel (flips_symbol1 x) 2
      → fill_next (fill_of s) ∷ w / 2 ∷ terms ∷ (drop 4 (set s 6 (get_or s 6 0 ⊕ one)) ++ (r % 4 ∷ [])) ≡ decoder_next s r
  unfolding decoder_next
  memory_is x terms one is f g = rw (f, g, is, joining-is)

delivered-is : (s : List ℕ) (r x flip : ℕ) → x ≡ register_of s r → flip ≡ sel (flips_symbol0 x) 1
    → bit_xor (get_or s 3 0) flip ≡ delivered s r
unfolding delivered
delivered-is s r x flip is f =
    xor-code (get_or s 3 0) flip ∙ ap (λ (y : ℕ). get_or s 3 0 ⊕ y) (f ∙ ap (λ (y : ℕ). sel (flips_symbol0 y) 1) is)

-- the 13 terms
registered : (c : goal.After-select)
    → let a = c.args in
    terms_of a.memory.now + c.select.result ≡ register_of a.memory.now a.received
registered c =
    let a = c.args in
    register_is a.memory.now a.received c.image.result c.image.ensures c.select.result c.select.ensures

terms-lt : (c : goal.After-select) → terms_of c.args.memory.now + c.select.result < 2 ^ 13
terms-lt c =
    let a = c.args in
    subst (λ (y : ℕ). y < 2 ^ 13) (sym (registered c))
    (register_lt a.memory.now a.received (decoder-taken _ _ c.requires).formed.terms)

pub overflow_add-terms : goal.overflow_add-terms
overflow_add-terms c = let l = terms-lt (goal.at.overflow_add-terms c).After-select in record { fits = omega arith }

pub judged-v-requires : goal.judged-v-requires
judged-v-requires c = terms-lt (goal.at.judged-v-requires c).After-select

kept : (c : goal.After-keep)
    → let a = c.args in
    c.keep.new.memory ≡ decoder_next a.memory.now a.received
kept c =
    let a = c.args in
    let i = c.image in
    let v = c.judged-v in
    c.keep.ensures
    ∙ memory_is a.memory.now a.received i.result i.ensures _ v.result.terms v.result.symbol1
    (register_is a.memory.now a.received i.result i.ensures c.select.result c.select.ensures)
    v.ensures.terms v.ensures.symbol1

pub returns-then-fill-lt-DELAY : goal.returns-then-fill-lt-DELAY
unfolding delivery
returns-then-fill-lt-DELAY c =
    let a = c.args in
    let s = a.memory.now in
    record {
      answer =
          picked (ltb (fill_of s) delay) (Ok None) (Ok (Some (delivered s a.received)))
          (lt-ltb (fill_of s) delay c.if-fill-lt-DELAY.true);
      memory = kept (goal.at.returns-then-fill-lt-DELAY c).After-keep;
    }

-- the information that is delivered
flipped : (c : goal.After-keep)
    → let a = c.args in
    bit_xor (get_or a.memory.now 3 0) c.judged-v.result.symbol0 ≡ delivered a.memory.now a.received
flipped c =
    let a = c.args in
    let i = c.image in
    let v = c.judged-v in
    delivered-is a.memory.now a.received _ v.result.symbol0
    (register_is a.memory.now a.received i.result i.ensures c.select.result c.select.ensures) v.ensures.symbol0

pub overflow_cast-result : goal.overflow_cast-result
overflow_cast-result c =
    let e = flipped (goal.at.overflow_cast-result c).After-keep in
    let l = delivered-below c.args.memory.now c.args.received c.requires in
    record { fits = omega arith }

pub returns : goal.returns
unfolding delivery
returns c =
    let a = c.args in
    let s = a.memory.now in
    record {
      answer =
          ap (λ d. Ok (Some d)) (flipped (goal.at.returns c).After-keep)
          ∙ passed (ltb (fill_of s) delay) (Ok None) (Ok (Some (delivered s a.received)))
          (le-ltb (fill_of s) delay c.if-fill-lt-DELAY.false);
      memory = kept (goal.at.returns c).After-keep;
    }
