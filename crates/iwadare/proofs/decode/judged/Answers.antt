-- `iwadare::decode::judged`: the newest term, and then the oldest two decide. Assumes nothing.
use mathlib.Core.Path.{◌≡◌, refl, sym, ap, ap₂, ◌∙◌}
use mathlib.Core.Bool.{Bool, true, false, not, ◌&&◌}
use Prim.Native.Nat.{ℕ, ◌/◌, ◌%◌}
use native.Mathlib.Omega.{arith}
use lib.Bits.{bit_xor}
use Rattle.span.specs.Word.{◌⊕◌, bit, sel, digit}
use Rattle.span.proofs.Word.{odd-of, xor-code, xor_zero_l, xor_zero_r, bit-odd, bit-zero, bit-none, bit-top, and-false}
use Rattle.iwadare.specs.Decoder.{flips_symbol1, flips_symbol0, matched, terms_next}
use Rattle.iwadare.proofs.decode.judged.Goals as goal

-- what the terms say, by whether they flip
verdict : (x : ℕ) (one zero : Bool) (kept : ℕ) → flips_symbol1 x ≡ one → flips_symbol0 x ≡ zero
    → kept ≡ x ⊕ (sel one 4097 ⊕ sel zero 4098)
    → record {
      terms : kept / 2 ≡ terms_next x;
      symbol0 : sel zero 1 ≡ sel (flips_symbol0 x) 1;
      symbol1 : sel one 2 ≡ sel (flips_symbol1 x) 2;
    }
unfolding terms_next matched
verdict x one zero kept e f g = record {
  terms = ap (λ (y : ℕ). y / 2) (g ∙ ap₂ (λ (a b : Bool). x ⊕ (sel a 4097 ⊕ sel b 4098)) (sym e) (sym f));
  symbol0 = ap (λ (b : Bool). sel b 1) (sym f);
  symbol1 = ap (λ (b : Bool). sel b 2) (sym e);
}

unflipped : (x : ℕ) → x ≡ x ⊕ (0 ⊕ 0)
unflipped x = sym (ap (λ (y : ℕ). x ⊕ y) (xor_zero_r 0) ∙ xor_zero_r x)

-- the two rules by three terms: the newest, the oldest but one, and the oldest
flips : (x : ℕ) (p q r : Bool) → bit 12 x ≡ p → bit 1 x ≡ q → bit 0 x ≡ r
    → (flips_symbol1 x ≡ p && r) × (flips_symbol0 x ≡ p && q && not r)
unfolding flips_symbol1 flips_symbol0
flips x p q r e f g = (rw (e, g), rw (e, f, g))

oldest : (x : ℕ) (s : Bool) → x % 2 ≡ digit s → bit 0 x ≡ s
oldest x s e = bit-zero x ∙ odd-of s x e

second : (x : ℕ) (s : Bool) → x / 2 % 2 ≡ digit s → bit 1 x ≡ s
second x s e = bit-odd 1 x ∙ odd-of s (x / 2) e

pub returns-then-x-lt-NEWEST : goal.returns-then-x-lt-NEWEST
returns-then-x-lt-NEWEST c =
    let x = c.args.x in
    let f = flips x false _ _ (bit-none 12 x c.if-x-lt-NEWEST.true) refl refl in
    verdict x false false x f.0 f.1 (unflipped x)

pub returns-then-x-eq1 : goal.returns-then-x-eq1
returns-then-x-eq1 c =
    let x = c.args.x in
    let f = flips x true _ true (bit-top 12 x c.if-x-lt-NEWEST.false c.requires) refl
    (oldest x true c.if-x-eq1.true) in
    verdict x true false (bit_xor x 4097) f.0 (f.1 ∙ and-false (bit 1 x))
    (xor-code x 4097 ∙ ap (λ (y : ℕ). x ⊕ y) (sym (xor_zero_r 4097)))

pub returns-then-x-eq1-2 : goal.returns-then-x-eq1-2
returns-then-x-eq1-2 c =
    let x = c.args.x in
    let f = flips x true true false (bit-top 12 x c.if-x-lt-NEWEST.false c.requires)
    (second x true c.if-x-eq1-2.true) (oldest x false (omega arith)) in
    verdict x false true (bit_xor x 4098) f.0 f.1
    (xor-code x 4098 ∙ ap (λ (y : ℕ). x ⊕ y) (sym (xor_zero_l 4098)))

pub returns : goal.returns
returns c =
    let x = c.args.x in
    let f = flips x true false false (bit-top 12 x c.if-x-lt-NEWEST.false c.requires)
    (second x false (omega arith)) (oldest x false (omega arith)) in
    verdict x false false x f.0 f.1 (unflipped x)
