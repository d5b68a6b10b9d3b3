-- The entry of a single call in a batch, by its fault: none of a call that is refused. Assumes nothing.
--
--   coded_none, coded_one       the coder's
--   decoded_none, decoded_one   the decoder's
--   code_unfit, decode_unfit  with a table or a memory that 12 or 13 refuses, no block has an entry
use mathlib.Core.Path.{◌≡◌, sym, ap, ◌∙◌}
use mathlib.Core.Bool.{true, false}
use mathlib.Core.List.{List, [], ◌∷◌}
use Prim.Native.Nat.{ℕ, ◌<◌}
use native.Mathlib.Omega.{arith}
use borrow.Author.Tests.{ne_eqb}
use lib.ListN.{length}
use Rattle.tables.specs.declared.table.Table.{Table}
use Rattle.tables.specs.Table.{fit}
use Rattle.link.specs.Memory.{coder_words, decoder_words}
use Rattle.link.specs.Refusals.{coder_fault, decoder_fault}
use Rattle.link.specs.Coder.{code_answer, coded_block}
use Rattle.link.specs.Decoder.{decode_answer, delivery}
use Rattle.link.specs.Batch.{code_entries, decode_entries}
use Rattle.link.proofs.Coder.{codes, code-refuses, coder-fault}
use Rattle.link.proofs.Decoder.{decodes, decode-refuses, decoder-fault}

module _ (t : Table) (s : List ℕ) (b : ℕ) where
  pub coded_none : (k : ℕ) → coder_fault t s b ≡ k → 0 < k → code_entries (code_answer t s b) ≡ []
  coded_none k e some = ap code_entries (sym (code-refuses t s b k e some).0)

  pub coded_one : coder_fault t s b ≡ 0 → code_entries (code_answer t s b) ≡ coded_block t s b ∷ []
  coded_one e = ap code_entries (sym (codes t s b e).0)

  pub decoded_none : (k : ℕ) → decoder_fault t s b ≡ k → 0 < k → decode_entries (decode_answer t s b) ≡ []
  decoded_none k e some = ap decode_entries (sym (decode-refuses t s b k e some).0)

  pub decoded_one : decoder_fault t s b ≡ 0 → decode_entries (decode_answer t s b) ≡ decode_entries (delivery t s b)
  decoded_one e = ap decode_entries (sym (decodes t s b e).0)

module _ (t : Table) (s : List ℕ) where
  pub code_unfit : fit t ≡ false → (b : ℕ) → code_entries (code_answer t s b) ≡ []
  code_unfit f b = coded_none t s b 12 (coder-fault t s b ∙ simp f) (omega arith)

  pub code_other : fit t ≡ true → (length s ≡ coder_words t → ⊥) → (b : ℕ) → code_entries (code_answer t s b) ≡ []
  code_other f long b =
      coded_none t s b 13 (coder-fault t s b ∙ simp (f, ne_eqb (length s) (coder_words t) long)) (omega arith)

  pub decode_unfit : fit t ≡ false → (r : ℕ) → decode_entries (decode_answer t s r) ≡ []
  decode_unfit f r = decoded_none t s r 12 (decoder-fault t s r ∙ simp f) (omega arith)

  pub decode_other : fit t ≡ true → (length s ≡ decoder_words t → ⊥) → (r : ℕ) → decode_entries (decode_answer t s r) ≡ []
  decode_other f long r =
      decoded_none t s r 13 (decoder-fault t s r ∙ simp (f, ne_eqb (length s) (decoder_words t) long)) (omega arith)
