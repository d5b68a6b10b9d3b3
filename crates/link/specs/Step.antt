-- One stream of a code: the work of a decoding step on the words of the turn's stream (01, "Coder and decoder memory";
-- 000, II.B and IV). The rows 1 to n − 1 of the information are a list, and so are the rows 1 to n of the code.
--
--   information n r, parity n r   information and parity of a received block
--   raw_term w n r                the raw term of the syndrome
--   register N syndrome raw       the register
--   stream_joining, stream_register the word w and the register of a decoding step on a stream's pending word and
--                                 syndrome word
--   found rows x                  the least error block whose image is the register, or none
--   error_of f, kept_of f x       the error, and the syndrome word that stays
--   mark_found weight e           the mark of an error block that was found, with the weight of the parity
--   mark_of weight f x            the mark
--   stream_found, stream_next, stream_info, stream_mark   the error found, the stream's part after the step, and
--                                                     information and mark of its record
use Rattle.std.specs.Prelude.{Bool, cond, List, [], ◌∷◌, ◌++◌, ℕ, ◌+◌, ◌-◌, ◌*◌, ◌/◌, ◌%◌, ◌^◌, eqb, take}
use Rattle.std.specs.Bool.{xor}
use Rattle.std.specs.Prelude.{Option}
use Rattle.std.specs.Prelude.{Some, None}
use Rattle.span.specs.Word.{◌⊕◌, odd, bit, digit}
use Rattle.span.specs.Relation.{least_coefficients}
use Rattle.tables.specs.Table.{code_rows}
use Rattle.link.specs.Memory.{joining, next_pending}
use Rattle.link.specs.declared.decode.Mark.{Mark}
use Rattle.link.specs.declared.decode.Mark.TheVariants.{Clean, Corrected, Parity, Doubtful, Held}

-- symbol n is the parity, of weight 2^(n−1); the information is what is below it
abbrev pub information : ℕ → ℕ → ℕ
information n r = r % 2 ^ (n - 1)

abbrev pub parity : ℕ → ℕ → Bool
parity n r = bit (n - 1) r

-- 1. "The raw term is the parity of received information, exclusive or received parity."
abbrev pub raw_term : ℕ → ℕ → ℕ → Bool
raw_term w n r = xor (odd w) (parity n r)

-- 2. "The register is the syndrome word with the raw term as bit N − 1."
abbrev pub register : ℕ → ℕ → Bool → ℕ
register N syndrome raw = syndrome + digit raw * 2 ^ (N - 1)

-- lines 1 and 2 on the words of a stream: n and N, the rows stored, the pending word p, the syndrome word s, and the
-- received block r
abbrev pub stream_joining : ℕ → List ℕ → ℕ → ℕ → ℕ
stream_joining n rows p r = joining (take (n - 1) rows) p (information n r)

abbrev pub stream_register : ℕ → ℕ → List ℕ → ℕ → ℕ → ℕ → ℕ
stream_register n N rows p s r = register N s (raw_term (stream_joining n rows p r) n r)

-- 3. "If some e has the register as image, the least such e is the error, and the syndrome word becomes 0. Otherwise
-- the error is 0 and the word is the register halved, its bit 0 dropped."
abbrev pub found : List ℕ → ℕ → Option ℕ
found rows x = least_coefficients rows x

abbrev pub error_of : Option ℕ → ℕ
error_of (Some e) = e
error_of None = 0

abbrev pub kept_of : Option ℕ → ℕ → ℕ
kept_of (Some e) x = 0
kept_of None x = x / 2

-- "Marks: clean (register 0); corrected, carrying e (e not 0); doubtful (no e, bit 0 of the register is 1); held (no e,
-- bit 0 is 0)." An error of 0 has the register 0. 02, CR 4: "When e is exactly 2^(n−1) the mark is now "parity" and not
-- "corrected"": e is the weight of the parity, and is carried too.
abbrev pub mark_found : ℕ → ℕ → Mark
mark_found weight e = cond (eqb e 0) Clean (cond (eqb e weight) (Parity e) (Corrected e))

abbrev pub mark_of : ℕ → Option ℕ → ℕ → Mark
mark_of weight (Some e) x = mark_found weight e
mark_of weight None x = cond (odd x) Doubtful Held

-- lines 3 and 4 on the words of a stream: what is found; the part after the step, in which `stay` are the delayed
-- blocks but the oldest; and information and mark of the record, "the oldest delayed block, corrected by e". The
-- information is corrected, so e without its parity symbol.
abbrev pub stream_found : ℕ → ℕ → List ℕ → ℕ → ℕ → ℕ → Option ℕ
stream_found n N rows p s r = found (code_rows n rows) (stream_register n N rows p s r)

abbrev pub stream_next : ℕ → ℕ → List ℕ → ℕ → ℕ → List ℕ → ℕ → List ℕ
stream_next n N rows p s stay r =
    next_pending (stream_joining n rows p r) ∷ kept_of (stream_found n N rows p s r) (stream_register n N rows p s r)
    ∷ (stay ++ (information n r ∷ []))

abbrev pub stream_info : ℕ → ℕ → List ℕ → ℕ → ℕ → ℕ → ℕ → ℕ
stream_info n N rows p s oldest r = oldest ⊕ information n (error_of (stream_found n N rows p s r))

abbrev pub stream_mark : ℕ → ℕ → List ℕ → ℕ → ℕ → ℕ → Mark
stream_mark n N rows p s r = mark_of (2 ^ (n - 1)) (stream_found n N rows p s r) (stream_register n N rows p s r)
