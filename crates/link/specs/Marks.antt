-- What a mark tells: the papers' words of the five marks, of any n, any rows and any register.
--
--   NoError rows x        no error block has the register x as its image
--   LeastError rows x e   e is the least error block that has
--   MarksLaw              each mark is given exactly where 01 and 02 say
use Rattle.std.specs.Prelude.{◌≡◌, true, false, ◌≢◌, ◌↔◌, List, ℕ, ◌-◌, ◌^◌, ◌<◌, length}
use Rattle.std.specs.Prelude.{Some}
use Rattle.span.specs.Word.{odd}
use Rattle.span.specs.Combination.{combination}
use Rattle.span.specs.Relation.{IsLeast}
use Rattle.link.specs.declared.decode.Mark.TheVariants.{Clean, Corrected, Parity, Doubtful, Held}
use Rattle.link.specs.Step.{found, mark_of}

abbrev pub NoError : List ℕ → ℕ → Type 0
NoError rows x = (e : ℕ) → e < 2 ^ length rows → combination rows e ≢ x

-- "the least such e" that has the register as image
abbrev pub LeastError : List ℕ → ℕ → ℕ → Type 0
LeastError rows x e = IsLeast (λ c. combination rows c ≡ x) 0 (2 ^ length rows) (Some e)

-- "clean (register 0); corrected, carrying e (e not 0); doubtful (no e, bit 0 of the register is 1); held (no e, bit 0
-- is 0)"; and 02, CR 4: "When e is exactly 2^(n−1) the mark is now "parity" and not "corrected""
abbrev pub MarksLaw : Type 0
MarksLaw =
    (n : ℕ) (rows : List ℕ) (x : ℕ) →
    let mark = mark_of (2 ^ (n - 1)) (found rows x) x in
    ((mark ≡ Clean) ↔ (x ≡ 0))
    × ((e : ℕ) → (mark ≡ Corrected e) ↔ ((e ≢ 0) × (e ≢ 2 ^ (n - 1)) × LeastError rows x e))
    × ((e : ℕ) → (mark ≡ Parity e) ↔ ((e ≡ 2 ^ (n - 1)) × LeastError rows x e))
    × ((mark ≡ Doubtful) ↔ (NoError rows x × (odd x ≡ true)))
    × ((mark ≡ Held) ↔ (NoError rows x × (odd x ≡ false)))
