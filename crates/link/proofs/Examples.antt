-- The examples T1 to T12 and 02's two of first clashes, computed. Assumes nothing.
use mathlib.Core.Path.{◌≡◌, refl}
use mathlib.Core.Bool.{xor}
use mathlib.Core.List.{[], ◌∷◌}
use lib.ListN.{replicate}
use Rattle.span.specs.Word.{◌⊕◌, odd, bit, shifted}
use Rattle.span.specs.Combination.{combination}
use Rattle.span.specs.Relation.{least_from, least_coefficients}
use Rattle.std.specs.Prelude.{Ok}
use Rattle.tables.specs.Code.{image, shifted_image}
use Rattle.tables.specs.Table.{table, sizes_fit, rows_fit, fit}
use Rattle.tables.specs.Refusal.{first_of}
use Rattle.tables.specs.Format.{size, word, all_given, unavailable, fault, fault_of, place, sized, rowed, after, parse_from}
use Rattle.tables.specs.Format.{parse}
use Rattle.tables.specs.Clash.{first_from, clash_of, clash_at, first_clash}
use Rattle.tables.specs.Reading.{reading}
use Rattle.tables.specs.Made.{columns, upper, made_row, made_rows, made_table, making}
use Rattle.tables.proofs.Tested.{clashing, clash-here}
use Rattle.link.specs.Memory.{joining}
use Rattle.link.specs.Refusals.{answered, leaves, step_fault, coder_fault, some_above, decoder_fault}
use Rattle.link.specs.Coder.{coder_joining, coded_block, coder_next, code_answer, code_memory}
use Rattle.link.specs.Decoder.{decoder_joining, decoder_register, decoder_found, part_next, decoder_next, delivered}
use Rattle.link.specs.Decoder.{delivery, decode_answer, decode_memory}
use Rattle.link.specs.Computed.{Z, answers_by}
use Rattle.link.specs.Examples.{ReadsAs, bytes_of_z, ExamplesLaw}

-- T1
pub z-accepted : reading bytes_of_z ≡ Ok (Z 1)
unfolding parse parse_from fault first_of size word all_given unavailable place sized rowed after sizes_fit image
    shifted_image combination shifted bit odd xor ◌⊕◌ reading first_clash clash_at clash_of first_from
z-accepted = refl

z-read : ReadsAs bytes_of_z (Z 1)
z-read = rw z-accepted (refl, refl)

pub examples-hold : ExamplesLaw
unfolding parse parse_from fault fault_of first_of size word all_given unavailable place sized rowed after sizes_fit columns upper
    made_row made_rows made_table making image shifted_image combination shifted bit odd xor ◌⊕◌ clashing reading first_clash
    clash_at clash_of first_from answers_by code_answer code_memory answered leaves step_fault coder_fault coder_joining
    coded_block coder_next decode_answer decode_memory decoder_fault decoder_joining decoder_register decoder_found part_next
    decoder_next delivered delivery some_above joining least_from least_coefficients rows_fit fit
examples-hold = (
  z-read,
  (
    (refl, refl),
    (
      (refl, refl),
      (
        (refl, refl),
        (
          (refl, refl),
          (
            (refl, refl),
            (
              (refl, refl),
              (
                refl,
                (
                  refl,
                  (
                    refl,
                    (
                      (
                        table 5 10 1 (976 ∷ 904 ∷ 772 ∷ 514 ∷ replicate 11 0),
                        refl,
                        clash-here 10 (976 ∷ 904 ∷ 772 ∷ 514 ∷ 1 ∷ []) 3 3 26 refl,
                        refl,
                        refl,
                      ),
                      (
                        (Z 1, z-read, refl),
                        ((Z 1, z-read, refl), ((Z 1, z-read, refl), ((refl, refl), ((refl, refl), tt)))),
                      ),
                    ),
                  ),
                ),
              ),
            ),
          ),
        ),
      ),
    ),
  ),
)
