-- The examples, computed. Assumes nothing.
use mathlib.Core.Path.{refl}
use mathlib.Core.Bool.{xor}
use Rattle.span.specs.Word.{◌⊕◌, odd, bit, shifted}
use Rattle.span.specs.Combination.{combination}
use Rattle.span.specs.Relation.{least_from, least_coefficients}
use Rattle.tables.specs.Table.{sizes_fit, rows_fit, fit}
use Rattle.tables.specs.Refusal.{first_of}
use Rattle.tables.specs.Made.{columns, upper, made_row, made_rows, made_table}
use Rattle.tables.proofs.Made.{is_made}
use Rattle.link.specs.Memory.{joining}
use Rattle.link.specs.Refusals.{answered, leaves, step_fault, some_above, decoder_fault}
use Rattle.link.specs.Decoder.{decoder_joining, decoder_register, decoder_found, part_next, decoder_next, delivered}
use Rattle.link.specs.Decoder.{delivery, decode_answer, decode_memory}
use Rattle.link.specs.Computed.{answers_by}
use Rattle.load.specs.Draws.{next_state, after}
use Rattle.load.specs.Load.{errors, rounds, load}
use Rattle.load.specs.Examples.{FirstDraw, SmallMade, FirstBlocks, FirstAnswers}

pub first_draw : FirstDraw
unfolding next_state shifted ◌⊕◌
first_draw = refl

pub small-made : SmallMade
unfolding sizes_fit
small-made = is_made 2 3 refl

pub first_blocks_lem : FirstBlocks
unfolding next_state shifted ◌⊕◌ after errors rounds load made_table
first_blocks_lem = refl

pub first-answers : FirstAnswers
unfolding next_state shifted after errors rounds load answers_by decode_answer decode_memory decoder_fault answered leaves
    step_fault first_of fit sizes_fit rows_fit columns upper made_row made_rows made_table some_above decoder_joining
    decoder_register decoder_found part_next decoder_next delivered delivery joining least_from least_coefficients combination
    bit odd xor ◌⊕◌
first-answers = refl
