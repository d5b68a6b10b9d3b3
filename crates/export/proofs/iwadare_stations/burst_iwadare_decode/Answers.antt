-- `export::iwadare_stations::burst_iwadare_decode`: the answer's numbers. Assumes nothing.
use mathlib.Core.Path.{ap, ◌∙◌}
use Rattle.export.specs.Answers.{iwadare_decoded_of}
use Rattle.export.proofs.iwadare_stations.burst_iwadare_decode.Goals as goal

pub returns : goal.returns
returns c =
    let step = c.decode.ensures in
    record { answer = c.into.ensures ∙ ap iwadare_decoded_of step.numbers; memory = step.memory }
