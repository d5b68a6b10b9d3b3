-- `export::iwadare_stations::burst_iwadare_code`: the answer's numbers. Assumes nothing.
use mathlib.Core.Path.{ap, ◌∙◌}
use Rattle.export.specs.Answers.{coded_of}
use Rattle.export.proofs.iwadare_stations.burst_iwadare_code.Goals as goal

pub returns : goal.returns
returns c =
    let step = c.code.ensures in
    record { answer = c.into.ensures ∙ ap coded_of step.numbers; memory = step.memory }
