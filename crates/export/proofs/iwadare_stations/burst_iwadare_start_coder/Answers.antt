-- `export::iwadare_stations::burst_iwadare_start_coder`: the answer's number. Assumes nothing.
use mathlib.Core.Path.{refl, ap, ◌∙◌}
use Rattle.link.specs.Refusals.{refusal_number}
use Rattle.link.specs.Start.{start_numbers}
use Rattle.export.specs.Answers.{number_of}
use Rattle.export.proofs.Answers.{refused_is}
use Rattle.export.proofs.iwadare_stations.burst_iwadare_start_coder.Goals as goal

pub returns : goal.returns
returns c =
    let start = c.start_coder.ensures in
    record {
      number = refused_is refusal_number start_numbers (λ u. refl) (λ e. refl) _ _ c.refused.ensures.ok c.refused.ensures.err
          ∙ ap number_of start.numbers;
      memory = start.memory;
    }
