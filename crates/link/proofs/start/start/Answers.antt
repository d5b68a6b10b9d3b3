-- `link::start::start`: 13 or nothing. Assumes nothing.
use mathlib.Core.Path.{◌≡◌, ap, ◌∙◌}
use lib.ListN.{length}
use Rattle.link.specs.Memory.{started}
use Rattle.link.proofs.Starting.{refused-words, started-words}
use Rattle.link.proofs.start.start.Goals as goal

pub returns-then-state-words : goal.returns-then-state-words
returns-then-state-words c =
    let a = c.args in
    refused-words a.words a.state.now c.if-state-words.true

pub returns : goal.returns
returns c =
    let a = c.args in
    let same : length a.state.now ≡ a.words = c.if-state-words.false in
    started-words a.words a.state.now c.clear.new.state same
    (c.clear.ensures ∙ ap started same)
