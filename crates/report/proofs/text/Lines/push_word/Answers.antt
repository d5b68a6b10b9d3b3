-- `report::text::Lines::push_word`: the word of parity. The prover finds the others alone, and this one too; it stands here
-- so that the edit of that word is refused by its bytes. Assumes nothing.
use Rattle.report.proofs.text.Lines.push_word.Goals as goal

pub returns-in-Parity : goal.returns-in-Parity
returns-in-Parity c = rw c.in-Parity.is c.push-in-Parity.ensures
