-- `wording::standing` meets its contract. Assumes nothing.
use Rattle.pen.proofs.Meaning.{wrote_wrote}
use Rattle.wording.proofs.Steps.{wrote_first, wrote_second}
use Rattle.wording.proofs.standing.Goals as goal

pub returns-then-last-eq0 : goal.returns-then-last-eq0
returns-then-last-eq0 c = wrote_first _ _ _ _ c.if-last-eq0.true (rw c.from.ensures at c.put.ensures.wrote)

pub returns-else-last-eq0 : goal.returns-else-last-eq0
returns-else-last-eq0 c = search (wrote_second, wrote_wrote)
