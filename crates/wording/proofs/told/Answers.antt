-- `wording::told` meets its contract. Assumes nothing.
use Rattle.pen.proofs.Meaning.{wrote_wrote}
use Rattle.wording.proofs.Steps.{wrote_first, wrote_second}
use Rattle.wording.proofs.told.Goals as goal

pub returns-then-c-eq0 : goal.returns-then-c-eq0
returns-then-c-eq0 c = search wrote_first

pub returns-else-c-eq0 : goal.returns-else-c-eq0
returns-else-c-eq0 c = search (wrote_second, wrote_wrote)
