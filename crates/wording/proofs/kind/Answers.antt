-- `wording::kind` meets its contract. Assumes nothing.
use Rattle.wording.proofs.Steps.{wrote_first, wrote_second}
use Rattle.wording.proofs.kind.Goals as goal

pub returns-then-held-eq1 : goal.returns-then-held-eq1
returns-then-held-eq1 c = search wrote_first

pub returns-else-held-eq1 : goal.returns-else-held-eq1
returns-else-held-eq1 c = search wrote_second
