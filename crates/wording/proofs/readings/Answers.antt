-- `wording::readings` meets its contract. Assumes nothing.
use Rattle.wording.proofs.Steps.{wrote_first, wrote_second}
use Rattle.wording.proofs.readings.Goals as goal

pub returns-then-n-eq1 : goal.returns-then-n-eq1
returns-then-n-eq1 c = search wrote_first

pub returns-else-n-eq1 : goal.returns-else-n-eq1
returns-else-n-eq1 c = search wrote_second
