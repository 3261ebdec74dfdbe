-- `wording::last_of` meets its contract. Assumes nothing.
use Rattle.wording.proofs.Steps.{wrote_first, wrote_second}
use Rattle.wording.proofs.last_of.Goals as goal

pub returns-then-last-n : goal.returns-then-last-n
returns-then-last-n c = search wrote_first

pub returns-else-last-n : goal.returns-else-last-n
returns-else-last-n c = search wrote_second
