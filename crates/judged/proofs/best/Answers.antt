-- `judged::best` meets its contract. Assumes nothing.
use Rattle.judged.proofs.Steps.{last_best}
use Rattle.judged.proofs.best.Goals as goal

pub returns : goal.returns
returns c = search last_best
