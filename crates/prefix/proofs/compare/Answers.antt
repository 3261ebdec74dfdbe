-- `prefix::compare` meets its contract. Assumes nothing.
use Rattle.prefix.proofs.Steps.{stretch_done}
use Rattle.prefix.proofs.compare.Goals as goal

pub returns : goal.returns
returns c = search stretch_done
