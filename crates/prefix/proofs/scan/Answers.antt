-- `prefix::scan` meets its contract. The loop's invariant: the readings from r up to k are the first ones again. Assumes nothing.
use Rattle.prefix.proofs.Steps.{stretch_stop, stretch_end}
use Rattle.prefix.proofs.scan.Goals as goal

pub returns-then-x-k : goal.returns-then-x-k
returns-then-x-k c = search stretch_stop

pub returns : goal.returns
returns c = search stretch_end
