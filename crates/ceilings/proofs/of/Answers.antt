-- `ceilings::of` meets its contract. Assumes nothing.
use Rattle.ceilings.proofs.Steps.{ceiling_fits, of_is}
use Rattle.ceilings.proofs.of.Goals as goal

pub overflow_cast-result : goal.overflow_cast-result
overflow_cast-result c = search ceiling_fits

pub returns : goal.returns
returns c = search of_is
