-- `ceilings::count` meets its contract. The loop's invariant: the readings so far are counted. Assumes nothing.
use Rattle.std.proofs.Common.{◌∙◌}
use Rattle.ceilings.proofs.Steps.{ceiling_counted}
use Rattle.ceilings.proofs.count.Goals as goal

pub returns : goal.returns
returns c = c.loop-symbol.invariant ∙ ceiling_counted _ _ c.loop-symbol-test.false
