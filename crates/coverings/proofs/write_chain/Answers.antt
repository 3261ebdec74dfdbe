-- `coverings::write_chain` meets its contract. The loop's invariant is `Placed`. Assumes nothing.
use Rattle.coverings.proofs.Lists.{placed_first, placed_next, placed_done}
use Rattle.coverings.proofs.write_chain.Goals as goal

pub loop-left-init : goal.loop-left-init
loop-left-init c = search placed_first

pub loop-left-preserved : goal.loop-left-preserved
loop-left-preserved c = search placed_next

pub returns : goal.returns
returns c = search placed_done
