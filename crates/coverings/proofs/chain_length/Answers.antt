-- `coverings::chain_length` meets its contract. The loop's invariant is `Counted`, its measure q. Assumes nothing.
use Rattle.coverings.proofs.Lists.{counted_first, counted_falls, counted_next, counted_done}
use Rattle.coverings.proofs.chain_length.Goals as goal

pub loop-q-init : goal.loop-q-init
loop-q-init c = search counted_first

pub loop-q-smaller : goal.loop-q-smaller
loop-q-smaller c = search counted_falls

pub loop-q-preserved : goal.loop-q-preserved
loop-q-preserved c = search counted_next

pub returns : goal.returns
returns c = search counted_done
