-- `weighing::list` meets its contract. The loop's invariant is `Listing`, its measure w. Assumes nothing.
use Rattle.weighing.proofs.Steps.{listing_start, listing_room, listing_falls, listing_next, listing_done}
use Rattle.weighing.proofs.list.Goals as goal

pub loop-w-init : goal.loop-w-init
loop-w-init c = search listing_start

pub bounds-lens-k : goal.bounds-lens-k
bounds-lens-k c = search listing_room

pub loop-w-smaller : goal.loop-w-smaller
loop-w-smaller c = search listing_falls

pub loop-w-preserved : goal.loop-w-preserved
loop-w-preserved c = search listing_next

pub returns : goal.returns
returns c = search listing_done
