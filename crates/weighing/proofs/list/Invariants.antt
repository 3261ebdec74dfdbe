-- `weighing::list` meets its contract. The loop's invariant is `Listing`, its measure w. Assumes nothing.
use Rattle.weighing.proofs.Steps.{Listing}
use Rattle.weighing.proofs.list.Given as goal

abbrev pub invariant-loop-w : goal.invariant-loop-w
invariant-loop-w l = Listing l.bases.x.now l.lens l.k l.w

abbrev pub decreases-loop-w : goal.decreases-loop-w
decreases-loop-w l = l.w
