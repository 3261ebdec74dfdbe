-- `coverings::sweep` meets its contract. The loop's invariant is `Swept`. Assumes nothing.
use Rattle.coverings.proofs.Sweeps.{swept_gap, swept_hit, swept_miss, swept_done}
use Rattle.coverings.proofs.sweep.Goals as goal
use Rattle.coverings.proofs.sweep.Goals.{then-q-from, else-q-from}

pub returns-then-end-s : goal.returns-then-end-s
returns-then-end-s c = search swept_gap

pub loop-s-preserved : goal.loop-s-preserved
loop-s-preserved c = elim c.if-q-from.branch [ then-q-from w ↦ rw w.end-is (search swept_hit) | else-q-from w ↦ rw w.end-is (search swept_miss) ]

pub returns : goal.returns
returns c = search swept_done
