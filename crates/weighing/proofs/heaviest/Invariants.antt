-- `weighing::heaviest` meets its contract. The loop's invariant is `Down`, its measure q. Assumes nothing.
use Rattle.weighing.proofs.Steps.{Down}
use Rattle.weighing.proofs.heaviest.Given as goal

abbrev pub invariant-loop-q : goal.invariant-loop-q
invariant-loop-q l = Down l.bases.x.now l.i l.q

abbrev pub decreases-loop-q : goal.decreases-loop-q
decreases-loop-q l = l.q
