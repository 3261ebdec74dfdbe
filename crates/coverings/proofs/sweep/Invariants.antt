-- `coverings::sweep` meets its contract. The loop's invariant is `Swept`. Assumes nothing.
use Rattle.coverings.proofs.Sweeps.{Swept}
use Rattle.coverings.proofs.sweep.Given as goal

abbrev pub invariant-loop-s : goal.invariant-loop-s
invariant-loop-s l = Swept l.x l.q l.s l.end
