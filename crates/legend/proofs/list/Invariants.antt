-- `legend::list` meets its contract. The loop's invariant is `Keeps`. Assumes nothing.
use Rattle.pen.specs.Pens.{Keeps}
use Rattle.legend.proofs.list.Given as goal

abbrev pub invariant-loop-n : goal.invariant-loop-n
invariant-loop-n g l = Keeps l.initial.pen l.pen
