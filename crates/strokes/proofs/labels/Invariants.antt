-- `strokes::labels` meets its contract. The loop's invariant is `Keeps`. Assumes nothing.
use Rattle.pen.specs.Pens.{Keeps}
use Rattle.strokes.proofs.labels.Given as goal

abbrev pub invariant-loop-i : goal.invariant-loop-i
invariant-loop-i l = Keeps l.initial.pen l.pen
