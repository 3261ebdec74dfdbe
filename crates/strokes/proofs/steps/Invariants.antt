-- `strokes::steps` meets its contract. The loop's invariant is `Keeps`. Assumes nothing.
use Rattle.pen.specs.Pens.{Keeps}
use Rattle.strokes.proofs.steps.Given as goal

abbrev pub invariant-loop-k : goal.invariant-loop-k
invariant-loop-k l = Keeps l.initial.pen l.pen
