-- `strokes::occurrences` meets its contract. The loop's invariant is `Keeps`. Assumes nothing.
use Rattle.pen.specs.Pens.{Keeps}
use Rattle.strokes.proofs.occurrences.Given as goal

abbrev pub invariant-loop-a : goal.invariant-loop-a
invariant-loop-a l = Keeps l.initial.pen l.pen
