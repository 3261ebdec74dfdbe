-- `strokes::enclose_runs` meets its contract. The loop's invariant is `Keeps`, its measure the readings left. Assumes nothing.
use Rattle.std.proofs.Common.{length, ◌-◌}
use Rattle.pen.specs.Pens.{Keeps}
use Rattle.strokes.proofs.enclose_runs.Given as goal

abbrev pub invariant-loop-a : goal.invariant-loop-a
invariant-loop-a l = Keeps l.initial.pen l.pen

abbrev pub decreases-loop-a : goal.decreases-loop-a
decreases-loop-a l = length l.x - l.a
