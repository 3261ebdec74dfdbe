-- `marks::end_of_run` meets its contract. The loop's invariant is `Run`. Assumes nothing.
use Rattle.marks.specs.Marks.{Run}
use Rattle.marks.proofs.end_of_run.Given as goal

abbrev pub invariant-loop-e : goal.invariant-loop-e
invariant-loop-e l = Run l.x l.v l.p l.e
