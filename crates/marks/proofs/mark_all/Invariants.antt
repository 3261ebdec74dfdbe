-- `marks::mark_all` meets its contract. The loop's invariant: the marks up to p are written, and `Reaches`. Assumes nothing.
use Rattle.marks.specs.Marks.{mark_of, Reaches}
use Rattle.words.proofs.Tables.{Rows}
use Rattle.marks.proofs.mark_all.Given as goal

abbrev pub invariant-loop-p : goal.invariant-loop-p
invariant-loop-p l = Rows (mark_of l.q) l.x l.initial.marks l.marks l.p × Reaches l.x l.q l.p l.reach
