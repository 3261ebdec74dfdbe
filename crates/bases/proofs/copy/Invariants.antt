-- `bases::copy` meets its contract. The loop's invariant is `Rows`. Assumes nothing.
use Rattle.words.proofs.Tables.{Rows}
use Rattle.bases.specs.Copies.{copy_row}
use Rattle.bases.proofs.copy.Given as goal

abbrev pub invariant-loop-r : goal.invariant-loop-r
invariant-loop-r l = Rows (copy_row l.from) l.x l.initial.to l.to l.r
