-- `left_covers::run` meets its contract. The loop's invariant: both tables have their first r rows written, and `left` is the left cover of the first r
-- readings. Assumes nothing.
use Rattle.words.proofs.Tables.{Rows}
use Rattle.repeats.specs.Repeats.{left_cover_row, left_count_row}
use Rattle.left_covers.proofs.Steps.{Left}
use Rattle.left_covers.proofs.run.Given as goal

abbrev pub invariant-loop-r : goal.invariant-loop-r
invariant-loop-r l = Rows left_cover_row l.x l.initial.best l.best l.r × Rows left_count_row l.x l.initial.count l.count l.r × Left l.x l.r l.left
