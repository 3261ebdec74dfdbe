-- `reporting::table::rows` meets its contract. The loop's invariant is `RowedHere`. Assumes nothing.
use Rattle.lines.specs.Text.{page}
use Rattle.reporting.proofs.Rowing.{RowedHere}
use Rattle.reporting.proofs.table.rows.Given as goal

abbrev pub invariant-loop-r : goal.invariant-loop-r
invariant-loop-r l = RowedHere l.columns (page l.initial.text) (page l.text) l.r
