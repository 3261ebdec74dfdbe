-- `reporting::table::row` meets its contract. The loop's invariant is `ListedHere`. Assumes nothing.
use Rattle.lines.specs.Text.{page}
use Rattle.lines.proofs.Texts.{ListedHere}
use Rattle.reporting.specs.Texts.{entries}
use Rattle.reporting.proofs.table.row.Given as goal

abbrev pub invariant-loop-column : goal.invariant-loop-column
invariant-loop-column l = ListedHere (entries l.columns l.r) (page l.initial.text) (page l.text) l.column-index
