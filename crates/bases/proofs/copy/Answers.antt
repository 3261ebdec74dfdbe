-- `bases::copy` meets its contract. The loop's invariant is `Rows`. Assumes nothing.
use Rattle.std.proofs.Common.{rules}
use Rattle.words.proofs.Tables.{rows_none, rows_more}
use Rattle.bases.proofs.Steps.{copy_row_lem}
use Rattle.bases.proofs.copy.Goals as goal

pub loop-r-init : goal.loop-r-init
loop-r-init c = search (rules, rows_none)

pub loop-r-preserved : goal.loop-r-preserved
loop-r-preserved c = search (rules, rows_more, copy_row_lem)
