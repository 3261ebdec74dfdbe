-- `reporting::table::rows` meets its contract. Assumes nothing.
use Rattle.std.proofs.Common.{rules}
use Rattle.reporting.proofs.Rowing.{rowed_here_none, rowed_here_more}
use Rattle.reporting.proofs.table.rows.Goals as goal

pub loop-r-init : goal.loop-r-init
loop-r-init c = search rowed_here_none

pub loop-r-preserved : goal.loop-r-preserved
loop-r-preserved c = search (rules, rowed_here_more)
