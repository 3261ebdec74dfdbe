-- `reporting::table::put` meets its contract. Assumes nothing.
use Rattle.words.specs.Tables.{border_row, prefix_row, cover_row, best_row, count_row}
use Rattle.bases.proofs.Work.{work_holds}
use Rattle.reporting.proofs.Rowing.{total_said}
use Rattle.reporting.proofs.table.put.Goals as goal

pub returns-clause-said : goal.returns-clause-said
returns-clause-said c = total_said _ _ _ c.rows.ensures.said (
  search (work_holds border_row),
  (search (work_holds prefix_row), (search (work_holds cover_row), (search (work_holds best_row), (search (work_holds count_row), tt)))),
) c.rows-total.ensures.total c.counted.ensures.said
