-- `left_text::put` meets its contract. Assumes nothing.
use Rattle.bases.proofs.Work.{work_holds}
use Rattle.repeats.specs.Repeats.{left_cover_row, left_count_row, left_seed_row, seed_count_row}
use Rattle.reporting.proofs.Rowing.{rows_said}
use Rattle.left_text.specs.Lefts.{four, left_text}
use Rattle.left_text.proofs.put.Goals as goal

pub returns-clause-said : goal.returns-clause-said
unfolding left_text
returns-clause-said c = rows_said four _ _ _ c.rows-3.ensures.said (
  search (work_holds left_cover_row),
  (search (work_holds left_count_row), (search (work_holds left_seed_row), (search (work_holds seed_count_row), tt))),
)
