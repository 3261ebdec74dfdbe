-- `left_covers::run` meets its contract. The loop's invariant: both tables have their first r rows written, and `left` is the left cover of the first r
-- readings. Assumes nothing.
use Rattle.words.proofs.Tables.{rows_none, rows_length, rows_inside, rows_done}
use Rattle.repeats.specs.Repeats.{left_cover_row, left_count_row}
use Rattle.left_covers.proofs.Steps.{left_start, len_small, count_small, next_left, cover_more, count_more}
use Rattle.left_covers.proofs.run.Goals as goal

pub loop-r-init : goal.loop-r-init
loop-r-init c = (search rows_none, search rows_none, search left_start)

pub settle-left-requires : goal.settle-left-requires
settle-left-requires c = (search rows_inside, search rows_inside, search len_small, search count_small)

pub loop-r-preserved : goal.loop-r-preserved
loop-r-preserved c = (search (cover_more, next_left), search (count_more, next_left), search next_left)

pub shape_of-best : goal.shape_of-best
shape_of-best c = search rows_length

pub shape_of-count : goal.shape_of-count
shape_of-count c = search rows_length

pub returns-clause-best : goal.returns-clause-best
returns-clause-best c = search (rows_done {f = left_cover_row})

pub returns-clause-count : goal.returns-clause-count
returns-clause-count c = search (rows_done {f = left_count_row})
