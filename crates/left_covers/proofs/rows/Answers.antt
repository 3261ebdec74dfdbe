-- `left_covers::rows` meets its contract. Assumes nothing.
use Rattle.words.specs.Tables.{best_row, count_row}
use Rattle.words.proofs.Tables.{written_holds, still_room, laid_over}
use Rattle.repeats.specs.Repeats.{left_cover_row, left_count_row}
use Rattle.left_covers.proofs.rows.Goals as goal

pub run-requires : goal.run-requires
run-requires c = (search (still_room best_row), search (still_room count_row), search (written_holds best_row), search (written_holds count_row))

pub returns-clause-best : goal.returns-clause-best
returns-clause-best c = search (laid_over left_cover_row best_row)

pub returns-clause-count : goal.returns-clause-count
returns-clause-count c = search (laid_over left_count_row count_row)
