-- `border::fill` meets its contract. The loop's invariant is `Rows`, with the last border in b. Assumes nothing.
use Rattle.std.proofs.Common.{rules}
use Rattle.words.proofs.Tables.{rows_filled, rows_more}
use Rattle.words.proofs.Borders.{border_fits}
use Rattle.border.proofs.Steps.{first_row, fill_start, row_before}
use Rattle.border.proofs.fill.Goals as goal

pub loop-r-init : goal.loop-r-init
loop-r-init c = (search fill_start, search first_row)

pub extend-b-requires : goal.extend-b-requires
extend-b-requires c = (search rows_filled, search rules, search rules)

pub overflow_cast-t : goal.overflow_cast-t
overflow_cast-t c = search (rules, border_fits)

pub loop-r-preserved : goal.loop-r-preserved
loop-r-preserved c = (search (rules, rows_more), search row_before)
