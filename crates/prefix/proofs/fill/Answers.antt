-- `prefix::fill` meets its contract. The loop's invariant is `Rows` and `Stretch`. Assumes nothing.
use Rattle.std.proofs.Common.{rules}
use Rattle.words.proofs.Tables.{rows_filled, rows_more}
use Rattle.prefix.proofs.Steps.{fill_start, first_stretch, row_fits}
use Rattle.prefix.proofs.fill.Goals as goal

pub loop-r-init : goal.loop-r-init
loop-r-init c = (search fill_start, search first_stretch)

pub step-s-requires : goal.step-s-requires
step-s-requires c = (search rows_filled, search rules, search rules)

pub overflow_cast-t : goal.overflow_cast-t
overflow_cast-t c = search (rules, row_fits)

pub loop-r-preserved : goal.loop-r-preserved
loop-r-preserved c = (search (rules, rows_more), search rules)
