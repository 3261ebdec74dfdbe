-- `reporting::table::row` meets its contract. Assumes nothing.
use Rattle.std.proofs.Common.{rules, arith, ◌+◌}
use Rattle.lines.proofs.Texts.{decimal_most, listed_here_none}
use Rattle.reporting.proofs.Rowing.{entry_room, entry_here_more, row_said}
use Rattle.reporting.proofs.table.row.Goals as goal

pub number-requires : goal.number-requires
number-requires c = omega (arith, decimal_most (c.args.r + 1))

pub loop-column-init : goal.loop-column-init
loop-column-init c = search listed_here_none

pub field-requires : goal.field-requires
field-requires c = entry_room _ _ c.loop-column.invariant.listed _ c.from.ensures (search rules) c.loop-column-test.true (search rules)

pub loop-column-preserved : goal.loop-column-preserved
loop-column-preserved c = entry_here_more _ _ c.loop-column.invariant _ c.from.ensures (search rules) c.loop-column-test.true c.field.ensures.said c.field.ensures.room c.field.ensures.buffer

pub returns-clause-said : goal.returns-clause-said
returns-clause-said c = row_said _ _ _ c.loop-column.invariant.listed c.loop-column-test.false c.number.ensures.said c.end.ensures.said
