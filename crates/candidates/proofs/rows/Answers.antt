-- `candidates::rows` meets its contract. The loop's invariant: both tables have their first r rows written. Assumes nothing.
use Rattle.std.proofs.Common.{rules}
use Rattle.words.proofs.Tables.{rows_none, rows_length, rows_inside, rows_filled, rows_more, rows_done}
use Rattle.candidates.specs.Candidates.{bare_row, fall_row}
use Rattle.candidates.proofs.Steps.{bare_fits, fall_fits}
use Rattle.candidates.proofs.rows.Goals as goal

pub loop-r-init : goal.loop-r-init
loop-r-init c = (search rows_none, search rows_none)

pub bare_at-q-requires : goal.bare_at-q-requires
bare_at-q-requires c = search rows_filled

pub fall_at-m-requires : goal.fall_at-m-requires
fall_at-m-requires c = (search rows_filled, search rules)

pub overflow_cast-bare : goal.overflow_cast-bare
overflow_cast-bare c = search bare_fits

pub bounds-bare-r : goal.bounds-bare-r
bounds-bare-r c = search rows_inside

pub overflow_cast-fall : goal.overflow_cast-fall
overflow_cast-fall c = search fall_fits

pub bounds-fall-r : goal.bounds-fall-r
bounds-fall-r c = search rows_inside

pub loop-r-preserved : goal.loop-r-preserved
loop-r-preserved c = (search (rules, rows_more), search (rules, rows_more))

pub shape_of-bare : goal.shape_of-bare
shape_of-bare c = search rows_length

pub shape_of-fall : goal.shape_of-fall
shape_of-fall c = search rows_length

pub returns-clause-bare : goal.returns-clause-bare
returns-clause-bare c = search (rows_done {f = bare_row})

pub returns-clause-fall : goal.returns-clause-fall
returns-clause-fall c = search (rows_done {f = fall_row})
