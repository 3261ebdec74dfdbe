-- `standings::rest` meets its contract. Assumes nothing.
use Rattle.std.proofs.Common.{rules}
use Rattle.standings.proofs.Steps.{border_in, is_border_lem, rests_in, rests_fits, left_fits, rests_sown}
use Rattle.standings.proofs.rest.Goals as goal

pub offset_bounds-row-row : goal.offset_bounds-row-row
offset_bounds-row-row c = search (rules, border_in)

pub bounds-row-row : goal.bounds-row-row
bounds-row-row c = search border_in

pub offset_bounds-row-left : goal.offset_bounds-row-left
offset_bounds-row-left c = search (rules, rests_in)

pub bounds-row-left : goal.bounds-row-left
bounds-row-left c = search rests_in

pub overflow_add-from : goal.overflow_add-from
overflow_add-from c = search rests_fits

pub overflow_add-result : goal.overflow_add-result
overflow_add-result c = search left_fits

pub returns-then-from-b : goal.returns-then-from-b
returns-then-from-b c = search rests_sown

pub best-requires : goal.best-requires
best-requires c = (search rules, search is_border_lem)
