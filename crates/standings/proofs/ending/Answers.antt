-- `standings::ending` meets its contract. Assumes nothing.
use Rattle.std.proofs.Common.{rules}
use Rattle.standings.proofs.Steps.{ends_some, ends_within, ends_sown}
use Rattle.standings.proofs.ending.Goals as goal

pub overflow_sub-b : goal.overflow_sub-b
overflow_sub-b c = search (rules, ends_some)

pub offset_bounds-row-b : goal.offset_bounds-row-b
offset_bounds-row-b c = search (rules, ends_within)

pub bounds-row-b : goal.bounds-row-b
bounds-row-b c = search ends_within

pub returns : goal.returns
returns c = search ends_sown
