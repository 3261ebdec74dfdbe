-- `enhanced::rows` meets its contract. The loop's invariant: below j the rows of `best`, `count` and `chain` are Best, Count and the chain, from j on those of
-- `best` are still borders and those of `chain` covers; last and held have the tallies of the first j prefixes, and sum is the total of the first j rows. Assumes nothing.
use Rattle.std.proofs.Common.{rules}
use Rattle.words.specs.Tables.{border_row, best_row, count_row}
use Rattle.words.proofs.Tables.{rows_none, rows_length, rows_inside, rows_filled, rows_more, rows_done, rows_under}
use Rattle.words.proofs.Weighs.{heaviest_row}
use Rattle.tallies.proofs.Steps.{first_tallies, still_cover, chain_more}
use Rattle.enhanced.proofs.Steps.{best_fits, count_fits, total_small, total_none, total_more, total_done}
use Rattle.enhanced.proofs.rows.Goals as goal

pub loop-j-init : goal.loop-j-init
loop-j-init c = (search rows_none, search rows_none, search rows_none, search first_tallies, search total_none, search rules, search rules)

pub bounds-best-j : goal.bounds-best-j
bounds-best-j c = search rows_inside

pub row-p-requires : goal.row-p-requires
row-p-requires c = (
  search rules,
  search rows_filled,
  search still_cover,
  search (rows_under best_row border_row),
  search rules,
  search total_small,
)

pub overflow_cast-best : goal.overflow_cast-best
overflow_cast-best c = search (best_fits, count_fits)

pub bounds-best-j-in-loop-j : goal.bounds-best-j-in-loop-j
bounds-best-j-in-loop-j c = search rows_inside

pub overflow_cast-count : goal.overflow_cast-count
overflow_cast-count c = search (best_fits, count_fits)

pub bounds-count-j : goal.bounds-count-j
bounds-count-j c = search rows_inside

pub loop-j-preserved : goal.loop-j-preserved
loop-j-preserved c = (
  search chain_more,
  search (rules, rows_more),
  search (rules, rows_more),
  search rules,
  search total_more,
  search rules,
  search rules,
)

pub shape_of-chain : goal.shape_of-chain
shape_of-chain c = search rows_length

pub shape_of-best : goal.shape_of-best
shape_of-best c = search rows_length

pub shape_of-count : goal.shape_of-count
shape_of-count c = search rows_length

pub returns-clause-best : goal.returns-clause-best
returns-clause-best c = search (rows_done {f = best_row})

pub returns-clause-count : goal.returns-clause-count
returns-clause-count c = search (rows_done {f = count_row})

pub returns-clause-chain : goal.returns-clause-chain
returns-clause-chain c = search (rows_done {f = heaviest_row})

pub returns-clause-total : goal.returns-clause-total
returns-clause-total c = search total_done
