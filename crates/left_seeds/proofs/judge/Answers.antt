-- `left_seeds::judge` meets its contract. The loop's invariant: below j the rows of both tables are written and those of `chain` are the
-- chain's, from j on those of `chain` are still covers; last and held have the tallies of the first j prefixes, and s is how the first j readings stand. Assumes nothing.
use Rattle.std.proofs.Common.{rules}
use Rattle.words.proofs.Tables.{rows_none, rows_length, rows_inside, rows_filled, rows_more, rows_done}
use Rattle.tallies.proofs.Steps.{first_tallies, still_cover, chain_more}
use Rattle.repeats.specs.Repeats.{left_seed_row, seed_count_row}
use Rattle.standings.proofs.Steps.{stands_none}
use Rattle.left_seeds.proofs.Steps.{seed_row, count_row_lem, seed_fits, reach_fits}
use Rattle.left_seeds.proofs.judge.Goals as goal

pub loop-j-init : goal.loop-j-init
loop-j-init c = (search rows_none, search rows_none, search rows_none, search first_tallies, search stands_none, search rules, search rules, search rules)

pub row-s-requires : goal.row-s-requires
row-s-requires c = (search rows_filled, search still_cover, search rules, search rules)

pub overflow_cast-best : goal.overflow_cast-best
overflow_cast-best c = search seed_fits

pub bounds-best-j : goal.bounds-best-j
bounds-best-j c = search rows_inside

pub overflow_cast-count : goal.overflow_cast-count
overflow_cast-count c = search reach_fits

pub bounds-count-j : goal.bounds-count-j
bounds-count-j c = search rows_inside

pub loop-j-preserved : goal.loop-j-preserved
loop-j-preserved c = (search chain_more, search (rows_more, seed_row), search (rows_more, count_row_lem), search rules, search rules, search rules, search rules, search rules)

pub shape_of-chain : goal.shape_of-chain
shape_of-chain c = search rows_length

pub shape_of-best : goal.shape_of-best
shape_of-best c = search rows_length

pub shape_of-count : goal.shape_of-count
shape_of-count c = search rows_length

pub returns-clause-best : goal.returns-clause-best
returns-clause-best c = search (rows_done {f = left_seed_row})

pub returns-clause-count : goal.returns-clause-count
returns-clause-count c = search (rows_done {f = seed_count_row})
