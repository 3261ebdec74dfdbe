-- `cover::grow` meets its contract. The loop's invariant: the first j rows of t are covers, the others still borders, up and kids are the tree of the first j lengths, and its window
-- starts no later than that of the row to come. Assumes nothing.
use Rattle.std.proofs.Common.{rules}
use Rattle.words.proofs.Tables.{rows_none, rows_filled, rows_more}
use Rattle.cover.proofs.Steps.{grow_first, grow_border, grow_below, grow_later, grow_window, window_first, grow_inside, grow_count, grow_more}
use Rattle.cover.proofs.grow.Goals as goal

pub loop-j-init : goal.loop-j-init
loop-j-init c = search (rules, rows_none, grow_first, window_first)

pub overflow_sub-i : goal.overflow_sub-i
overflow_sub-i c = search (rules, grow_below)

pub advance-requires : goal.advance-requires
advance-requires c = (search rows_filled, search rules, search (rules, grow_later), search rules, search rules)

pub find-q-requires : goal.find-q-requires
find-q-requires c = search (rules, grow_border)

pub bounds-kids-q : goal.bounds-kids-q
bounds-kids-q c = search grow_inside

pub overflow_add-kids : goal.overflow_add-kids
overflow_add-kids c = search grow_count

pub bounds-kids-q-in-loop-j : goal.bounds-kids-q-in-loop-j
bounds-kids-q-in-loop-j c = search grow_inside

pub loop-j-preserved : goal.loop-j-preserved
loop-j-preserved c = (search rows_more, search grow_more, search grow_window)
