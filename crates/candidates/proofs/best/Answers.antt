-- `candidates::best` meets its contract. The loop's invariant is `Walk`, its measure q. Assumes nothing.
use Rattle.std.proofs.Common.{rules}
use Rattle.candidates.proofs.Steps.{far_in, walk_first, walk_some, walk_ready, walk_bare, in_next, walk_falls, walk_next, walk_done}
use Rattle.candidates.proofs.best.Goals as goal

pub offset_bounds-row-far : goal.offset_bounds-row-far
offset_bounds-row-far c = search (rules, far_in)

pub bounds-row-far : goal.bounds-row-far
bounds-row-far c = search far_in

pub loop-q-init : goal.loop-q-init
loop-q-init c = search walk_first

pub start_of-m-requires : goal.start_of-m-requires
start_of-m-requires c = (search walk_ready, search walk_some)

pub weighed-s-requires : goal.weighed-s-requires
weighed-s-requires c = (search walk_bare, search rules)

pub overflow_sub-q : goal.overflow_sub-q
overflow_sub-q c = search (rules, walk_some)

pub offset_bounds-row-q : goal.offset_bounds-row-q
offset_bounds-row-q c = search (rules, in_next)

pub bounds-row-q : goal.bounds-row-q
bounds-row-q c = search in_next

pub loop-q-smaller : goal.loop-q-smaller
loop-q-smaller c = search walk_falls

pub loop-q-preserved : goal.loop-q-preserved
loop-q-preserved c = search walk_next

pub returns : goal.returns
returns c = search walk_done
