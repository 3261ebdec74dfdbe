-- `cover::retire` meets its contract. The loop's invariant is `Falling`, its measure q. Assumes nothing.
use Rattle.std.proofs.Common.{rules}
use Rattle.cover.proofs.Tree.{fall_start, fall_done}
use Rattle.cover.proofs.Steps.{retire_some, retire_falls, retire_inside, retire_counted, retire_next}
use Rattle.cover.proofs.retire.Goals as goal

pub loop-kids-init : goal.loop-kids-init
loop-kids-init c = search fall_start

pub overflow_sub-c : goal.overflow_sub-c
overflow_sub-c c = search retire_some

pub bounds-kids-q-in-loop-kids : goal.bounds-kids-q-in-loop-kids
bounds-kids-q-in-loop-kids c = search retire_inside

pub overflow_sub-kids : goal.overflow_sub-kids
overflow_sub-kids c = search (rules, retire_counted)

pub bounds-kids-q-in-loop-kids-2 : goal.bounds-kids-q-in-loop-kids-2
bounds-kids-q-in-loop-kids-2 c = search retire_inside

pub loop-kids-smaller : goal.loop-kids-smaller
loop-kids-smaller c = search retire_falls

pub loop-kids-preserved : goal.loop-kids-preserved
loop-kids-preserved c = search (rules, retire_next)

pub returns : goal.returns
returns c = search fall_done
