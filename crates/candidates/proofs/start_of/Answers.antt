-- `candidates::start_of` meets its contract. Assumes nothing.
use Rattle.std.proofs.Common.{rules}
use Rattle.candidates.proofs.Steps.{start_here, start_in, start_falls}
use Rattle.candidates.proofs.start_of.Goals as goal

pub offset_bounds-row-m : goal.offset_bounds-row-m
offset_bounds-row-m c = search (rules, start_in)

pub bounds-row-m : goal.bounds-row-m
bounds-row-m c = search start_in

pub returns-then-q-m : goal.returns-then-q-m
returns-then-q-m c = search start_falls

pub returns-else-q-m : goal.returns-else-q-m
returns-else-q-m c = search start_here
