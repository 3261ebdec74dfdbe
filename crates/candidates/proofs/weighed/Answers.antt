-- `candidates::weighed` meets its contract. Assumes nothing.
use Rattle.std.proofs.Common.{rules}
use Rattle.candidates.proofs.Steps.{in_last, in_held, weighed_fits, weighed_small, weighed_none, weighed_early, weighed_taken}
use Rattle.candidates.proofs.weighed.Goals as goal

pub offset_bounds-row-q : goal.offset_bounds-row-q
offset_bounds-row-q c = search (rules, in_held)

pub bounds-row-q : goal.bounds-row-q
bounds-row-q c = search in_held

pub overflow_add-c : goal.overflow_add-c
overflow_add-c c = search weighed_fits

pub returns-then-c-m : goal.returns-then-c-m
returns-then-c-m c = search weighed_none

pub offset_bounds-row-q-2 : goal.offset_bounds-row-q-2
offset_bounds-row-q-2 c = search (rules, in_last)

pub bounds-row-q-2 : goal.bounds-row-q-2
bounds-row-q-2 c = search in_last

pub grown-k-requires : goal.grown-k-requires
grown-k-requires c = (search weighed_early, search weighed_small)

pub returns : goal.returns
returns c = search weighed_taken
