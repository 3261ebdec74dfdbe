-- `standings::next` meets its contract. Assumes nothing.
use Rattle.standings.proofs.Steps.{goes_inside, goes, count_fits, ends}
use Rattle.standings.proofs.next.Goals as goal

pub bounds-x-s : goal.bounds-x-s
bounds-x-s c = search goes_inside

pub on-requires : goal.on-requires
on-requires c = search goes

pub overflow_add-s : goal.overflow_add-s
overflow_add-s c = search count_fits

pub ending-requires : goal.ending-requires
ending-requires c = search ends
