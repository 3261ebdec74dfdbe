-- `standings::on` meets its contract. Assumes nothing.
use Rattle.standings.proofs.Steps.{more_fits, start_small, on_some, on_within, on_sown}
use Rattle.standings.proofs.on.Goals as goal

pub overflow_add-more : goal.overflow_add-more
overflow_add-more c = search more_fits

pub start_after-requires : goal.start_after-requires
start_after-requires c = (search on_some, search on_within, search start_small)

pub returns : goal.returns
returns c = search on_sown
