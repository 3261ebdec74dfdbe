-- `summary::read_rest` meets its contract. Assumes nothing.
use Rattle.summary.proofs.Reading.{summary_is}
use Rattle.summary.proofs.read_rest.Goals as goal

pub returns : goal.returns
returns c = search summary_is
