-- `summary::read_bases` meets its contract. Assumes nothing.
use Rattle.summary.proofs.Reading.{outline_is}
use Rattle.summary.proofs.read_bases.Goals as goal

pub returns-clause-whole : goal.returns-clause-whole
returns-clause-whole c = search outline_is
