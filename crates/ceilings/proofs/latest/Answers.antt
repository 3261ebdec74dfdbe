-- `ceilings::latest` meets its contract. Assumes nothing.
use Rattle.ceilings.proofs.Steps.{latest_rest}
use Rattle.ceilings.proofs.latest.Goals as goal

pub returns : goal.returns
returns c = latest_rest _ _ c.saturating_sub.ensures
