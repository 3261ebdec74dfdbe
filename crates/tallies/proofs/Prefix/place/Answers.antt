-- `tallies::Prefix::place` meets its contract. Assumes nothing.
use Rattle.tallies.proofs.Steps.{covered_round}
use Rattle.tallies.proofs.Prefix.place.Goals as goal

pub returns-then-c-ne0 : goal.returns-then-c-ne0
returns-then-c-ne0 c = search covered_round
