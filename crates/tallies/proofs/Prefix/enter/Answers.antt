-- `tallies::Prefix::enter` meets its contract. Assumes nothing.
use Rattle.std.proofs.Common.{rules}
use Rattle.tallies.proofs.Steps.{enter_round}
use Rattle.tallies.proofs.Prefix.enter.Goals as goal

pub returns : goal.returns
returns c = search (rules, enter_round)
