-- `tallies::Prefix::alone` meets its contract. Assumes nothing.
use Rattle.std.proofs.Common.{rules}
use Rattle.tallies.proofs.Steps.{alone_cover, alone_tallies, alone_judged}
use Rattle.tallies.proofs.Prefix.alone.Goals as goal

pub enter-requires : goal.enter-requires
enter-requires c = (search rules, search alone_cover)

pub returns : goal.returns
returns c = (search alone_tallies, search alone_judged)
