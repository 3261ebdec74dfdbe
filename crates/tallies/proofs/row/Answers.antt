-- `tallies::row` meets its contract. Assumes nothing.
use Rattle.std.proofs.Common.{rules}
use Rattle.words.proofs.Borders.{border_fits}
use Rattle.tallies.proofs.Tallies.{tallies_flags}
use Rattle.tallies.proofs.Steps.{alone_laid, chain_fits, chain_laid, chain_set, own_round}
use Rattle.tallies.proofs.row.Goals as goal

pub returns-then-b-eq0-clause-chain : goal.returns-then-b-eq0-clause-chain
returns-then-b-eq0-clause-chain c = search alone_laid

pub heaviest-w-requires : goal.heaviest-w-requires
heaviest-w-requires c = (search tallies_flags, search rules, search rules, search rules)

pub overflow_cast-chain : goal.overflow_cast-chain
overflow_cast-chain c = search (chain_fits, border_fits)

pub weigh-requires : goal.weigh-requires
weigh-requires c = (search own_round, search chain_laid, search rules, search rules)

pub returns-clause-chain : goal.returns-clause-chain
returns-clause-chain c = search chain_set
