-- `tallies::Prefix::tally` meets its contract. Assumes nothing.
use Rattle.std.proofs.Common.{rules}
use Rattle.tallies.proofs.Steps.{tally_early, tally_small, tally_count, tally_fits, tally_round}
use Rattle.tallies.proofs.Prefix.tally.Goals as goal

pub grown-k-requires : goal.grown-k-requires
grown-k-requires c = (search tally_early, search tally_small)

pub overflow_cast-held : goal.overflow_cast-held
overflow_cast-held c = search tally_fits

pub returns : goal.returns
returns c = (tally_round c.requires.0 (search rules) _ _ c.from-e.ensures c.from-c.ensures _ c.grown-k.ensures, search tally_count)
