-- `tallies::Prefix::weigh` meets its contract. The loop's invariant is `Round` and `Way`, and that l and h keep their lengths; its measure is w. Assumes nothing.
use Rattle.std.proofs.Common.{rules}
use Rattle.tallies.proofs.Tallies.{round_done}
use Rattle.tallies.proofs.Steps.{first_way, next_falls, next_round, next_way, way_few, way_done}
use Rattle.tallies.proofs.Prefix.weigh.Goals as goal

pub loop-w-init : goal.loop-w-init
loop-w-init c = (search rules, search first_way, search rules, search rules)

pub weigh-b-requires : goal.weigh-b-requires
weigh-b-requires c = search way_few

pub loop-w-smaller : goal.loop-w-smaller
loop-w-smaller c = search next_falls

pub loop-w-preserved : goal.loop-w-preserved
loop-w-preserved c = (search next_round, search next_way, search rules, search rules)

pub returns : goal.returns
returns c = (search round_done, search way_done)
