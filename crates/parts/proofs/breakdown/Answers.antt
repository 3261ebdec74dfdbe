-- `parts::breakdown` meets its contract. Assumes nothing.
use Rattle.std.proofs.Common.{rules}
use Rattle.parts.proofs.Steps.{deep_first, broken_whole}
use Rattle.parts.proofs.breakdown.Goals as goal

pub descend-requires : goal.descend-requires
descend-requires c = search (rules, deep_first)

pub returns : goal.returns
returns c = search broken_whole
