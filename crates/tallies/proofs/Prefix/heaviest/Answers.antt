-- `tallies::Prefix::heaviest` meets its contract. Assumes nothing.
use Rattle.std.proofs.Common.{rules}
use Rattle.tallies.proofs.Steps.{in_last, in_chain, flagged_border, covered_border}
use Rattle.tallies.proofs.Prefix.heaviest.Goals as goal

pub offset_bounds-last-b : goal.offset_bounds-last-b
offset_bounds-last-b c = search (rules, in_last)

pub bounds-last-b : goal.bounds-last-b
bounds-last-b c = search in_last

pub returns-then-last-b-ne0 : goal.returns-then-last-b-ne0
returns-then-last-b-ne0 c = search flagged_border

pub offset_bounds-chain-b : goal.offset_bounds-chain-b
offset_bounds-chain-b c = search (rules, in_chain)

pub bounds-chain-b : goal.bounds-chain-b
bounds-chain-b c = search in_chain

pub returns-else-last-b-ne0 : goal.returns-else-last-b-ne0
returns-else-last-b-ne0 c = search covered_border
