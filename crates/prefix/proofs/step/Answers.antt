-- `prefix::step` meets its contract. Assumes nothing.
use Rattle.std.proofs.Common.{rules}
use Rattle.prefix.proofs.Steps.{step_inside, step_edge, step_anew}
use Rattle.prefix.proofs.step.Goals as goal

pub returns-then-r-known : goal.returns-then-r-known
returns-then-r-known c = search step_inside

pub compare-requires : goal.compare-requires
compare-requires c = (search rules, search step_edge, search rules, search rules)

pub compare-requires-else-r-s : goal.compare-requires-else-r-s
compare-requires-else-r-s c = (search rules, search step_anew, search rules, search rules)
