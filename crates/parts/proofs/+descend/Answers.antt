-- `parts::descend` meets its contract.
use Rattle.std.proofs.Common.{rules}
use Rattle.parts.proofs.Steps.{deep_falls, deep_next, broken_done, broken_more}
use Rattle.parts.proofs.+descend.Goals as goal

pub returns-then-i-eq0 : goal.returns-then-i-eq0
returns-then-i-eq0 t c = search broken_done

pub descend-requires : goal.descend-requires
descend-requires t c = (search deep_falls, (search rules, search deep_next))

pub returns : goal.returns
returns t c = search broken_more
