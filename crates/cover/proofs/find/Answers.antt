-- `cover::find` meets its contract. The loop's invariant is `Walk` over a `Forest`; its measure is q. Assumes nothing.
use Rattle.std.proofs.Common.{rules}
use Rattle.cover.proofs.Steps.{find_first, find_found, find_shorter, find_on}
use Rattle.cover.proofs.find.Goals as goal

pub loop-q-init : goal.loop-q-init
loop-q-init c = search (rules, find_first)

pub returns-then-u-q : goal.returns-then-u-q
returns-then-u-q c = search find_found

pub loop-q-preserved : goal.loop-q-preserved
loop-q-preserved c = (search find_shorter, search find_on)
