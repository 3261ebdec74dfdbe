-- `cover::retire` meets its contract. The loop's invariant is `Falling`, its measure q. Assumes nothing.
use Rattle.std.proofs.Common.{◌+◌}
use Rattle.cover.proofs.Tree.{Falling}
use Rattle.cover.proofs.retire.Given as goal

abbrev pub invariant-loop-kids : goal.invariant-loop-kids
invariant-loop-kids l = Falling l.x l.up l.kids (l.p + 1) l.j l.q

abbrev pub decreases-loop-kids : goal.decreases-loop-kids
decreases-loop-kids l = l.q
