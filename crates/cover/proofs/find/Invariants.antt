-- `cover::find` meets its contract. The loop's invariant is `Walk` over a `Forest`; its measure is q. Assumes nothing.
use Rattle.std.proofs.Common.{◌+◌, ◌-◌}
use Rattle.cover.proofs.Walk.{Walk}
use Rattle.cover.specs.Tree.{Forest}
use Rattle.cover.proofs.find.Given as goal

abbrev pub invariant-loop-q : goal.invariant-loop-q
invariant-loop-q l = Forest l.x l.up l.kids (l.j + 1 - l.b) l.j 0 × Walk l.x l.j l.q

abbrev pub decreases-loop-q : goal.decreases-loop-q
decreases-loop-q l = l.q
