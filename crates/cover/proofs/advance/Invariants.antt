-- `cover::advance` meets its contract. The loop's invariant: the window of the tree starts at p. Assumes nothing.
use Rattle.cover.specs.Tree.{Forest}
use Rattle.cover.proofs.advance.Given as goal

abbrev pub invariant-loop-p : goal.invariant-loop-p
invariant-loop-p l = Forest l.x l.up l.kids l.p l.j 0
