-- `coverings::write_chain` meets its contract. The loop's invariant is `Placed`. Assumes nothing.
use Rattle.coverings.proofs.Lists.{Placed}
use Rattle.coverings.proofs.write_chain.Given as goal

abbrev pub invariant-loop-left : goal.invariant-loop-left
invariant-loop-left l = Placed l.x l.initial.t l.t l.left l.q
