-- `coverings::chain_length` meets its contract. The loop's invariant is `Counted`, its measure q. Assumes nothing.
use Rattle.coverings.proofs.Lists.{Counted}
use Rattle.coverings.proofs.chain_length.Given as goal

abbrev pub invariant-loop-q : goal.invariant-loop-q
invariant-loop-q l = Counted l.x l.k l.q

abbrev pub decreases-loop-q : goal.decreases-loop-q
decreases-loop-q l = l.q
