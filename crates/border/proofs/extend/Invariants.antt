-- `border::extend` meets its contract. The loop's invariant is `Candidate`, its measure k. Assumes nothing.
use Rattle.words.proofs.Borders.{Candidate}
use Rattle.border.proofs.extend.Given as goal

abbrev pub invariant-chain : goal.invariant-chain
invariant-chain l = Candidate l.x l.r l.k

abbrev pub decreases-chain : goal.decreases-chain
decreases-chain l = l.k
