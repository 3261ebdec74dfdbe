-- `parts::descend` ends: the length of the part at least halves at each call.
use Rattle.parts.proofs.+descend.Given as goal

abbrev pub decreases-descend : goal.decreases-descend
decreases-descend l = l.i
