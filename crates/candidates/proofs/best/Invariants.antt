-- `candidates::best` meets its contract. The loop's invariant is `Walk`, its measure q. Assumes nothing.
use Rattle.std.proofs.Common.{◌+◌}
use Rattle.candidates.proofs.Steps.{Walk}
use Rattle.candidates.proofs.best.Given as goal

abbrev pub invariant-loop-q : goal.invariant-loop-q
invariant-loop-q l = Walk l.row.columns.x.now (l.row.j + 1) l.q l.m l.s

abbrev pub decreases-loop-q : goal.decreases-loop-q
decreases-loop-q l = l.q
