-- `second::most` meets its contract. The loop's invariant: the best so far is no longer than the prefix. Assumes nothing.
use Rattle.std.proofs.Common.{◌≤◌}
use Rattle.second.proofs.most.Given as goal

abbrev pub invariant-loop-q : goal.invariant-loop-q
invariant-loop-q g l = l.most.best ≤ l.i
