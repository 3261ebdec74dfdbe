-- `prefix::scan` meets its contract. The loop's invariant: the readings from r up to k are the first ones again. Assumes nothing.
use Rattle.std.proofs.Common.{◌-◌, ◌≤◌, eqb}
use Rattle.words.proofs.Prefixes.{Reaches}
use Rattle.prefix.proofs.scan.Given as goal

abbrev pub invariant-loop-k : goal.invariant-loop-k
invariant-loop-k l = (l.r ≤ l.k) × Reaches eqb l.x l.r (l.k - l.r)
