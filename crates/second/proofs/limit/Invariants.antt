-- `second::limit` is safe and ends. The loop's invariant: the exponent is below its power. Assumes nothing.
use Rattle.std.proofs.Common.{◌-◌, ◌<◌}
use Rattle.second.proofs.limit.Given as goal

abbrev pub invariant-loop-power : goal.invariant-loop-power
invariant-loop-power l = (l.e < l.power)

abbrev pub decreases-loop-power : goal.decreases-loop-power
decreases-loop-power l = l.i - l.power
