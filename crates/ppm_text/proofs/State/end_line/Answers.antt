use Rattle.std.proofs.Common.{rules}
use Rattle.ppm_text.proofs.Readings.{nothing_said, fault_said}
use Rattle.ppm_text.proofs.State.end_line.Goals as goal

pub returns-in-Ok-None : goal.returns-in-Ok-None
returns-in-Ok-None c = nothing_said _ _ _ _ (search rules) _ (cc) c.new_line.ensures.1

pub returns-in-Err : goal.returns-in-Err
returns-in-Err c = fault_said _ _ _ _ (search rules) _ _ (cc) c.into.ensures c.stop.ensures
