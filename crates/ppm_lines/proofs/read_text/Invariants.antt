-- What was read so far is held as `After` says.
use Rattle.ppm_text.specs.States.{After}
use Rattle.ppm_lines.proofs.read_text.Given as goal

abbrev pub invariant-loop : goal.invariant-loop
invariant-loop g l = After l.s l.file
