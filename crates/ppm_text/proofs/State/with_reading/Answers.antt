use Rattle.std.proofs.Common.{rules}
use Rattle.ppm_text.proofs.Readings.{reading_said, too_many_said}
use Rattle.ppm_text.proofs.State.with_reading.Goals as goal

pub returns-then-n-lt-LONGEST : goal.returns-then-n-lt-LONGEST
returns-then-n-lt-LONGEST c = search (rules, reading_said)

pub returns : goal.returns
returns c = search (rules, too_many_said)
