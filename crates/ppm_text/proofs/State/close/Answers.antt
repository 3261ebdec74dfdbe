use Rattle.std.proofs.Common.{rules}
use Rattle.ppm_text.proofs.Endings.{wrong_before, none_heard, some_heard}
use Rattle.ppm_text.proofs.State.close.Goals as goal

pub returns-in-Some : goal.returns-in-Some
returns-in-Some c = search (rules, wrong_before)

pub returns-in-None : goal.returns-in-None
returns-in-None c = search (rules, none_heard)

pub returns-in-None-2 : goal.returns-in-None-2
returns-in-None-2 c = search (rules, some_heard)
