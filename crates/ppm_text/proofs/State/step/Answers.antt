use Rattle.std.proofs.Common.{rules}
use Rattle.ppm_text.proofs.Readings.{byte_after_fault, line_end_lem, byte_inside}
use Rattle.ppm_text.proofs.State.step.Goals as goal

pub returns-in-Some : goal.returns-in-Some
returns-in-Some c = search (rules, byte_after_fault)

pub returns-in-None : goal.returns-in-None
returns-in-None c = search (rules, line_end_lem)

pub returns-in-None-2 : goal.returns-in-None-2
returns-in-None-2 c = search (rules, byte_inside)
