-- `reporting::accepted` meets its contract. Assumes nothing.
use Rattle.std.proofs.Common.{refl}
use Rattle.logfile.proofs.Files.{file_lent}
use Rattle.reporting.proofs.Files.{file_accepted, file_refused}
use Rattle.reporting.proofs.accepted.Goals as goal

pub returns-in-Ok-clause-judged : goal.returns-in-Ok-clause-judged
returns-in-Ok-clause-judged c = file_lent _ c.in-Ok.ensures.refusal refl c.in-Ok.ensures.part

pub returns-in-Ok-clause-accepted : goal.returns-in-Ok-clause-accepted
returns-in-Ok-clause-accepted c = file_accepted _ c.in-Ok.ensures.refusal c.in-Ok.ensures.part

pub returns-in-Err-clause-refused : goal.returns-in-Err-clause-refused
returns-in-Err-clause-refused c = λ said. rw (← file_refused _ _ c.in-Err.ensures.refusal said, ← c.from.ensures) c.refused.ensures.said
