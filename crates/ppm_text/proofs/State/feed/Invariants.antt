-- The bytes so far are taken.
use Rattle.std.proofs.Common.{take}
use Rattle.ppm_text.specs.States.{Takes}
use Rattle.ppm_text.proofs.State.feed.Given as goal

abbrev pub invariant-loop-b : goal.invariant-loop-b
invariant-loop-b l = Takes (take l.b-index l.piece) l.initial.s l.initial.file l.s l.file
