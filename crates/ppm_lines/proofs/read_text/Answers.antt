use Rattle.std.proofs.Common.{rules}
use Rattle.ppm_text.proofs.Files.{at_start, one_more_piece}
use Rattle.ppm_lines.proofs.read_text.Goals as goal

pub loop-init : goal.loop-init
loop-init g c = search (rules, at_start)

pub loop-preserved : goal.loop-preserved
loop-preserved g c = search (rules, one_more_piece)
