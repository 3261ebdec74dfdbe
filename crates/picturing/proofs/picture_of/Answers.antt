-- `picturing::picture_of` meets its contract. Assumes nothing.
use Rattle.std.proofs.Common.{refl}
use Rattle.logfile.proofs.Files.{file_lent}
use Rattle.picturing.proofs.picture_of.Goals as goal

pub draw-requires : goal.draw-requires
draw-requires c = file_lent _ c.in-Ok.ensures.refusal refl c.in-Ok.ensures.part
