-- `wording::band` meets its contract. Assumes nothing.
use Rattle.wording.proofs.Steps.{band_told}
use Rattle.wording.proofs.band.Goals as goal

pub returns : goal.returns
returns c = search band_told
