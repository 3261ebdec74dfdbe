-- `bases::copies` meets its contract. Assumes nothing.
use Rattle.words.specs.Tables.{border_row, cover_row}
use Rattle.bases.proofs.Steps.{copied}
use Rattle.bases.proofs.copies.Goals as goal

pub returns-clause-border : goal.returns-clause-border
returns-clause-border c = search (copied border_row)

pub returns-clause-cover : goal.returns-clause-cover
returns-clause-cover c = search (copied cover_row)
