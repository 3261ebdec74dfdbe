-- `judged::border_table` meets its contract. Assumes nothing.
use Rattle.words.specs.Tables.{border_row}
use Rattle.bases.proofs.Work.{work_holds}
use Rattle.judged.proofs.border_table.Goals as goal

pub returns : goal.returns
returns c = search (work_holds border_row)
