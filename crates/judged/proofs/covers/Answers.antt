-- `judged::covers` meets its contract. Assumes nothing.
use Rattle.std.proofs.Common.{rules}
use Rattle.words.specs.Tables.{cover_row}
use Rattle.bases.proofs.Work.{work_holds}
use Rattle.judged.proofs.covers.Goals as goal

pub list-requires : goal.list-requires
list-requires c = (search rules, search (work_holds cover_row), search rules)
