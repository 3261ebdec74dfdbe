-- `judged::cover` meets its contract. Assumes nothing.
use Rattle.std.proofs.Common.{rules}
use Rattle.words.specs.Tables.{border_row, cover_row}
use Rattle.words.proofs.Tables.{written_holds, laid_over}
use Rattle.bases.proofs.Work.{work_blank}
use Rattle.judged.proofs.cover.Goals as goal

pub rows-requires-2 : goal.rows-requires-2
rows-requires-2 c = (search (written_holds border_row), search rules, search work_blank)

pub returns : goal.returns
returns c = search (laid_over cover_row border_row)
