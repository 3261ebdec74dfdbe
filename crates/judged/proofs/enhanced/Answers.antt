-- `judged::enhanced` meets its contract. Assumes nothing.
use Rattle.std.proofs.Common.{rules}
use Rattle.words.specs.Tables.{border_row, best_row}
use Rattle.words.proofs.Tables.{written_holds, laid_over}
use Rattle.bases.proofs.Work.{work_blank}
use Rattle.judged.proofs.Steps.{chain_covers}
use Rattle.judged.proofs.enhanced.Goals as goal

pub borders_and_covers-requires : goal.borders_and_covers-requires
borders_and_covers-requires c = (search rules, search rules, search work_blank)

pub rows-requires : goal.rows-requires
rows-requires c = (search (written_holds border_row), search chain_covers, search rules, search rules, search rules)

pub returns-clause-best : goal.returns-clause-best
returns-clause-best c = search (laid_over best_row border_row)
