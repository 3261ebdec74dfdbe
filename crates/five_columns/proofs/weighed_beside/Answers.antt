-- `five_columns::weighed_beside` meets its contract. Assumes nothing.
use Rattle.std.proofs.Common.{rules}
use Rattle.words.specs.Tables.{border_row, cover_row, best_row}
use Rattle.words.proofs.Tables.{written_holds, laid_over}
use Rattle.words.proofs.Weighs.{heaviest_row}
use Rattle.five_columns.proofs.weighed_beside.Goals as goal

pub rows-requires : goal.rows-requires
rows-requires c = (search (written_holds border_row), search (written_holds cover_row), search rules, search rules, search rules)

pub returns-clause-best : goal.returns-clause-best
returns-clause-best c = search (laid_over best_row border_row)

pub returns-clause-chain : goal.returns-clause-chain
returns-clause-chain c = search (laid_over heaviest_row cover_row)
