-- `five_columns::rows` meets its contract. Assumes nothing.
use Rattle.std.proofs.Common.{rules}
use Rattle.words.specs.Tables.{prefix_row}
use Rattle.words.proofs.Tables.{laid_over}
use Rattle.words.proofs.Weighs.{heaviest_row}
use Rattle.bases.proofs.Work.{work_blank}
use Rattle.five_columns.proofs.rows.Goals as goal

pub four_columns-total-requires : goal.four_columns-total-requires
four_columns-total-requires c = (search rules, search rules, search rules, search rules, search rules, search work_blank)

pub returns-clause-prefix : goal.returns-clause-prefix
returns-clause-prefix c = search (laid_over prefix_row heaviest_row)
