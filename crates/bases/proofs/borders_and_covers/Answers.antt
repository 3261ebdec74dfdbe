-- `bases::borders_and_covers` meets its contract. Assumes nothing.
use Rattle.std.proofs.Common.{rules}
use Rattle.words.specs.Tables.{border_row, cover_row}
use Rattle.words.proofs.Tables.{written_holds}
use Rattle.bases.proofs.Steps.{copy_holds, over_copy}
use Rattle.bases.proofs.borders_and_covers.Goals as goal

pub rows-requires-2 : goal.rows-requires-2
rows-requires-2 c = (copy_holds border_row _ _ (search (written_holds border_row)) (search rules) c.copy.ensures, search rules, search rules)

pub returns-clause-cover : goal.returns-clause-cover
returns-clause-cover c = search (over_copy cover_row)
