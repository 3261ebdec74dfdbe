-- `five_columns::four_columns` meets its contract. Assumes nothing.
use Rattle.words.specs.Tables.{border_row, cover_row}
use Rattle.words.proofs.Tables.{written_holds}
use Rattle.five_columns.proofs.four_columns.Goals as goal

pub invariant_of-bases-clause-borders : goal.invariant_of-bases-clause-borders
invariant_of-bases-clause-borders c = search (written_holds border_row)

pub invariant_of-bases-clause-covers : goal.invariant_of-bases-clause-covers
invariant_of-bases-clause-covers c = search (written_holds cover_row)
