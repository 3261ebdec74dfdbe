-- `left_seeds::columns` meets its contract. Assumes nothing.
use Rattle.words.specs.Tables.{border_row, cover_row}
use Rattle.left_seeds.proofs.Steps.{room_holds, columns_made}
use Rattle.left_seeds.proofs.columns.Goals as goal

pub invariant_of-bases-clause-borders : goal.invariant_of-bases-clause-borders
invariant_of-bases-clause-borders c = search (room_holds border_row)

pub invariant_of-bases-clause-covers : goal.invariant_of-bases-clause-covers
invariant_of-bases-clause-covers c = search (room_holds cover_row)

pub returns : goal.returns
returns c = (search columns_made, search (room_holds cover_row))
