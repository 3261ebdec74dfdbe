-- `left_seeds::row` meets its contract. Assumes nothing.
use Rattle.std.proofs.Common.{rules}
use Rattle.words.specs.Tables.{border_row}
use Rattle.words.proofs.Tables.{holds_row}
use Rattle.left_seeds.proofs.row.Goals as goal

pub row-p-requires : goal.row-p-requires
row-p-requires c = (search rules, search rules, search rules, search (holds_row border_row), search rules, search rules)
