-- `summary::lay` meets its contract. Assumes nothing.
use Rattle.std.proofs.Common.{rules}
use Rattle.words.specs.Tables.{best_row, count_row}
use Rattle.words.proofs.Tables.{written_holds}
use Rattle.summary.proofs.lay.Goals as goal

pub returns : goal.returns
returns c = record { bests = search (rules, written_holds best_row); counts = search (rules, written_holds count_row) }
