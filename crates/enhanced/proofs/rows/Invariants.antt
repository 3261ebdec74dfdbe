-- `enhanced::rows` meets its contract. The loop's invariant: below j the rows of `best`, `count` and `chain` are Best, Count and the chain, from j on those of
-- `best` are still borders and those of `chain` covers; last and held have the tallies of the first j prefixes, and sum is the total of the first j rows. Assumes nothing.
use Rattle.std.proofs.Common.{◌≡◌, length}
use Rattle.words.specs.Search as Search
use Rattle.words.specs.Tables.{best_row, count_row}
use Rattle.words.proofs.Tables.{Rows}
use Rattle.words.proofs.Weighs.{heaviest_row}
use Rattle.tallies.specs.Tallies.{Tallies}
use Rattle.enhanced.proofs.Steps.{used_row}
use Rattle.enhanced.proofs.rows.Given as goal

abbrev pub invariant-loop-j : goal.invariant-loop-j
invariant-loop-j l =
    Rows heaviest_row l.x l.initial.chain l.chain l.j × Rows best_row l.x l.initial.best l.best l.j × Rows count_row l.x l.initial.count l.count l.j × Tallies l.x l.last l.held l.j
    × (l.sum ≡ Search.sum (used_row l.x) l.j) × (length l.last ≡ length l.initial.last) × (length l.held ≡ length l.initial.held)
