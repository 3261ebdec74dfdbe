-- `cover::grow` meets its contract. The loop's invariant: the first j rows of t are covers, the others still borders, up and kids are the tree of the first j lengths, and its window
-- starts no later than that of the row to come. Assumes nothing.
use Rattle.std.proofs.Common.{◌≤◌, ◌+◌, ◌-◌}
use Rattle.words.specs.Tables.{border_row, cover_row}
use Rattle.words.proofs.Tables.{Rows}
use Rattle.cover.specs.Tree.{Forest}
use Rattle.cover.proofs.grow.Given as goal

abbrev pub invariant-loop-j : goal.invariant-loop-j
invariant-loop-j l = Rows cover_row l.x l.initial.t l.t l.j × Forest l.x l.up l.kids l.period l.j 0 × (l.period ≤ l.j + 1 - border_row l.x l.j)
