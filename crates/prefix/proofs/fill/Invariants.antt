-- `prefix::fill` meets its contract. The loop's invariant is `Rows` and `Stretch`. Assumes nothing.
use Rattle.words.specs.Tables.{prefix_row}
use Rattle.words.proofs.Tables.{Rows}
use Rattle.prefix.specs.Stretch.{Stretch}
use Rattle.prefix.proofs.fill.Given as goal

abbrev pub invariant-loop-r : goal.invariant-loop-r
invariant-loop-r l = Rows prefix_row l.x l.initial.t l.t l.r × Stretch l.x l.r l.s.from l.s.to
