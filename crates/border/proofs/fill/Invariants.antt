-- `border::fill` meets its contract. The loop's invariant is `Rows`, with the last border in b. Assumes nothing.
use Rattle.std.proofs.Common.{◌≡◌, ◌-◌}
use Rattle.words.specs.Tables.{border_row}
use Rattle.words.proofs.Tables.{Rows}
use Rattle.border.proofs.fill.Given as goal

abbrev pub invariant-loop-r : goal.invariant-loop-r
invariant-loop-r l = Rows border_row l.x l.initial.t l.t l.r × (l.b ≡ border_row l.x (l.r - 1))
