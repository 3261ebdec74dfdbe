-- `candidates::rows` meets its contract. The loop's invariant: both tables have their first r rows written. Assumes nothing.
use Rattle.words.proofs.Tables.{Rows}
use Rattle.candidates.specs.Candidates.{bare_row, fall_row}
use Rattle.candidates.proofs.rows.Given as goal

abbrev pub invariant-loop-r : goal.invariant-loop-r
invariant-loop-r l = Rows bare_row l.bases.x.now l.initial.bare l.bare l.r × Rows fall_row l.bases.x.now l.initial.fall l.fall l.r
