-- `left_seeds::judge` meets its contract. The loop's invariant: below j the rows of both tables are written and those of `chain` are the
-- chain's, from j on those of `chain` are still covers; last and held have the tallies of the first j prefixes, and s is how the first j readings stand. Assumes nothing.
use Rattle.std.proofs.Common.{◌≡◌, ◌≤◌, length}
use Rattle.words.specs.Refusals.{longest}
use Rattle.words.proofs.Tables.{Rows}
use Rattle.words.proofs.Weighs.{heaviest_row}
use Rattle.tallies.specs.Tallies.{Tallies}
use Rattle.repeats.specs.Repeats.{left_seed_row, seed_count_row}
use Rattle.standings.specs.Standings.{Stands}
use Rattle.left_seeds.proofs.judge.Given as goal

abbrev pub invariant-loop-j : goal.invariant-loop-j
invariant-loop-j l =
    Rows heaviest_row l.columns.x.now l.initial.chain l.chain l.j × Rows left_seed_row l.columns.x.now l.initial.best l.best l.j × Rows seed_count_row l.columns.x.now l.initial.count l.count l.j × Tallies l.columns.x.now l.last l.held l.j × Stands l.columns.x.now l.j l.s
    × (length l.last ≡ length l.initial.last) × (length l.held ≡ length l.initial.held) × (length l.columns.x.now ≤ longest)
