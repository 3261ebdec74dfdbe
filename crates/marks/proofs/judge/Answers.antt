-- `marks::judge` meets its contract: what is no start is marked by how far the occurrences reach. Assumes nothing.
use Rattle.std.proofs.Common.{sym, ◌∙◌}
use Rattle.marks.proofs.Reaching.{covered_marked, uncovered_marked}
use Rattle.marks.proofs.judge.Goals as goal

pub returns-then-p-reach-clause-mark : goal.returns-then-p-reach-clause-mark
returns-then-p-reach-clause-mark c = covered_marked _ _ _ _ c.requires.1 (sym c.starts.ensures ∙ c.if-starts.false) c.if-p-reach.true

pub returns-else-p-reach-clause-mark : goal.returns-else-p-reach-clause-mark
returns-else-p-reach-clause-mark c = uncovered_marked _ _ _ _ c.requires.1 (sym c.starts.ensures ∙ c.if-starts.false) c.if-p-reach.false
