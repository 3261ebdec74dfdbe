-- `tallies::Prefix::weigh` meets its contract. The loop's invariant is `Round` and `Way`, and that l and h keep their lengths; its measure is w. Assumes nothing.
use Rattle.std.proofs.Common.{◌≡◌, length}
use Rattle.tallies.specs.Tallies.{Round}
use Rattle.tallies.proofs.Steps.{Way}
use Rattle.tallies.proofs.Prefix.weigh.Given as goal

abbrev pub invariant-loop-w : goal.invariant-loop-w
invariant-loop-w l = Round l.self.x.now l.last l.held l.self.j l.w × Way l.self.x.now l.self.j l.total l.w l.b × (length l.last ≡ length l.initial.last) × (length l.held ≡ length l.initial.held)

abbrev pub decreases-loop-w : goal.decreases-loop-w
decreases-loop-w l = l.w
