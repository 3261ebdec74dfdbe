-- `lines::Text::fields` meets its contract. The loop's invariant is `ListedHere`. Assumes nothing.
use Rattle.lines.specs.Text.{page}
use Rattle.lines.proofs.Texts.{ListedHere}
use Rattle.lines.proofs.Text.fields.Given as goal

abbrev pub invariant-loop-n : goal.invariant-loop-n
invariant-loop-n l = ListedHere l.t (page l.initial.self) (page l.self) l.n-index
