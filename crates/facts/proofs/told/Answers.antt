-- `facts::told` meets its contract. Assumes nothing.
use Rattle.std.proofs.Common.{rules, append_assoc}
use Rattle.facts.proofs.Lines.{told_covers, told_weighed, told_is}
use Rattle.facts.proofs.told.Goals as goal

pub shape-requires : goal.shape-requires
shape-requires c = (search told_covers, search rules)

pub borders-requires : goal.borders-requires
borders-requires c = (search told_weighed, search rules)

pub returns-clause-said : goal.returns-clause-said
returns-clause-said c = rw (← told_is c.requires c.of.ensures, c.ceiling.ensures.said, c.borders.ensures.said, c.shape.ensures.said) (simp append_assoc)
