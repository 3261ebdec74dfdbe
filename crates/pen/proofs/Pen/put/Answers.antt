-- `pen::Pen::put` meets its contract. Assumes nothing.
use Rattle.std.proofs.Common.{rules}
use Rattle.pen.proofs.Pieces.{number_pen, number_out}
use Rattle.pen.proofs.Meaning.{wrote_number}
use Rattle.pen.proofs.Pen.put.Goals as goal

pub returns-clause-pen : goal.returns-clause-pen
returns-clause-pen c = search (rules, number_pen)

pub returns-clause-text : goal.returns-clause-text
returns-clause-text c = search (rules, number_out)

pub returns-clause-wrote : goal.returns-clause-wrote
returns-clause-wrote c = search (rules, wrote_number)
