-- `summary::of` meets its contract. Assumes nothing.
use Rattle.std.proofs.Common.{rules}
use Rattle.words.specs.Tables.{border_row, cover_row}
use Rattle.bases.proofs.Work.{work_blank, work_holds}
use Rattle.summary.proofs.of.Goals as goal

pub begin-outline-requires : goal.begin-outline-requires
begin-outline-requires c = (search rules, search rules, search work_blank, search rules, search rules)

pub lay-requires : goal.lay-requires
lay-requires c = (search (work_holds border_row), search (work_holds cover_row), search rules, search rules, search rules)

pub read_rest-requires : goal.read_rest-requires
read_rest-requires c = (search rules, search rules, c.requires.1, search rules)

pub returns-clause-table : goal.returns-clause-table
returns-clause-table c = c.begin-outline.ensures.table
