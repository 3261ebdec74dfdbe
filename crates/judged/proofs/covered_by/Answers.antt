-- `judged::covered_by` meets its contract. Assumes nothing.
use Rattle.std.proofs.Common.{rules}
use Rattle.words.specs.Tables.{prefix_row}
use Rattle.bases.proofs.Work.{work_holds}
use Rattle.judged.proofs.covered_by.Goals as goal

pub sweep-requires : goal.sweep-requires
sweep-requires c = (search (work_holds prefix_row), search rules, search rules, search rules)
