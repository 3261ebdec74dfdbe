-- `left_seeds::rows` meets its contract. Assumes nothing.
use Rattle.std.proofs.Common.{rules}
use Rattle.bases.proofs.Work.{work_blank}
use Rattle.left_seeds.proofs.rows.Goals as goal

pub columns-requires : goal.columns-requires
columns-requires c = (search rules, search rules, search rules, search rules, search work_blank)
