-- `cover::rows` meets its contract. Assumes nothing.
use Rattle.cover.proofs.Steps.{root_counted}
use Rattle.cover.proofs.rows.Goals as goal

pub grow-requires : goal.grow-requires
grow-requires c = search root_counted
