-- `standings::start_after` meets its contract. Assumes nothing.
use Rattle.standings.proofs.Steps.{after_longer, after_same, after_other}
use Rattle.standings.proofs.start_after.Goals as goal
use Rattle.standings.proofs.start_after.Goals.{else-len-s-via-then-len-s+else-s-len, else-len-s-via-else-len-s}

pub returns-then-s-len : goal.returns-then-s-len
returns-then-s-len c = search after_longer

pub returns-else-len-s : goal.returns-else-len-s
returns-else-len-s c =
    elim c.else-len-s.branch [ else-len-s-via-then-len-s+else-s-len w ↦ search after_same | else-len-s-via-else-len-s w ↦ search after_other ]
