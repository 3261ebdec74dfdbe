-- `weighing::heaviest` meets its contract. The loop's invariant is `Down`, its measure q. Assumes nothing.
use Rattle.std.proofs.Common.{rules}
use Rattle.weighing.proofs.Steps.{down_start, down_inside, down_empty, down_cover, down_bare, down_falls, down_next}
use Rattle.weighing.proofs.heaviest.Goals as goal
use Rattle.weighing.proofs.heaviest.Goals.{then-b-eq0-via-then-b-eq0, then-b-eq0-via-else-b-eq0+then-bases-b-eq0}

pub loop-q-init : goal.loop-q-init
loop-q-init c = search down_start

pub bounds-bases-q : goal.bounds-bases-q
bounds-bases-q c = search down_inside

pub offset_bounds-bases-b : goal.offset_bounds-bases-b
offset_bounds-bases-b c = search (rules, down_cover)

pub bounds-bases-b : goal.bounds-bases-b
bounds-bases-b c = search down_cover

pub returns-then-b-eq0 : goal.returns-then-b-eq0
returns-then-b-eq0 c =
    elim c.then-b-eq0.branch [ then-b-eq0-via-then-b-eq0 w ↦ search down_empty | then-b-eq0-via-else-b-eq0+then-bases-b-eq0 w ↦ search down_bare ]

pub loop-q-smaller : goal.loop-q-smaller
loop-q-smaller c = search down_falls

pub loop-q-preserved : goal.loop-q-preserved
loop-q-preserved c = search down_next
