-- `candidates::fall_at` meets its contract. Assumes nothing.
use Rattle.std.proofs.Common.{rules}
use Rattle.candidates.proofs.Steps.{fall_first, in_border, in_fall, fall_yes, fall_no}
use Rattle.candidates.proofs.fall_at.Goals as goal

pub returns-then-r-eq0 : goal.returns-then-r-eq0
returns-then-r-eq0 c = search fall_first

pub offset_bounds-bases-r : goal.offset_bounds-bases-r
offset_bounds-bases-r c = search (rules, in_border)

pub bounds-bases-r : goal.bounds-bases-r
bounds-bases-r c = search in_border

pub returns-then-b-q : goal.returns-then-b-q
returns-then-b-q c = search fall_yes

pub offset_bounds-fall-b : goal.offset_bounds-fall-b
offset_bounds-fall-b c = search (rules, in_fall)

pub bounds-fall-b : goal.bounds-fall-b
bounds-fall-b c = search in_fall

pub returns-else-b-q : goal.returns-else-b-q
returns-else-b-q c = search fall_no
