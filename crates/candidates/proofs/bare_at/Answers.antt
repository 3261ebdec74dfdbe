-- `candidates::bare_at` meets its contract. Assumes nothing.
use Rattle.std.proofs.Common.{rules}
use Rattle.candidates.proofs.Steps.{bare_first, in_cover, in_bare, bare_yes, bare_no}
use Rattle.candidates.proofs.bare_at.Goals as goal

pub returns-then-r-eq0 : goal.returns-then-r-eq0
returns-then-r-eq0 c = search bare_first

pub offset_bounds-bases-r : goal.offset_bounds-bases-r
offset_bounds-bases-r c = search (rules, in_cover)

pub bounds-bases-r : goal.bounds-bases-r
bounds-bases-r c = search in_cover

pub returns-then-bases-r-eq0 : goal.returns-then-bases-r-eq0
returns-then-bases-r-eq0 c = search bare_yes

pub offset_bounds-bare-r : goal.offset_bounds-bare-r
offset_bounds-bare-r c = search (rules, in_bare)

pub bounds-bare-r : goal.bounds-bare-r
bounds-bare-r c = search in_bare

pub returns-else-bases-r-eq0 : goal.returns-else-bases-r-eq0
returns-else-bases-r-eq0 c = search bare_no
