-- `standings::stand` meets its contract. Assumes nothing.
use Rattle.std.proofs.Common.{rules}
use Rattle.standings.proofs.Steps.{ended, stand_in, turns, stands_next}
use Rattle.standings.proofs.stand.Goals as goal

pub offset_bounds-row-row : goal.offset_bounds-row-row
offset_bounds-row-row c = search (rules, stand_in)

pub bounds-row-row : goal.bounds-row-row
bounds-row-row c = search stand_in

pub next-seed-requires : goal.next-seed-requires
next-seed-requires c = (search rules, search ended, search (turns, ended))

pub returns : goal.returns
returns c = search (stands_next, turns, ended)
