-- `windowed::rows` meets its contract. Assumes nothing.
use Rattle.words.specs.Tables.{border_row, prefix_row, cover_row, best_row, count_row}
use Rattle.windowed.proofs.Middle.{part_room, part_placed, part_total}
use Rattle.windowed.proofs.rows.Goals as goal

pub rows-requires : goal.rows-requires
rows-requires c =
    let p = c.requires in (
      part_room _ _ _ _ p.most p.inside p.borders,
      part_room _ _ _ _ p.most p.inside p.prefixes,
      part_room _ _ _ _ p.most p.inside p.covers,
      part_room _ _ _ _ p.most p.inside p.bests,
      part_room _ _ _ _ p.most p.inside p.counts,
    )

pub returns-clause-border : goal.returns-clause-border
returns-clause-border c = part_placed border_row _ _ _ _ c.requires.inside c.requires.borders c.rows.ensures.border

pub returns-clause-prefix : goal.returns-clause-prefix
returns-clause-prefix c = part_placed prefix_row _ _ _ _ c.requires.inside c.requires.prefixes c.rows.ensures.prefix

pub returns-clause-cover : goal.returns-clause-cover
returns-clause-cover c = part_placed cover_row _ _ _ _ c.requires.inside c.requires.covers c.rows.ensures.cover

pub returns-clause-best : goal.returns-clause-best
returns-clause-best c = part_placed best_row _ _ _ _ c.requires.inside c.requires.bests c.rows.ensures.best

pub returns-clause-count : goal.returns-clause-count
returns-clause-count c = part_placed count_row _ _ _ _ c.requires.inside c.requires.counts c.rows.ensures.count

pub returns-clause-total : goal.returns-clause-total
returns-clause-total c = part_total _ _ _ c.rows.ensures.total
