-- `facts::report` meets its contract. Assumes nothing.
use Rattle.std.proofs.Common.{rules, sym, length-take-le}
use Rattle.facts.proofs.Lines.{covers_within, covers_part, weighed_within, weighed_part}
use Rattle.facts.proofs.report.Goals as goal

pub slice_bounds-covers-end : goal.slice_bounds-covers-end
slice_bounds-covers-end c = search covers_within

pub slice_bounds-told-end : goal.slice_bounds-told-end
slice_bounds-told-end c = sym (length-take-le _ _ (search covers_within))

pub slice_bounds-lens-end : goal.slice_bounds-lens-end
slice_bounds-lens-end c = search (rules, weighed_within)

pub slice_bounds-told-end-2 : goal.slice_bounds-told-end-2
slice_bounds-told-end-2 c = sym (length-take-le _ _ (search (rules, weighed_within)))

pub told-requires : goal.told-requires
told-requires c = record { judged = search rules; summed = search rules; covered = search covers_part; weighs = search weighed_part; room = search rules }
