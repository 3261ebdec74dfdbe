-- `judged::weighed` meets its contract. Assumes nothing.
use Rattle.std.proofs.Common.{rules}
use Rattle.words.specs.Tables.{border_row, cover_row}
use Rattle.bases.proofs.Work.{work_blank, work_holds}
use Rattle.judged.proofs.weighed.Goals as goal

pub borders_and_covers-requires : goal.borders_and_covers-requires
borders_and_covers-requires c = (search rules, search rules, search work_blank)

pub invariant_of-bases-clause-borders : goal.invariant_of-bases-clause-borders
invariant_of-bases-clause-borders c = search (work_holds border_row)

pub invariant_of-bases-clause-covers : goal.invariant_of-bases-clause-covers
invariant_of-bases-clause-covers c = search (work_holds cover_row)
