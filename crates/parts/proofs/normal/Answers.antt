-- `parts::normal` meets its contract. Assumes nothing.
use Rattle.parts.proofs.Steps.{border_le, period_some, normal_is}
use Rattle.parts.proofs.normal.Goals as goal

pub overflow_sub-k1 : goal.overflow_sub-k1
overflow_sub-k1 c = search border_le

pub nonzero_rem-result : goal.nonzero_rem-result
nonzero_rem-result c = search period_some

pub nonzero_div-result : goal.nonzero_div-result
nonzero_div-result c = search period_some

pub returns : goal.returns
returns c = search normal_is
