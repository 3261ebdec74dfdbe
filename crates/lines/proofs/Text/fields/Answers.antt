-- `lines::Text::fields` meets its contract. Assumes nothing.
use Rattle.std.proofs.Common.{rules}
use Rattle.lines.proofs.Texts.{listed_room, listed_here_none, listed_here_more}
use Rattle.lines.proofs.Text.fields.Goals as goal

pub loop-n-init : goal.loop-n-init
loop-n-init c = search listed_here_none

pub field-requires : goal.field-requires
field-requires c = search (rules, listed_room)

pub loop-n-preserved : goal.loop-n-preserved
loop-n-preserved c = listed_here_more c.loop-n.invariant c.from.ensures (search rules) c.loop-n-test.true c.field.ensures.said c.field.ensures.room c.field.ensures.buffer
