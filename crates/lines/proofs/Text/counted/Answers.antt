-- `lines::Text::counted` meets its contract. Assumes nothing.
use Rattle.std.proofs.Common.{arith, append_assoc, refl}
use Rattle.std.proofs.lemmas.Grind.{common_steps}
use Rattle.lines.specs.Text.{line, tail}
use Rattle.lines.proofs.Texts.{decimal_most, fields_one}
use Rattle.lines.proofs.Text.counted.Goals as goal

pub field-requires : goal.field-requires
field-requires c = grind (arith, common_steps, decimal_most)

pub returns-clause-said : goal.returns-clause-said
unfolding line tail
returns-clause-said c = rw (fields_one, c.end.ensures.said, c.field.ensures.said, c.word.ensures.said, append_assoc, append_assoc) refl
