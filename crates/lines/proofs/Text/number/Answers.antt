-- `lines::Text::number` meets its contract. Assumes nothing.
use Rattle.std.proofs.Common.{ℕ, List, ◌++◌, length, ap, ◌∙◌, arith}
use Rattle.lines.specs.Text.{page}
use Rattle.lines.proofs.Texts.{decimal_is}
use Rattle.lines.proofs.Text.number.Goals as goal

pub word-requires : goal.word-requires
word-requires c = omega (arith, ap length (decimal_is c.decimal-k.ensures.digits c.decimal-k.ensures.len c.ranges.n))

pub returns-clause-said : goal.returns-clause-said
returns-clause-said c =
    c.word.ensures.said ∙ ap (λ (l : List ℕ). (page c.args.self.now).said ++ l) (decimal_is c.decimal-k.ensures.digits c.decimal-k.ensures.len c.ranges.n)
