-- `lines::Text::word` meets its contract. Assumes nothing.
use Rattle.std.proofs.Common.{sym, ◌∙◌, ap, length, ◌+◌, arith, drop-drop}
use Rattle.std.proofs.lemmas.Slice.{drop-put_mid}
use Rattle.lines.specs.Text.{page}
use Rattle.lines.proofs.Text.word.Goals as goal

pub returns-clause-rest : goal.returns-clause-rest
unfolding page
returns-clause-rest c =
    drop-put_mid _ _ _ _ (c.args.self.now.len + length c.args.w.now) (omega arith) c.args.self.now.within (omega (arith, ap length c.copy_from_slice.ensures.after))
    ∙ sym (drop-drop (length c.args.w.now) c.args.self.now.len c.args.self.now.bytes.now)
