-- `prefix::rows` meets its contract. Assumes nothing.
use Rattle.std.proofs.Common.{◌≡◌, length, rules, arith}
use Rattle.std.proofs.lemmas.Bool.Decides.{nat_tests}
use Rattle.words.specs.Tables.{prefix_row}
use Rattle.words.proofs.Tables.{written_empty, written_first, first_room, first_stored}
use Rattle.prefix.proofs.rows.Goals as goal

pub returns-then-is_empty : goal.returns-then-is_empty
returns-then-is_empty c = let e : length c.args.x.now ≡ 0 = grind (arith, nat_tests) in search (written_empty prefix_row)

pub fill-requires : goal.fill-requires
fill-requires c = let ne : length c.args.x.now ≡ 0 → ⊥ = grind (arith, nat_tests) in (search first_room, search rules, search first_stored)

pub returns : goal.returns
returns c = let ne : length c.args.x.now ≡ 0 → ⊥ = grind (arith, nat_tests) in search (written_first prefix_row)
