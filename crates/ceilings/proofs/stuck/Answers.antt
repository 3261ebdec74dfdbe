-- `ceilings::stuck` meets its contract. Assumes nothing.
use Rattle.std.proofs.Common.{◌≡◌, rules, ◌↔◌, IsTrue, EachIndex, slice_index}
use Rattle.words.specs.PlantFile.{ceiling_symbol}
use Rattle.ceilings.proofs.Steps.{stuck_each}
use Rattle.ceilings.proofs.stuck.Goals as goal

pub returns : goal.returns
returns c = let e : IsTrue c.all.result ↔ EachIndex c.args.x.now (λ k. slice_index c.args.x.now k ≡ ceiling_symbol) = search rules in stuck_each _ e
