-- `ceilings::count` meets its contract. The loop's invariant: the readings so far are counted. Assumes nothing.
use Rattle.std.proofs.Common.{◌≡◌, ◌==◌, count_by, take}
use Rattle.words.specs.PlantFile.{ceiling_symbol}
use Rattle.ceilings.proofs.count.Given as goal

abbrev pub invariant-loop-symbol : goal.invariant-loop-symbol
invariant-loop-symbol l = l.count ≡ count_by (λ s. s == ceiling_symbol) (take l.symbol-index l.x)
