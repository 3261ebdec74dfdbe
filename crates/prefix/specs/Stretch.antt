-- What the functions of the prefix table hand each other. Assumes nothing.
use Rattle.std.specs.Prelude.{◌≡◌, List, ℕ, ◌+◌, ◌-◌, ◌≤◌, ◌<◌, eqb}
use Rattle.words.specs.Tables.{prefix_row}
use Rattle.words.proofs.Prefixes.{Reaches}

-- the readings from `from` up to `to` are the first ones of x again, and `from` lies after the first place and not after r
pub record Stretch (x : List ℕ) (r from to : ℕ) : Type 0 where
  pub later : 0 < from
  pub left : from ≤ r
  pub order : from ≤ to
  pub reaches : Reaches eqb x from (to - from)

-- p is the row at r, and the stretch serves the row after it
pub record Reached (x : List ℕ) (r p from to : ℕ) : Type 0 where
  pub row : p ≡ prefix_row x r
  pub stretch : Stretch x (r + 1) from to
