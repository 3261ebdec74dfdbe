-- What the recursion of a breakdown keeps from level to level. Assumes nothing.
use Rattle.std.specs.Prelude.{◌≡◌, List, ◌++◌, ℕ, ◌-◌, ◌*◌, ◌^◌, ◌≤◌, ◌<◌, eqb, length}
use Rattle.words.specs.declared.Part.{Part}
use Rattle.words.specs.declared.Breakdown.{Breakdown}
use Rattle.words.specs.Words.{breakdown}
use Rattle.words.specs.Refusals.{longest}
use Rattle.words.specs.Answers.{breakdown_places, places, no_part, broken}

-- at level d the part is so short that the places suffice
pub record Deep (x : List ℕ) (i d : ℕ) : Type 0 where
  pub most : length x ≤ longest
  pub within : i ≤ length x
  pub halved : i * 2 ^ d < 2 ^ breakdown_places
  pub place : d ≤ breakdown_places

-- r has the d parts of a, and after them those of the prefix of length i
pub record Broken (x : List ℕ) (i d : ℕ) (a r : Breakdown) : Type 0 where
  pub whole : (l : List Part) → a.number ≡ 0 → a.parts ≡ places breakdown_places no_part l → length l ≡ d
      → r ≡ broken 0 (l ++ breakdown eqb x (breakdown_places - d) i)
