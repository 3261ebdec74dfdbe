-- What the functions of the standings hand each other. Assumes nothing.
use Rattle.std.specs.Prelude.{◌≡◌, List, ◌⊎◌, ℕ, ◌+◌, ◌-◌, ◌≤◌, ◌<◌, eqb, length, get_or}
use Rattle.words.proofs.Bests.{Best}
use Rattle.repeats.specs.declared.Found.{Found}
use Rattle.repeats.proofs.LeftCovers.{LeftCover}
use Rattle.candidates.specs.declared.Seed.{Seed}
use Rattle.candidates.specs.Candidates.{Sown, Far}
use Rattle.standings.specs.declared.Standing.{Standing}

-- b is Best and Count of row j
pub record Ended (x : List ℕ) (j : ℕ) (b : Found) : Type 0 where
  pub inside : j < length x
  pub best : Best eqb x (j + 1) b.len b.count

-- s is the seed before row j, and the reading of that row follows its start
pub record Goes (x : List ℕ) (j : ℕ) (s : Seed) (b : Found) : Type 0 where
  pub sown : Sown x j s
  pub some : s.len ≡ 0 → ⊥
  pub follows : get_or x s.start 0 ≡ get_or x j 0
  pub ended : Ended x j b

-- b covers more than one reading more can give s
pub record Ends (x : List ℕ) (j : ℕ) (s : Seed) (b : Found) : Type 0 where
  pub sown : Sown x j s
  pub ended : Ended x j b
  pub more : s.count + 1 < b.count

-- the left cover of row j, and the longest prefix that repeats
pub record Turns (x : List ℕ) (j : ℕ) (left : Found) (far : ℕ) : Type 0 where
  pub inside : j < length x
  pub cover : LeftCover eqb x (j + 1) left.len left.count
  pub longest : Far x (j + 1) far

pub record Stands (x : List ℕ) (i : ℕ) (s : Standing) : Type 0 where
  pub seed : Sown x i s.seed
  pub left : LeftCover eqb x i s.left.len s.left.count
  pub far : Far x i s.far

-- r is one longer than the start of s where that is still shorter than the pattern, which is the same; else the pattern's border
abbrev pub After : List ℕ → Seed → ℕ → ℕ → Type 0
After border s len r =
    ((len ≡ s.len) × (s.start + 1 < len) × (r ≡ s.start + 1)) ⊎ (((len ≡ s.len) → (len ≤ s.start + 1)) × (r ≡ get_or border (len - 1) 0))
