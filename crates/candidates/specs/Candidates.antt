-- What the functions of the left seeds hand each other. Assumes nothing.
use Rattle.std.specs.Prelude.{◌≡◌, List, ◌⊎◌, ℕ, suc, ◌≤◌, ◌<◌, eqb, length}
use Rattle.words.specs.Search.{greatest}
use Rattle.words.specs.Words.{cover}
use Rattle.words.specs.Tables.{Column, border_row}
use Rattle.words.specs.Refusals.{longest}
use Rattle.words.proofs.Tables.{Holds}
use Rattle.words.proofs.Borders.{Border}
use Rattle.repeats.proofs.Repeating.{Repeats}
use Rattle.repeats.proofs.Seeds.{LeftSeed}
use Rattle.repeats.proofs.Starts.{start}
use Rattle.candidates.specs.declared.Seed.{Seed}

-- the longest length up to r that has no proper cover
unfoldable pub bare : List ℕ → ℕ → ℕ
bare x r = greatest (λ q. eqb (cover eqb x q) 0) (suc r)

-- two columns for the walk, each by length, from 0: that length, and the longest border of the first r readings that is shorter than it
abbrev pub bare_row : Column
bare_row x r = bare x r

abbrev pub fall_row : Column
fall_row x r = start eqb x r (bare x r)

-- the border table of a log that is not too long, and the two columns
pub record Made (x border bare fall : List ℕ) : Type 0 where
  pub most : length x ≤ longest
  pub borders : Holds border_row x border
  pub bares : Holds bare_row x bare
  pub falls : Holds fall_row x fall

-- s is the left seed of the first i readings, with its longest start that ends them
pub record Sown (x : List ℕ) (i : ℕ) (s : Seed) : Type 0 where
  pub seed : LeftSeed eqb x i s.len s.count
  pub starts : s.start ≡ start eqb x i s.len

-- far is the longest prefix that repeats in the first i readings; 0 if none does
pub record Far (x : List ℕ) (i far : ℕ) : Type 0 where
  pub is : (far ≡ 0) ⊎ Repeats eqb x i far
  pub most : (q : ℕ) → Repeats eqb x i q → q ≤ far

-- m is a border from which the start of q is found: no start of q is longer, and where m is no shorter than q, nothing between them has no proper cover
pub record Ready (x : List ℕ) (i q m : ℕ) : Type 0 where
  pub border : Border eqb x i m
  pub most : (k : ℕ) → k < q → Border eqb x i k → k ≤ m
  pub next : q ≤ m → bare x m ≡ q

-- r is s, or q where that reaches as much or more
abbrev pub Taken : Seed → ℕ → ℕ → ℕ → Seed → Type 0
Taken s q k m r = ((s.count ≤ k) × (r ≡ record { len = q; count = k; start = m })) ⊎ ((k < s.count) × (r ≡ s))
