-- What the functions of a row hand each other: of each prefix that has no proper cover, the last end and the count so far. Assumes nothing.
use Rattle.std.specs.Prelude.{cond, ◌≡◌, List, ◌⊎◌, ℕ, ◌+◌, ◌-◌, ◌*◌, ◌≤◌, ◌<◌, max, length, get_or, eqb, leb}
use Rattle.words.specs.Words.{cover, covered, used}
use Rattle.words.specs.Tables.{best_row, count_row}
use Rattle.words.specs.Refusals.{longest}
use Rattle.words.specs.Answers.{weighed_places}
use Rattle.words.proofs.Occurrences.{Occurs}
use Rattle.words.proofs.Weighs.{Weighs}
use Rattle.tallies.specs.declared.Pick.{Pick}

-- e is the last end, up to i, of an occurrence of the prefix of length q, and k the places that it covers up to there
pub record Tally (x : List ℕ) (q i e k : ℕ) : Type 0 where
  pub from : q ≤ e
  pub within : e ≤ i
  pub occurs : Occurs eqb x q (e - q)
  pub last : (s : ℕ) → s + q ≤ i → Occurs eqb x q s → s + q ≤ e
  pub counts : k ≡ covered eqb x e q

-- the tallies of the lengths up to j that have no proper cover, the one of n at row n - 1 of l and of h; of the others the last end is said to be 0
pub record Tallies (x l h : List ℕ) (j : ℕ) : Type 0 where
  pub lasts : length x ≤ length l
  pub holds : length x ≤ length h
  pub each : (n : ℕ) → 0 < n → n ≤ j → cover eqb x n ≡ 0 → Tally x n j (get_or l (n - 1) 0) (get_or h (n - 1) 0)
  pub none : (n : ℕ) → 0 < n → n ≤ j → (cover eqb x n ≡ 0 → ⊥) → get_or l (n - 1) 0 ≡ 0

-- of the lengths up to j, those that have a proper cover have the flag 0 in s, and no other
pub record Flags (x s : List ℕ) (j : ℕ) : Type 0 where
  pub room : length x ≤ length s
  pub bare : (n : ℕ) → 0 < n → n ≤ j → cover eqb x n ≡ 0 → 0 < get_or s (n - 1) 0
  pub covered : (n : ℕ) → 0 < n → n ≤ j → (cover eqb x n ≡ 0 → ⊥) → get_or s (n - 1) 0 ≡ 0

-- from j to j + 1 down the weighed borders: the lengths above w are done, and w is 0 or weighed
pub record Round (x l h : List ℕ) (j w : ℕ) : Type 0 where
  pub lasts : length x ≤ length l
  pub holds : length x ≤ length h
  pub inside : j < length x
  pub below : w ≤ j
  pub weighs : (w ≡ 0) ⊎ Weighs eqb x (j + 1) w
  pub done : (n : ℕ) → n ≤ j + 1 → w < n → cover eqb x n ≡ 0 → Tally x n (j + 1) (get_or l (n - 1) 0) (get_or h (n - 1) 0)
  pub none : (n : ℕ) → 0 < n → n ≤ j + 1 → (cover eqb x n ≡ 0 → ⊥) → get_or l (n - 1) 0 ≡ 0
  pub todo : (n : ℕ) → 0 < n → n ≤ w → cover eqb x n ≡ 0 → Tally x n j (get_or l (n - 1) 0) (get_or h (n - 1) 0)

-- no log has more borders to weigh: the limit's places in every row
abbrev pub most_weighed : ℕ
most_weighed = longest * weighed_places

-- r is b, or w where that covers as much or more, with one border weighed more
pub record Better (b : Pick) (w k : ℕ) (r : Pick) : Type 0 where
  pub best : r.best ≡ cond (leb b.count k) w b.best
  pub count : r.count ≡ max b.count k
  pub total : r.total ≡ b.total + 1

-- b is the judgement of row j: its Best, its Count, and t and the number of its weighed borders
pub record Judgement (x : List ℕ) (j t : ℕ) (b : Pick) : Type 0 where
  pub best : b.best ≡ best_row x j
  pub count : b.count ≡ count_row x j
  pub total : b.total ≡ t + used eqb x (j + 1)
