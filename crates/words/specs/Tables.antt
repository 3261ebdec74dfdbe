-- The rows of the five columns, and what stands in a lent table after a call. Assumes nothing.
-- Row r, from 0, is the one for the prefix of length r + 1.
use Rattle.std.specs.Prelude.{List, [], ◌∷◌, ◌++◌, ℕ, zero, suc, ◌+◌, take, drop, eqb}
use Rattle.words.specs.Words.{border, prefix, cover, best, count}

-- a column: the number at each row of a log's table
abbrev pub Column : Type 0
Column = List ℕ → ℕ → ℕ

abbrev pub border_row : Column
border_row x r = border eqb x (r + 1)

abbrev pub prefix_row : Column
prefix_row x r = prefix eqb x (r + 1)

abbrev pub cover_row : Column
cover_row x r = cover eqb x (r + 1)

abbrev pub best_row : Column
best_row x r = best eqb x (r + 1)

abbrev pub count_row : Column
count_row x r = count eqb x (r + 1)

-- f 0, .., f (n - 1)
unfoldable pub tabulate : (ℕ → ℕ) → ℕ → List ℕ
tabulate f zero = []
tabulate f (suc n) = tabulate f n ++ (f n ∷ [])

-- the table t with f 0, .., f (n - 1) in its first n rows; the later rows stay
unfoldable pub written : (ℕ → ℕ) → ℕ → List ℕ → List ℕ
written f n t = tabulate f n ++ drop n t

-- the window of m readings after the first a of x: a log of its own
unfoldable pub window : ℕ → ℕ → List ℕ → List ℕ
window a m x = take m (drop a x)

-- the table t with f 0, .., f (m - 1) in the m rows after its first a; all other rows stay
unfoldable pub placed : (ℕ → ℕ) → ℕ → ℕ → List ℕ → List ℕ
placed f a m t = take a t ++ written f m (drop a t)
