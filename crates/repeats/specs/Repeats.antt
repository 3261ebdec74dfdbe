-- Left covers and left seeds of a log x: patterns that occur twice, wherever the log stops. Each by trying every length and every position, with the
-- words of words/specs/Words. Assumes nothing.
use Rattle.std.specs.Prelude.{Bool, cond, ◌&&◌, ◌||◌, List, ℕ, suc, ◌+◌, ◌-◌, leb, ltb, eqb}
use Rattle.words.specs.Search.{any, how_many, peak}
use Rattle.words.specs.Words.{occurs, is_border, inside, covered}
use Rattle.words.specs.Tables.{Column}

module _ (ag : ℕ → ℕ → Bool) (x : List ℕ) where
  -- how often x[1..q] occurs in x[1..i]
  unfoldable pub times : ℕ → ℕ → ℕ
  times i q = how_many (λ j. leb (j + q) i && occurs ag x q j) (suc i)

  -- x[1..q] is a proper nonempty prefix of x[1..i], and occurs in it at least twice
  unfoldable pub repeats : ℕ → ℕ → Bool
  repeats i q = leb 1 q && ltb q i && leb 2 (times i q)

  -- what x[1..q] is worth at i, where g says how many positions a pattern accounts for: that number, if it repeats
  unfoldable pub worth_by : (ℕ → ℕ) → ℕ → ℕ → ℕ
  worth_by g i q = cond (repeats i q) (g q) 0

  -- Left cover at i: the least q that is worth most by the positions that it covers
  unfoldable pub left_cover : ℕ → ℕ
  left_cover i = peak (worth_by (covered ag x i) i) i

  unfoldable pub left_count : ℕ → ℕ
  left_count i = worth_by (covered ag x i) i (left_cover i)

  -- the position after p readings lies in the start of a pattern x[1..q] not yet read to its end: in an x[1..m] with m < q that ends x[1..i]
  unfoldable pub begun : ℕ → ℕ → ℕ → Bool
  begun i q p = any (λ m. leb (i - m) p && is_border ag x i m) q

  -- how many positions of x[1..i] lie in an occurrence of x[1..q] or in such a start
  unfoldable pub reached : ℕ → ℕ → ℕ
  reached i q = how_many (λ p. inside ag x i q p || begun i q p) i

  -- Left seed at i: the same by the positions that it reaches
  unfoldable pub left_seed : ℕ → ℕ
  left_seed i = peak (worth_by (reached i) i) i

  unfoldable pub seed_count : ℕ → ℕ
  seed_count i = worth_by (reached i) i (left_seed i)

-- the columns that the two calls write
abbrev pub left_cover_row : Column
left_cover_row x r = left_cover eqb x (r + 1)

abbrev pub left_count_row : Column
left_count_row x r = left_count eqb x (r + 1)

abbrev pub left_seed_row : Column
left_seed_row x r = left_seed eqb x (r + 1)

abbrev pub seed_count_row : Column
seed_count_row x r = seed_count eqb x (r + 1)
