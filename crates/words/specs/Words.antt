-- Borders, prefixes and covers of a log x, each by trying every length and every position. Assumes nothing.
--
-- How positions are counted: i, q and m are lengths of prefixes, x[1..i] the first i readings. j and p are numbers of readings skipped, from 0:
-- an occurrence after j readings is one at j + 1 when positions are numbered from 1, and p stands for position p + 1.
--
-- ag says which two readings agree. The plant's rule is equality, `eqb`.
use Rattle.std.specs.Prelude.{Bool, cond, ◌&&◌, List, [], ◌∷◌, ℕ, zero, suc, ◌+◌, ◌-◌, ◌/◌, ◌%◌, ◌^◌, leb, ltb, eqb, length, get_or, take}
use Rattle.words.specs.declared.Part.{Part}
use Rattle.words.specs.Search.{all, any, how_many, greatest, peak, falling, rising, sum}

-- the exponent of the greatest power of two not above i
unfoldable pub limit : ℕ → ℕ
limit i = greatest (λ e. leb (2 ^ e) i) (suc i)

-- the length of the part after a part with this normal form; 0 if the breakdown stops
unfoldable pub next : Part → ℕ
next f = cond (ltb 0 f.k2) f.k2 (cond (ltb 1 f.k) f.k1 0)

module _ (ag : ℕ → ℕ → Bool) (x : List ℕ) where
  -- Occurrence: x[1..q] agrees, reading by reading, with the q readings after the first j.
  -- Every use below keeps j + q within the prefix that is judged
  unfoldable pub occurs : ℕ → ℕ → Bool
  occurs q j = all (λ k. ag (get_or x k 0) (get_or x (j + k) 0)) q

  -- Border: x[1..m] is shorter than x[1..i] and also its suffix. m may be 0
  unfoldable pub is_border : ℕ → ℕ → Bool
  is_border i m = ltb m i && occurs m (i - m)

  -- Border table at i
  unfoldable pub border : ℕ → ℕ
  border i = greatest (is_border i) i

  -- Normal form of x[1..i], with its length
  unfoldable pub normal : ℕ → Part
  normal i = let k1 = i - border i in record { len = i; k1 = k1; k2 = i % k1; k = i / k1 }

  -- Prefix table at i: among the lengths of what is left from i on
  unfoldable pub prefix : ℕ → ℕ
  prefix i = greatest (λ m. occurs m (i - 1)) (suc (length x - (i - 1)))

  -- the position after p readings lies inside an occurrence of x[1..q] that ends at or before i
  unfoldable pub inside : ℕ → ℕ → ℕ → Bool
  inside i q p = any (λ j. ltb p (j + q) && leb (j + q) i && occurs q j) (suc p)

  -- Cover: x[1..q] covers x[1..i]
  unfoldable pub covers : ℕ → ℕ → Bool
  covers i q = leb 1 q && leb q i && all (inside i q) i

  -- Cover table at i
  unfoldable pub cover : ℕ → ℕ
  cover i = greatest (covers i) i

  -- how many positions of x[1..i] the pattern x[1..q] covers
  unfoldable pub covered : ℕ → ℕ → ℕ
  covered i q = how_many (inside i q) i

  -- Enhanced table at i. What x[1..m] is worth: the positions that it covers, if it is a border; the empty border covers none.
  -- Best is the least m that is worth most
  unfoldable pub worth : ℕ → ℕ → ℕ
  worth i m = cond (is_border i m) (covered i m) 0

  unfoldable pub best : ℕ → ℕ
  best i = peak (worth i) i

  unfoldable pub count : ℕ → ℕ
  count i = worth i (best i)

  -- Breakdown: the parts from a length on, at most d of them
  unfoldable pub breakdown : ℕ → ℕ → List Part
  breakdown zero i = []
  breakdown (suc d) zero = []
  breakdown (suc d) (suc i) = normal (suc i) ∷ breakdown d (next (normal (suc i)))

  -- List of covers of x, rising
  unfoldable pub cover_list : List ℕ
  cover_list = rising (covers (length x)) (suc (length x))

  -- Weighed list at i, longest first: the nonempty borders that have no proper cover
  unfoldable pub weighs : ℕ → ℕ → Bool
  weighs i m = leb 1 m && is_border i m && eqb (cover m) 0

  unfoldable pub weighed : ℕ → List ℕ
  weighed i = falling (weighs i) i

  -- the number used at i
  unfoldable pub used : ℕ → ℕ
  used i = length (weighed i)

  -- Weighed total of x
  unfoldable pub total : ℕ
  total = sum (λ r. used (r + 1)) (length x)

  -- Best pattern of x
  unfoldable pub best_pattern : List ℕ
  best_pattern = take (best (length x)) x
