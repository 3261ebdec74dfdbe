-- Search below a bound, by looking at each number. Assumes nothing.
use Rattle.std.specs.Prelude.{Bool, true, false, cond, ◌&&◌, ◌||◌, List, [], ◌∷◌, ◌++◌, ℕ, zero, suc, ◌+◌, ltb}

-- each number below n passes p
unfoldable pub all : (ℕ → Bool) → ℕ → Bool
all p zero = true
all p (suc n) = all p n && p n

-- some number below n passes p
unfoldable pub any : (ℕ → Bool) → ℕ → Bool
any p zero = false
any p (suc n) = any p n || p n

-- how many numbers below n pass p
unfoldable pub how_many : (ℕ → Bool) → ℕ → ℕ
how_many p zero = 0
how_many p (suc n) = let r = how_many p n in cond (p n) (suc r) r

-- the greatest number below n that passes p; 0 if none does
unfoldable pub greatest : (ℕ → Bool) → ℕ → ℕ
greatest p zero = 0
greatest p (suc n) = let r = greatest p n in cond (p n) n r

-- the least number below n at which g is greatest; 0 if n is 0
unfoldable pub peak : (ℕ → ℕ) → ℕ → ℕ
peak g zero = 0
peak g (suc n) = let k = peak g n in cond (ltb (g k) (g n)) n k

-- the numbers below n that pass p, greatest first
unfoldable pub falling : (ℕ → Bool) → ℕ → List ℕ
falling p zero = []
falling p (suc n) = let r = falling p n in cond (p n) (n ∷ r) r

-- the same numbers, least first
unfoldable pub rising : (ℕ → Bool) → ℕ → List ℕ
rising p zero = []
rising p (suc n) = let r = rising p n in cond (p n) (r ++ (n ∷ [])) r

-- g 0 + .. + g (n - 1)
unfoldable pub sum : (ℕ → ℕ) → ℕ → ℕ
sum g zero = 0
sum g (suc n) = sum g n + g n
