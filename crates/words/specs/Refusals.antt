-- The numbers that say no, the tests behind them, and their order. Assumes nothing.
use Rattle.std.specs.Prelude.{Bool, false, cond, ◌||◌, List, [], ◌∷◌, ℕ, ◌+◌, eqb, ltb}

-- the most readings that a log may have
abbrev pub longest : ℕ
longest = 4096

-- a test with the number that it gives where it passes
abbrev pub Refusal : Type 0
Refusal = Bool × ℕ

-- the number of the first test that passes; 0 if none does
unfoldable pub first_no : List Refusal → ℕ
first_no [] = 0
first_no (t ∷ ts) = cond t.0 t.1 (first_no ts)

-- 1 EMPTY: the log has no reading. 2 LONG: it has too many
abbrev pub empty : ℕ → Refusal
empty n = (eqb n 0, 1)

abbrev pub long : ℕ → Refusal
long n = (ltb longest n, 2)

-- 3 PLACE: a length is 0 or above the one that it has to fit
abbrev pub outside : ℕ → ℕ → Bool
outside n i = eqb i 0 || ltb n i

abbrev pub place : Bool → Refusal
place b = (b, 3)

-- 4 SHORT: one of the lent tables, of these lengths, has fewer entries than are needed
unfoldable pub fewer : List ℕ → ℕ → Bool
fewer [] n = false
fewer (r ∷ rs) n = ltb r n || fewer rs n

abbrev pub short : List ℕ → ℕ → Refusal
short rooms n = (fewer rooms n, 4)

-- 5 NONE: Best is 0
abbrev pub none : ℕ → Refusal
none b = (eqb b 0, 5)

-- The calls. n is the log's length, rooms the lengths of the lent tables.

-- the four tables, and the list of covers
unfoldable pub table_no : ℕ → List ℕ → ℕ
table_no n rooms = first_no (empty n ∷ long n ∷ short rooms n ∷ [])

-- the breakdown
unfoldable pub log_no : ℕ → ℕ
log_no n = first_no (empty n ∷ long n ∷ [])

-- the normal form and the weighed list at i
unfoldable pub prefix_no : ℕ → ℕ → ℕ
prefix_no n i = first_no (empty n ∷ long n ∷ place (outside n i) ∷ [])

-- the cover test of q at i
unfoldable pub cover_test_no : ℕ → ℕ → ℕ → ℕ
cover_test_no n i q = first_no (empty n ∷ long n ∷ place (outside n i || outside i q) ∷ [])

-- the best pattern, where Best is b
unfoldable pub best_no : ℕ → ℕ → ℕ
best_no n b = first_no (empty n ∷ long n ∷ none b ∷ [])

-- a window of m readings after the first a; the sum is one of whole numbers
unfoldable pub window_no : ℕ → ℕ → ℕ → List ℕ → ℕ
window_no n a m rooms = first_no (empty n ∷ long n ∷ place (eqb m 0 || ltb n (a + m)) ∷ short rooms (a + m) ∷ [])
