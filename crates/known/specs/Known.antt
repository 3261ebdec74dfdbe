-- The strings with known results, P1 to P8, those of left covers and left seeds, three cycles of forty, and logs at the edges of held, as one table: for each log what is asked of it, and the result. Assumes nothing.
use Rattle.std.specs.Prelude.{List, [], ◌∷◌, ◌++◌, map, ℕ, eqb, length, get_or, take, replicate, ◌≡◌}
use Prim.Native.String.{String}
use Prim.Native.Char.{code}
use Rattle.words.specs.declared.Weighing.{Weighing}
use Rattle.words.specs.Answers.{CoverTest, Yes, No, Refused}
use Rattle.words.specs.Words as W
use Rattle.words.specs.Tables as T
use Rattle.words.specs.Answers as A
use Rattle.ceilings.specs.Ceilings as C
use Rattle.repeats.specs.Repeats as L
use Rattle.ceilings.proofs.Meaning.{flat}

-- What may be asked of a log. `weighed i` and `limit i`: at i. `test i q`: the cover test's number, and 1 for yes or 0. `times i q`: how often the first q readings occur in the first i. `window a m k`: the table after the first k, of twelve entries 77, after that window;
-- `windowRefused a m`: the number of a refused window, in tables of twelve entries; `bestRefused`: the number of the best pattern;
-- `ceiling`: the call's number, held and the ceiling
pub data Asked : Type 0 where
  border prefix cover best count left_cover left_count left_seed seed_count normal covers breakdown bestRefused ceiling : Asked
  weighed limit : ℕ → Asked
  test times windowRefused : ℕ → ℕ → Asked
  window : ℕ → ℕ → ℕ → Asked

infix 3 ◌gives◌
pub data Claim : Type 0 where
  ◌gives◌ : Asked → List ℕ → Claim

-- a row: its mark, the log, what is claimed
pub data Row : Type 0 where
  row : String → List ℕ → List Claim → Row

-- a text's characters, as numbers
unfoldable pub bytes : String → List ℕ
bytes String.[] = []
bytes (String.◌∷◌ c s) = code c ∷ bytes s

-- what a window with five tables of twelve entries leaves
abbrev pub twelve : List ℕ
twelve = replicate 12 77

abbrev pub windowed : List ℕ → ℕ → ℕ → A.Outcome Weighing
windowed x a m = A.window_outcome x a m twelve twelve twelve twelve twelve

-- an answer of the cover test: its number, and 1 for yes or 0
unfoldable pub tested : CoverTest → List ℕ
tested Yes = 0 ∷ 1 ∷ []
tested No = 0 ∷ 0 ∷ []
tested (Refused k) = k ∷ 0 ∷ []

-- a settled room: the symbols of one cycle of forty readings
abbrev pub forty : List ℕ
forty =
    10 ∷ 11 ∷ 12 ∷ 13 ∷ 13 ∷ 13 ∷ 14 ∷ 14 ∷ 14 ∷ 14 ∷ 14 ∷ 14 ∷ 13 ∷ 13 ∷ 13 ∷ 12 ∷ 12 ∷ 12 ∷ 11 ∷ 11
    ∷ 11 ∷ 11 ∷ 10 ∷ 10 ∷ 10 ∷ 10 ∷ 10 ∷ 9 ∷ 9 ∷ 9 ∷ 9 ∷ 9 ∷ 8 ∷ 8 ∷ 8 ∷ 8 ∷ 8 ∷ 8 ∷ 8 ∷ 8 ∷ []

unfoldable pub answer : List ℕ → Asked → List ℕ
answer x border = T.tabulate (T.border_row x) (length x)
answer x prefix = T.tabulate (T.prefix_row x) (length x)
answer x cover = T.tabulate (T.cover_row x) (length x)
answer x best = T.tabulate (T.best_row x) (length x)
answer x count = T.tabulate (T.count_row x) (length x)
answer x left_cover = T.tabulate (L.left_cover_row x) (length x)
answer x left_count = T.tabulate (L.left_count_row x) (length x)
answer x left_seed = T.tabulate (L.left_seed_row x) (length x)
answer x seed_count = T.tabulate (L.seed_count_row x) (length x)
answer x normal = let f = A.normal_answer x (length x) in f.k1 ∷ f.k2 ∷ f.k ∷ []
answer x covers = W.cover_list eqb x
answer x breakdown = let b = A.breakdown_answer x in take b.used (map (λ p. p.len) b.parts)
answer x bestRefused = A.best_pattern_no x ∷ []
answer x ceiling = let c = C.ceiling_answer x in c.number ∷ c.held ∷ c.ceiling ∷ []
answer x (weighed i) = W.weighed eqb x i
answer x (limit i) = W.limit i ∷ []
answer x (test i q) = tested (A.cover_test_answer x i q)
answer x (times i q) = L.times eqb x i q ∷ []
answer x (windowRefused a m) = (windowed x a m).answer.number ∷ []
answer x (window a m k) = get_or (windowed x a m).tables k []

-- what the row asks, answered by the definitions, is what it says
unfoldable pub asked : Claim → Asked
asked (t gives r) = t

unfoldable pub said : Claim → List ℕ
said (t gives r) = r

unfoldable pub Right : Row → Type 0
Right (row p x cs) = map (λ c. answer x (asked c)) cs ≡ map said cs

unfoldable pub rows : List Row
rows =
    row "P1" (bytes "a")
    ((border gives 0 ∷ [])
    ∷ (prefix gives 1 ∷ [])
    ∷ (cover gives 0 ∷ [])
    ∷ (best gives 0 ∷ [])
    ∷ (count gives 0 ∷ [])
    ∷ (normal gives 1 ∷ 0 ∷ 1 ∷ [])
    ∷ (covers gives 1 ∷ [])
    ∷ [])
    ∷ row "P2" (bytes "aa")
    ((border gives 0 ∷ 1 ∷ [])
    ∷ (prefix gives 2 ∷ 1 ∷ [])
    ∷ (best gives 0 ∷ 1 ∷ [])
    ∷ (count gives 0 ∷ 2 ∷ [])
    ∷ (normal gives 1 ∷ 0 ∷ 2 ∷ [])
    ∷ (covers gives 1 ∷ 2 ∷ [])
    ∷ [])
    ∷ row "P3" (bytes "ab")
    ((border gives 0 ∷ 0 ∷ [])
    ∷ (prefix gives 2 ∷ 0 ∷ [])
    ∷ (best gives 0 ∷ 0 ∷ [])
    ∷ (normal gives 2 ∷ 0 ∷ 1 ∷ [])
    ∷ (covers gives 2 ∷ [])
    ∷ (bestRefused gives 5 ∷ [])
    ∷ [])
    ∷ row "P4" (bytes "aaaa")
    ((best gives 0 ∷ 1 ∷ 1 ∷ 1 ∷ [])
    ∷ (count gives 0 ∷ 2 ∷ 3 ∷ 4 ∷ [])
    ∷ (normal gives 1 ∷ 0 ∷ 4 ∷ [])
    ∷ (covers gives 1 ∷ 2 ∷ 3 ∷ 4 ∷ [])
    ∷ (weighed 4 gives 1 ∷ [])
    ∷ (limit 4 gives 2 ∷ [])
    ∷ [])
    ∷ row "P5" (bytes "abaababab")
    ((border gives 0 ∷ 0 ∷ 1 ∷ 1 ∷ 2 ∷ 3 ∷ 2 ∷ 3 ∷ 2 ∷ [])
    ∷ (prefix gives 9 ∷ 0 ∷ 1 ∷ 3 ∷ 0 ∷ 3 ∷ 0 ∷ 2 ∷ 0 ∷ [])
    ∷ (best gives 0 ∷ 0 ∷ 1 ∷ 1 ∷ 2 ∷ 3 ∷ 2 ∷ 3 ∷ 2 ∷ [])
    ∷ (count gives 0 ∷ 0 ∷ 2 ∷ 3 ∷ 4 ∷ 6 ∷ 6 ∷ 8 ∷ 8 ∷ [])
    ∷ (normal gives 7 ∷ 2 ∷ 1 ∷ [])
    ∷ (covers gives 9 ∷ [])
    ∷ (weighed 9 gives 2 ∷ [])
    ∷ (limit 9 gives 3 ∷ [])
    ∷ [])
    ∷ row "P6" (bytes "ababaababa")
    ((border gives 0 ∷ 0 ∷ 1 ∷ 2 ∷ 3 ∷ 1 ∷ 2 ∷ 3 ∷ 4 ∷ 5 ∷ [])
    ∷ (prefix gives 10 ∷ 0 ∷ 3 ∷ 0 ∷ 1 ∷ 5 ∷ 0 ∷ 3 ∷ 0 ∷ 1 ∷ [])
    ∷ (cover gives 0 ∷ 0 ∷ 0 ∷ 2 ∷ 3 ∷ 0 ∷ 0 ∷ 3 ∷ 0 ∷ 5 ∷ [])
    ∷ (best gives 0 ∷ 0 ∷ 1 ∷ 2 ∷ 3 ∷ 1 ∷ 2 ∷ 3 ∷ 2 ∷ 3 ∷ [])
    ∷ (count gives 0 ∷ 0 ∷ 2 ∷ 4 ∷ 5 ∷ 4 ∷ 6 ∷ 8 ∷ 8 ∷ 10 ∷ [])
    ∷ (windowRefused 5 6 gives 3 ∷ [])
    ∷ (windowRefused 10 0 gives 3 ∷ [])
    ∷ (window 5 5 0 gives 77 ∷ 77 ∷ 77 ∷ 77 ∷ 77 ∷ 0 ∷ 0 ∷ 1 ∷ 2 ∷ 3 ∷ 77 ∷ 77 ∷ [])
    ∷ (window 5 5 2 gives 77 ∷ 77 ∷ 77 ∷ 77 ∷ 77 ∷ 0 ∷ 0 ∷ 0 ∷ 2 ∷ 3 ∷ 77 ∷ 77 ∷ [])
    ∷ (window 5 5 3 gives 77 ∷ 77 ∷ 77 ∷ 77 ∷ 77 ∷ 0 ∷ 0 ∷ 1 ∷ 2 ∷ 3 ∷ 77 ∷ 77 ∷ [])
    ∷ (window 5 5 4 gives 77 ∷ 77 ∷ 77 ∷ 77 ∷ 77 ∷ 0 ∷ 0 ∷ 2 ∷ 4 ∷ 5 ∷ 77 ∷ 77 ∷ [])
    ∷ [])
    ∷ row "P7" (bytes "abaababaababa")
    ((normal gives 5 ∷ 3 ∷ 2 ∷ [])
    ∷ (covers gives 3 ∷ 8 ∷ 13 ∷ [])
    ∷ (breakdown gives 13 ∷ 3 ∷ 1 ∷ [])
    ∷ [])
    ∷ row "P8" (bytes "ababaabaabababaababaabaababa")
    ((normal gives 15 ∷ 13 ∷ 1 ∷ [])
    ∷ (covers gives 3 ∷ 28 ∷ [])
    ∷ (breakdown gives 28 ∷ 13 ∷ 5 ∷ 1 ∷ [])
    ∷ (weighed 28 gives 3 ∷ 1 ∷ [])
    ∷ (test 28 28 gives 0 ∷ 1 ∷ [])
    ∷ (test 13 3 gives 0 ∷ 1 ∷ [])
    ∷ (test 3 13 gives 3 ∷ 0 ∷ [])
    ∷ (test 28 3 gives 0 ∷ 1 ∷ [])
    ∷ (test 28 13 gives 0 ∷ 0 ∷ [])
    ∷ [])
    ∷ row "left" (bytes "abaabab")
    ((times 7 2 gives 3 ∷ [])
    ∷ (left_cover gives 0 ∷ 0 ∷ 1 ∷ 1 ∷ 2 ∷ 3 ∷ 2 ∷ [])
    ∷ (left_count gives 0 ∷ 0 ∷ 2 ∷ 3 ∷ 4 ∷ 6 ∷ 6 ∷ [])
    ∷ (left_seed gives 0 ∷ 0 ∷ 1 ∷ 1 ∷ 2 ∷ 3 ∷ 3 ∷ [])
    ∷ (seed_count gives 0 ∷ 0 ∷ 2 ∷ 3 ∷ 4 ∷ 6 ∷ 7 ∷ [])
    ∷ [])
    ∷ row "shorter seed" (bytes "abaabaab")
    ((best gives 0 ∷ 0 ∷ 1 ∷ 1 ∷ 2 ∷ 3 ∷ 4 ∷ 5 ∷ [])
    ∷ (count gives 0 ∷ 0 ∷ 2 ∷ 3 ∷ 4 ∷ 6 ∷ 7 ∷ 8 ∷ [])
    ∷ (left_cover gives 0 ∷ 0 ∷ 1 ∷ 1 ∷ 2 ∷ 3 ∷ 4 ∷ 5 ∷ [])
    ∷ (left_count gives 0 ∷ 0 ∷ 2 ∷ 3 ∷ 4 ∷ 6 ∷ 7 ∷ 8 ∷ [])
    ∷ (left_seed gives 0 ∷ 0 ∷ 1 ∷ 1 ∷ 2 ∷ 3 ∷ 3 ∷ 3 ∷ [])
    ∷ (seed_count gives 0 ∷ 0 ∷ 2 ∷ 3 ∷ 4 ∷ 6 ∷ 7 ∷ 8 ∷ [])
    ∷ [])
    ∷ row "three cycles of forty" (forty ++ forty ++ forty)
    ((test 80 40 gives 0 ∷ 1 ∷ [])
    ∷ (test 120 80 gives 0 ∷ 1 ∷ [])
    ∷ (test 120 40 gives 0 ∷ 1 ∷ [])
    ∷ (test 120 60 gives 0 ∷ 0 ∷ [])
    ∷ [])
    ∷ row "flat" (flat 6)
    ((test 6 4 gives 0 ∷ 1 ∷ [])
    ∷ (test 4 1 gives 0 ∷ 1 ∷ [])
    ∷ (test 6 1 gives 0 ∷ 1 ∷ [])
    ∷ (left_cover gives 0 ∷ 1 ∷ 1 ∷ 1 ∷ 1 ∷ 1 ∷ [])
    ∷ (left_count gives 0 ∷ 2 ∷ 3 ∷ 4 ∷ 5 ∷ 6 ∷ [])
    ∷ (left_seed gives 0 ∷ 1 ∷ 1 ∷ 1 ∷ 1 ∷ 1 ∷ [])
    ∷ (seed_count gives 0 ∷ 2 ∷ 3 ∷ 4 ∷ 5 ∷ 6 ∷ [])
    ∷ [])
    ∷ row "no reading" [] ((ceiling gives 1 ∷ 0 ∷ 0 ∷ []) ∷ [])
    ∷ row "1 at the ceiling" (flat 1) ((ceiling gives 0 ∷ 1 ∷ 1 ∷ []) ∷ [])
    ∷ row "1 other" (4 ∷ []) ((ceiling gives 0 ∷ 0 ∷ 0 ∷ []) ∷ [])
    ∷ row "59 at the ceiling" (flat 59) ((ceiling gives 0 ∷ 1 ∷ 59 ∷ []) ∷ [])
    ∷ row "60 at the ceiling" (flat 60) ((ceiling gives 0 ∷ 1 ∷ 60 ∷ []) ∷ [])
    ∷ row "1 other and then 59" (4 ∷ flat 59) ((ceiling gives 0 ∷ 0 ∷ 59 ∷ []) ∷ [])
    ∷ row "1 other and then 60" (4 ∷ flat 60) ((ceiling gives 0 ∷ 1 ∷ 60 ∷ []) ∷ [])
    ∷ row "60 and then 1 other" (flat 60 ++ (4 ∷ [])) ((ceiling gives 0 ∷ 0 ∷ 60 ∷ []) ∷ [])
    ∷ []
