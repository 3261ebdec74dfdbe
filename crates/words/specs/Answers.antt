-- What each call answers, and what stands in each lent table afterwards, on all inputs. Assumes nothing.
-- code is the call's number: 0, or that of the first refusal that applies.
use Rattle.std.specs.Prelude.{cond, List, [], ◌∷◌, ◌++◌, map, ℕ, ◌-◌, eqb, length, drop, replicate}
use Rattle.words.specs.declared.Part.{Part}
use Rattle.words.specs.declared.Written.{Written}
use Rattle.words.specs.declared.Weighing.{Weighing}
use Rattle.words.specs.declared.Listed.{Listed}
use Rattle.words.specs.declared.Normal.{Normal}
use Rattle.words.specs.declared.Breakdown.{Breakdown}
use Rattle.words.specs.declared.Weighed.{Weighed}
use Rattle.words.specs.declared.Pattern.{Pattern}
use Rattle.words.specs.Words.{limit, normal, breakdown, covers, cover_list, weighed, total, best, best_pattern}
use Rattle.words.specs.Tables.{Column, border_row, prefix_row, cover_row, best_row, count_row, written, window, placed}
use Rattle.words.specs.Refusals.{table_no, log_no, prefix_no, cover_test_no, best_no, window_no}

-- the value where the call is accepted; what stands for it where it is refused
unfoldable pub accepted : {A : Type 0} → ℕ → A → A → A
accepted code value refused = cond (eqb code 0) value refused

-- A call's answer: the value where it is accepted; where it is refused, the refusal that carries its number
unfoldable pub answer : {A : Type 0} → ℕ → A → (ℕ → A) → A
answer code value refusal = accepted code value (refusal code)

-- A call's outcome: its answer, and what stands in each lent table afterwards
pub record Outcome (A : Type 0) : Type 0 where
  pub answer : A
  pub tables : List (List ℕ)

-- A lent table: what it holds before the call, and what an accepted call makes of it
pub record Lent : Type 0 where
  pub before : List ℕ
  pub made : List ℕ

-- the entries that each table has
unfoldable pub rooms : List Lent → List ℕ
rooms ts = map (λ t. length t.before) ts

-- The outcome of a call that is lent these tables. Where it is refused, every table stays as it was
unfoldable pub outcome : {A : Type 0} → ℕ → A → (ℕ → A) → List Lent → Outcome A
outcome code value refusal ts = answer code (record { answer = value; tables = map (λ t. t.made) ts }) (λ k. record { answer = refusal k; tables = map (λ t. t.before) ts })

-- a list in k places, with z after its last
unfoldable pub places : {A : Type 0} → ℕ → A → List A → List A
places k z l = l ++ replicate (k - length l) z

-- the places of a weighed list and of a breakdown: one for each power of two up to the longest log, without and with the first
abbrev pub weighed_places : ℕ
weighed_places = 12

abbrev pub breakdown_places : ℕ
breakdown_places = 13

-- a table t that takes the column f of x in its first rows; the same of a window, in its own rows
unfoldable pub column : Column → List ℕ → List ℕ → Lent
column f x t = record { before = t; made = written (f x) (length x) t }

unfoldable pub middle : Column → List ℕ → ℕ → ℕ → List ℕ → Lent
middle f x a m t = record { before = t; made = placed (f (window a m x)) a m t }

-- A call that writes the column f into a table t
unfoldable pub table_outcome : Column → List ℕ → List ℕ → Outcome Written
table_outcome f x t =
    let ts : List Lent = column f x t ∷ [] in
    outcome (table_no (length x) (rooms ts)) (record { number = 0 }) (λ k. record { number = k }) ts

-- A call that writes the columns f and g into the tables b and c
unfoldable pub pair_outcome : Column → Column → List ℕ → List ℕ → List ℕ → Outcome Written
pair_outcome f g x b c =
    let ts : List Lent = column f x b ∷ column g x c ∷ [] in
    outcome (table_no (length x) (rooms ts)) (record { number = 0 }) (λ k. record { number = k }) ts

-- The weighed total of x, and none
unfoldable pub weighing : List ℕ → Weighing
weighing x = record { number = 0; total = total eqb x }

abbrev pub no_weighing : ℕ → Weighing
no_weighing k = record { number = k; total = 0 }

-- The enhanced table, with the tables b for Best and c for Count
unfoldable pub enhanced_outcome : List ℕ → List ℕ → List ℕ → Outcome Weighing
enhanced_outcome x b c =
    let ts : List Lent = column best_row x b ∷ column count_row x c ∷ [] in
    outcome (table_no (length x) (rooms ts)) (weighing x) no_weighing ts

-- A window of m readings after the first a, with its five tables
unfoldable pub window_outcome : List ℕ → ℕ → ℕ → List ℕ → List ℕ → List ℕ → List ℕ → List ℕ → Outcome Weighing
window_outcome x a m b p c e k =
    let ts : List Lent = middle border_row x a m b ∷ middle prefix_row x a m p ∷ middle cover_row x a m c ∷ middle best_row x a m e ∷ middle count_row x a m k ∷ [] in
    outcome (window_no (length x) a m (rooms ts)) (weighing (window a m x)) no_weighing ts

-- The normal form at i
unfoldable pub normal_answer : List ℕ → ℕ → Normal
normal_answer x i =
    let f = normal eqb x i in
    answer (prefix_no (length x) i) (record { number = 0; k1 = f.k1; k2 = f.k2; k = f.k }) (λ k. record { number = k; k1 = 0; k2 = 0; k = 0 })

-- The breakdown
abbrev pub no_part : Part
no_part = record { len = 0; k1 = 0; k2 = 0; k = 0 }

unfoldable pub broken : ℕ → List Part → Breakdown
broken code l = record { number = code; used = length l; parts = places breakdown_places no_part l }

unfoldable pub breakdown_answer : List ℕ → Breakdown
breakdown_answer x = answer (log_no (length x)) (broken 0 (breakdown eqb x breakdown_places (length x))) (λ k. broken k [])

-- The list of covers in a table t: from its first entry on; the entries after the list stay
unfoldable pub cover_list_outcome : List ℕ → List ℕ → Outcome Listed
cover_list_outcome x t =
    let l = cover_list eqb x in
    let ts : List Lent = record { before = t; made = l ++ drop (length l) t } ∷ [] in
    outcome (table_no (length x) (rooms ts)) (record { number = 0; used = length l }) (λ k. record { number = k; used = 0 }) ts

-- What the cover test answers: yes, no, or the number of the refusal
pub data CoverTest : Type 0 where
  Yes : CoverTest
  No : CoverTest
  Refused : ℕ → CoverTest

-- The cover test of q at i
unfoldable pub cover_test_answer : List ℕ → ℕ → ℕ → CoverTest
cover_test_answer x i q = answer (cover_test_no (length x) i q) (cond (covers eqb x i q) Yes No) Refused

-- The weighed list at i
unfoldable pub listed : ℕ → List ℕ → ℕ → Weighed
listed code l k = record { number = code; used = length l; limit = k; lens = places weighed_places 0 l }

unfoldable pub weighed_answer : List ℕ → ℕ → Weighed
weighed_answer x i = answer (prefix_no (length x) i) (listed 0 (weighed eqb x i) (limit i)) (λ k. listed k [] 0)

-- The best pattern: its number, its length beside it, and the part
unfoldable pub best_pattern_no : List ℕ → ℕ
best_pattern_no x = best_no (length x) (best eqb x (length x))

unfoldable pub pattern_answer : List ℕ → Pattern
pattern_answer x = answer (best_pattern_no x) (record { number = 0; len = best eqb x (length x) }) (λ k. record { number = k; len = 0 })

unfoldable pub best_pattern_part : List ℕ → List ℕ
best_pattern_part x = accepted (best_pattern_no x) (best_pattern eqb x) []
