-- What the contracts come to for a caller: the regulator's questions, answered of the tables and of the list that a call leaves. Assumes nothing.
use Rattle.std.proofs.Common.{◌≡◌, ap, ◌∙◌, List, [], ◌∷◌, map, ℕ, suc, ◌+◌, ◌≤◌, ◌<◌, arith, eqb, length, get_or}
use Rattle.words.specs.declared.Weighed.{Weighed}
use Rattle.words.specs.declared.Weighing.{Weighing}
use Rattle.words.specs.declared.Written.{Written}
use Rattle.words.specs.Words.{limit, weighed, used}
use Rattle.words.specs.Tables.{Column, best_row, count_row}
use Rattle.words.specs.Refusals.{table_no, prefix_no}
use Rattle.words.specs.Answers as A
use Rattle.words.proofs.Tables.{get_or_written, written_stays}
use Rattle.words.proofs.Places.{get_or_places}
use Rattle.words.proofs.Refusals.{answer_yes, answer_no, prefix_inside}
use Rattle.words.proofs.Bests.{Best, best_best}
use Rattle.words.proofs.Weighs.{used_limit, weighed_double}
use Rattle.repeats.specs.Repeats.{left_cover_row, left_count_row, left_seed_row, seed_count_row}
use Rattle.repeats.proofs.LeftCovers.{LeftCover, left_left}
use Rattle.repeats.proofs.Seeds.{LeftSeed, seed_seed}

-- any call that is lent tables: a refused one leaves every entry of each, an accepted one what it makes of each
module _ {R : Type 0} (code : ℕ) (value : R) (refusal : ℕ → R) (ts : List A.Lent) {o : A.Outcome R} (e : o ≡ A.outcome code value refusal ts) where
  pub tables_refused : (code ≡ 0 → ⊥) → o.tables ≡ map (λ t. t.before) ts
  unfolding A.outcome
  tables_refused nz = ap (λ (p : A.Outcome R). p.tables) (e ∙ answer_no code _ _ nz)

  pub tables_made : code ≡ 0 → o.tables ≡ map (λ t. t.made) ts
  unfolding A.outcome
  tables_made z = ap (λ (p : A.Outcome R). p.tables) (e ∙ answer_yes code _ _ z)

-- what is made of a table that takes a column: each row of the log, and the rows after them
module _ (f : Column) (x t : List ℕ) {s : List ℕ} (e : s ≡ (A.column f x t).made) where
  pub column_row : (r : ℕ) → r < length x → get_or s r 0 ≡ f x r
  unfolding A.column
  column_row r h = ap (λ (y : List ℕ). get_or y r 0) e ∙ get_or_written (f x) (length x) t r h

  pub column_later : (r : ℕ) → length x ≤ r → get_or s r 0 ≡ get_or t r 0
  unfolding A.column
  column_later r h = ap (λ (y : List ℕ). get_or y r 0) e ∙ written_stays (f x) (length x) t r h

-- the enhanced table: at each prefix no border covers more than the one reported, and no shorter one as many
pub enhanced_answers : (x b c : List ℕ) {w : Weighing} {s t : List ℕ}
    → record { answer = w; tables = s ∷ t ∷ [] } ≡ A.enhanced_outcome x b c → table_no (length x) (length b ∷ length c ∷ []) ≡ 0
    → (r : ℕ) → r < length x → Best eqb x (r + 1) (get_or s r 0) (get_or t r 0)
unfolding A.enhanced_outcome A.rooms A.column
enhanced_answers x b c {w} {s} {t} e z r h =
    let made = tables_made _ _ _ _ e z in
    rw (column_row best_row x b (ap (λ (l : List (List ℕ)). get_or l 0 []) made) r h, column_row count_row x c (ap (λ (l : List (List ℕ)). get_or l 1 []) made) r h)
    (best_best eqb x (r + 1))

-- left_covers and left_seeds: each row of both tables
module _ (f g : Column) (x b c : List ℕ) {w : Written} {s t : List ℕ} (e : record { answer = w; tables = s ∷ t ∷ [] } ≡ A.pair_outcome f g x b c)
    (z : table_no (length x) (length b ∷ length c ∷ []) ≡ 0) where
  pair_first : (r : ℕ) → r < length x → get_or s r 0 ≡ f x r
  unfolding A.pair_outcome A.rooms A.column
  pair_first = column_row f x b (ap (λ (l : List (List ℕ)). get_or l 0 []) (tables_made _ _ _ _ e z))

  pair_second : (r : ℕ) → r < length x → get_or t r 0 ≡ g x r
  unfolding A.pair_outcome A.rooms A.column
  pair_second = column_row g x c (ap (λ (l : List (List ℕ)). get_or l 1 []) (tables_made _ _ _ _ e z))

-- at each prefix no pattern that occurs twice covers more than the left cover reported, or reaches more than the left seed, and no shorter one as many
module _ (x b c : List ℕ) {w : Written} {s t : List ℕ} (z : table_no (length x) (length b ∷ length c ∷ []) ≡ 0) (r : ℕ) (h : r < length x) where
  pub left_answers : record { answer = w; tables = s ∷ t ∷ [] } ≡ A.pair_outcome left_cover_row left_count_row x b c → LeftCover eqb x (r + 1) (get_or s r 0) (get_or t r 0)
  left_answers e = rw (pair_first left_cover_row left_count_row x b c e z r h, pair_second left_cover_row left_count_row x b c e z r h) (left_left eqb x (r + 1))

  pub seed_answers : record { answer = w; tables = s ∷ t ∷ [] } ≡ A.pair_outcome left_seed_row seed_count_row x b c → LeftSeed eqb x (r + 1) (get_or s r 0) (get_or t r 0)
  seed_answers e = rw (pair_first left_seed_row seed_count_row x b c e z r h, pair_second left_seed_row seed_count_row x b c e z r h) (seed_seed eqb x (r + 1))

-- the weighed list: no more entries than the limit says, each more than twice the next
module _ (x : List ℕ) (i : ℕ) {w : Weighed} (e : w ≡ A.weighed_answer x i) (z : prefix_no (length x) i ≡ 0) where
  is_list : w ≡ A.listed 0 (weighed eqb x i) (limit i)
  unfolding A.weighed_answer
  is_list = e ∙ answer_yes (prefix_no (length x) i) _ _ z

  pub list_limit : w.used ≤ w.limit
  unfolding A.listed used
  list_limit = rw is_list (used_limit x i (prefix_inside (length x) i z).0)

  pub list_double : (k : ℕ) → suc k < w.used → get_or w.lens (suc k) 0 + get_or w.lens (suc k) 0 < get_or w.lens k 0
  unfolding A.listed
  list_double = rw is_list (λ k h.
      rw (get_or_places A.weighed_places 0 (weighed eqb x i) (suc k) 0 h, get_or_places A.weighed_places 0 (weighed eqb x i) k 0 (omega arith)) (weighed_double x i k h))
