-- What the loop stores fits, and the total that it makes is that of the rows. Assumes nothing.
use Rattle.std.proofs.Common.{◌≡◌, sym, ap, ◌∙◌, List, ℕ, ◌+◌, ◌≤◌, ◌<◌, arith, length, eqb, w16, Fits}
use Rattle.words.specs.Search.{sum}
use Rattle.words.specs.Words.{used, total}
use Rattle.words.specs.Tables.{best_row, count_row}
use Rattle.words.specs.Refusals.{longest}
use Rattle.words.specs.Answers.{weighed_places}
use Rattle.words.proofs.Search.{sum_zero, sum_more, sum_bound}
use Rattle.words.proofs.Bests.{best_lt, count_le}
use Rattle.words.proofs.Weighs.{used_places}
use Rattle.tallies.specs.Tallies.{most_weighed}

-- the number of weighed borders of each row
abbrev pub used_row : List ℕ → ℕ → ℕ
used_row x j = used eqb x (j + 1)

module _ (x : List ℕ) (j : ℕ) (h : j < length x) (s : length x ≤ longest) where
  pub best_fits : {r : ℕ} → r ≡ best_row x j → Fits w16 r
  best_fits e = omega (arith, best_lt eqb x (j + 1) (omega arith))

  pub count_fits : {r : ℕ} → r ≡ count_row x j → Fits w16 r
  count_fits e = omega (arith, count_le eqb x (j + 1))

-- twelve to a row at most
pub total_small : (x : List ℕ) (j : ℕ) {t : ℕ} → j < length x → length x ≤ longest → t ≡ sum (used_row x) j → t ≤ most_weighed
total_small x j h s e = omega (arith, sum_bound (used_row x) weighed_places j (λ k l. used_places x (k + 1) (omega arith) (omega arith)))

pub total_none : (x : List ℕ) → 0 ≡ sum (used_row x) 0
total_none x = sym (sum_zero (used_row x))

module _ (x : List ℕ) (j : ℕ) {t : ℕ} (e : t ≡ sum (used_row x) j) where
  pub total_more : {r : ℕ} → r ≡ t + used eqb x (j + 1) → r ≡ sum (used_row x) (j + 1)
  total_more d = d ∙ rw e (sum_more (used_row x) j)

  pub total_done : j ≤ length x → length x ≤ j → t ≡ total eqb x
  unfolding total
  total_done a b = e ∙ ap (sum (used_row x)) (omega arith)
