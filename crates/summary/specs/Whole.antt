-- What is said of a whole log, but for the entries of its list of covers. Assumes nothing.
use Rattle.std.specs.Prelude.{List, ℕ, eqb, length}
use Rattle.words.specs.Words as Words
use Rattle.words.specs.Tables.{best_row, count_row}
use Rattle.words.specs.Answers.{listed}
use Rattle.words.proofs.Tables.{Holds}
use Rattle.summary.specs.declared.Outline.{Outline}
use Rattle.summary.specs.declared.Summary.{Summary}

unfoldable pub outline_of : List ℕ → Outline
outline_of x =
    let n = length x in
    record { normal = Words.normal eqb x n; covers = length (Words.cover_list eqb x); weighed = listed 0 (Words.weighed eqb x n) (Words.limit n) }

unfoldable pub summary_of : List ℕ → Summary
summary_of x =
    let n = length x in
    record { outline = outline_of x; best = Words.best eqb x n; count = Words.count eqb x n }

-- the tables made
pub record Made (x best count : List ℕ) : Type 0 where
  pub bests : Holds best_row x best
  pub counts : Holds count_row x count
