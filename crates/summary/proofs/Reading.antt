-- What the tables say of the whole log is its summary: their last rows, and the lists. Assumes nothing.
use Rattle.std.proofs.Common.{◌≡◌, List, ℕ, ◌+◌, ◌-◌, ◌<◌, arith, eqb, length, get_or}
use Rattle.words.specs.declared.Part.{Part}
use Rattle.words.specs.declared.Weighed.{Weighed}
use Rattle.words.specs.Words as Words
use Rattle.words.specs.Tables.{best_row, count_row}
use Rattle.words.specs.Answers.{listed}
use Rattle.words.proofs.Tables.{Holds}
use Rattle.summary.specs.declared.Outline.{Outline}
use Rattle.summary.specs.Whole.{outline_of, summary_of}

pub summary_is : {x best count : List ℕ} {o : Outline} → 0 < length x → Holds best_row x best → Holds count_row x count → o ≡ outline_of x
    → record { outline = o; best = get_or best (length x - 1) 0; count = get_or count (length x - 1) 0 } ≡ summary_of x
unfolding summary_of
summary_is {x} some b c o =
    let last : length x - 1 + 1 ≡ length x = omega arith in
    rw (o, b.rows (length x - 1) (omega arith), c.rows (length x - 1) (omega arith), last)

pub outline_is : (x : List ℕ) {p : Part} {k : ℕ} {w : Weighed} → p ≡ Words.normal eqb x (length x) → k ≡ length (Words.cover_list eqb x)
    → w ≡ listed 0 (Words.weighed eqb x (length x)) (Words.limit (length x)) → record { normal = p; covers = k; weighed = w } ≡ outline_of x
unfolding outline_of
outline_is x p k w = rw (p, k, w)
