-- What the last row is, and what stands in the array of the chain. Assumes nothing.
use Rattle.std.proofs.Common.{◌≡◌, ap, ◌∙◌, List, ℕ, ◌+◌, ◌-◌, ◌≤◌, arith, eqb, length, get_or, replicate}
use lib.ListN.{length-replicate}
use Rattle.words.specs.Words.{best}
use Rattle.words.specs.Tables.{written, cover_row, best_row}
use Rattle.words.specs.Refusals.{longest}
use Rattle.words.proofs.Tables.{Holds, written_holds}
use Rattle.words.proofs.Refusals.{Judged}
use Rattle.bases.proofs.Work.{work_holds}

-- the last row is that of the whole log
pub last_best : (x t : List ℕ) {r : ℕ} → r ≡ get_or t (length x - 1) 0 → Judged (length x) → t ≡ written (best_row x) (length x) (replicate longest 0)
    → r ≡ best eqb x (length x)
last_best x t e j d = e ∙ (work_holds best_row x j.most d).rows (length x - 1) (omega (arith, j.some)) ∙ ap (best eqb x) (omega (arith, j.some))

-- the array is longer by `APART`
pub chain_covers : (x : List ℕ) {t : List ℕ} → length x ≤ longest → t ≡ written (cover_row x) (length x) (replicate (longest + 96) 0) → Holds cover_row x t
chain_covers x h e = written_holds cover_row x (replicate (longest + 96) 0) (omega (arith, length-replicate {A = ℕ} (longest + 96) 0)) e
