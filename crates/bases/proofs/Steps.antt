-- A copy of a column's rows has that column's rows. Assumes nothing.
use Rattle.std.proofs.Common.{◌≡◌, refl, sym, ◌∙◌, List, ℕ, length, get_or}
use Rattle.words.specs.Tables.{Column, written}
use Rattle.words.proofs.Tables.{Room, Holds, written_holds, written_same, laid_over}
use Rattle.bases.specs.Copies.{copy_row}

pub copy_row_lem : (t x : List ℕ) (r : ℕ) → get_or t r 0 ≡ copy_row t x r
unfolding copy_row
copy_row_lem t x r = refl

module _ (f : Column) (x b : List ℕ) where
  pub copied : (c : List ℕ) {d : List ℕ} → Holds f x b → d ≡ written (copy_row b x) (length x) c → d ≡ written (f x) (length x) c
  copied c h e = e ∙ written_same (copy_row b x) (f x) (length x) c (λ r l. sym (copy_row_lem b x r) ∙ h.rows r l)

  pub copy_holds : {c d : List ℕ} → Holds f x b → Room x c → d ≡ written (copy_row b x) (length x) c → Holds f x d
  copy_holds {c} h q e = written_holds f x c q.room (copied c h e)

  -- a column laid over a copy
  pub over_copy : (t : List ℕ) {s u : List ℕ} → s ≡ written (copy_row b x) (length x) t → u ≡ written (f x) (length x) s → u ≡ written (f x) (length x) t
  over_copy t e d = laid_over f (copy_row b) x t e d
