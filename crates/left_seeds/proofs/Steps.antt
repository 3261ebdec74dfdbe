-- What each row and the columns come to, on plain lists and numbers. Assumes nothing.
use Rattle.std.proofs.Common.{◌≡◌, List, ⊎_elim, ℕ, ◌+◌, ◌≤◌, ◌<◌, arith, eqb, length, w16, Fits}
use Rattle.words.specs.Tables.{Column, border_row, written}
use Rattle.words.specs.Refusals.{longest}
use Rattle.words.proofs.Tables.{Room, Holds, written_holds}
use Rattle.repeats.specs.Repeats.{left_seed_row, seed_count_row}
use Rattle.repeats.proofs.Seeds.{reached_le, seed_seed, seed_one}
use Rattle.candidates.specs.Candidates.{bare_row, fall_row, Made}
use Rattle.standings.specs.declared.Standing.{Standing}
use Rattle.standings.specs.Standings.{Stands}

-- ---- `judge`

module _ (x : List ℕ) (j : ℕ) {s : Standing} (w : Stands x (j + 1) s) where
  is_row : (s.seed.len ≡ left_seed_row x j) × (s.seed.count ≡ seed_count_row x j)
  is_row = seed_one eqb x (j + 1) w.seed.seed (seed_seed eqb x (j + 1))

  pub seed_row : s.seed.len ≡ left_seed_row x j
  seed_row = is_row.0

  pub count_row_lem : s.seed.count ≡ seed_count_row x j
  count_row_lem = is_row.1

  module _ (h : j < length x) (l : length x ≤ longest) where
    pub seed_fits : Fits w16 s.seed.len
    seed_fits = ⊎_elim (λ z. omega (arith, z.0)) (λ v. omega (arith, v.0.proper)) w.seed.seed.is

    pub reach_fits : Fits w16 s.seed.count
    reach_fits = ⊎_elim (λ z. omega (arith, z.1)) (λ v. omega (arith, v.1, reached_le eqb x (j + 1) s.seed.len)) w.seed.seed.is

-- ---- `columns`: what was written last

pub room_holds : (f : Column) {x s t : List ℕ} → Room x s → t ≡ written (f x) (length x) s → Holds f x t
room_holds f {x} {s} h e = written_holds f x s h.room e

pub columns_made : {x b b₀ t t₀ f f₀ : List ℕ} → Room x b₀ → Room x t₀ → Room x f₀
    → b ≡ written (border_row x) (length x) b₀ → t ≡ written (bare_row x) (length x) t₀ → f ≡ written (fall_row x) (length x) f₀ → Made x b t f
columns_made rb rt rf eb et ef = record { most = rb.most; borders = room_holds border_row rb eb; bares = room_holds bare_row rt et; falls = room_holds fall_row rf ef }
