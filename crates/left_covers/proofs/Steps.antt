-- What each turn of the loop comes to, on plain lists and numbers. Assumes nothing.
use Rattle.std.proofs.Common.{◌≡◌, refl, List, ⊎_elim, ℕ, ◌+◌, ◌≤◌, ◌<◌, arith, length, get_or, set, eqb}
use Rattle.words.specs.Words.{covered}
use Rattle.words.specs.Tables.{best_row, count_row}
use Rattle.words.specs.Refusals.{longest}
use Rattle.words.proofs.Tables.{Holds, Rows, rows_more, rows_under}
use Rattle.words.proofs.Occurrences.{eqb_refl}
use Rattle.words.proofs.Counts.{covered_le}
use Rattle.words.proofs.Bests.{best_best}
use Rattle.repeats.specs.declared.Found.{Found}
use Rattle.repeats.specs.Better.{Better}
use Rattle.repeats.specs.Repeats.{left_cover_row, left_count_row}
use Rattle.repeats.proofs.Repeating.{repeats_zero}
use Rattle.repeats.proofs.LeftCovers.{LeftCover, left_left, left_one, left_stays, left_moves}

-- the left cover of the first r readings
pub record Left (x : List ℕ) (r : ℕ) (f : Found) : Type 0 where
  pub cover : LeftCover eqb x r f.len f.count

pub left_start : (x : List ℕ) {f : Found} → f.len ≡ 0 → f.count ≡ 0 → Left x 0 f
left_start x zl zk = record { cover = rw (zl, zk) (repeats_zero eqb x 0 (covered eqb x 0) (omega arith)) }

module _ {x b₀ b c₀ c : List ℕ} {r : ℕ} (hb : Holds best_row x b₀) (hc : Holds count_row x c₀) (wb : Rows left_cover_row x b₀ b r) (wc : Rows left_count_row x c₀ c r) (l : r < length x) where
  pub next_left : {a g : Found} → Left x r a → Better (record { len = get_or b r 0; count = get_or c r 0 }) a g → Left x (r + 1) g
  next_left {a} {g} s o =
      let t = best_best eqb x (r + 1) in
      let n = rows_under left_cover_row best_row refl wb hb l in
      let k = rows_under left_count_row count_row refl wc hc l in
      ⊎_elim
      (λ w. rw w.0 (record { cover = rw (n, k) (left_moves eqb x eqb_refl s.cover t (rw (n, k) at w.1)) }))
      (λ w. rw w.0 (record { cover = left_stays eqb x eqb_refl s.cover t (rw (n, k) at w.1) }))
      o

-- both fit a table's entry
module _ {x : List ℕ} {r : ℕ} {f : Found} (s : Left x r f) (h : r < length x) (l : length x ≤ longest) where
  pub len_small : f.len < 65536
  len_small = ⊎_elim (λ z. omega (arith, z.0)) (λ v. omega (arith, v.0.proper)) s.cover.is

  pub count_small : f.count < 65536
  count_small = ⊎_elim (λ z. omega (arith, z.1)) (λ v. omega (arith, v.1, covered_le eqb x r f.len)) s.cover.is

module _ (x : List ℕ) (r : ℕ) {g : Found} (s : Left x (r + 1) g) where
  is_row : (g.len ≡ left_cover_row x r) × (g.count ≡ left_count_row x r)
  is_row = left_one eqb x (r + 1) s.cover (left_left eqb x (r + 1))

  cover_row_lem : g.len ≡ left_cover_row x r
  cover_row_lem = is_row.0

  count_row_lem : g.count ≡ left_count_row x r
  count_row_lem = is_row.1

  pub cover_more : {b₀ b u : List ℕ} → Rows left_cover_row x b₀ b r → r < length x → u ≡ set b r g.len → Rows left_cover_row x b₀ u (r + 1)
  cover_more w h e = rw e (rows_more w h cover_row_lem)

  pub count_more : {c₀ c u : List ℕ} → Rows left_count_row x c₀ c r → r < length x → u ≡ set c r g.count → Rows left_count_row x c₀ u (r + 1)
  count_more w h e = rw e (rows_more w h count_row_lem)
