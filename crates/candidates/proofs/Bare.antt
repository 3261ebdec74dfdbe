-- The lengths that have no proper cover, and the start of the next of them. Assumes nothing.
use Rattle.std.proofs.Common.{Bool, ◌≡◌, refl, sym, ap, ◌∙◌, List, ⊎_elim, ℕ, suc, ◌-◌, ◌≤◌, ◌<◌, le_antisymm, eq-or-lt_of_le, arith, eqb, eqb-true, eq-eqb}
use Rattle.words.specs.Search.{greatest}
use Rattle.words.specs.Words.{border, cover}
use Rattle.words.proofs.Search.{greatest_lt, greatest_passes, greatest_most}
use Rattle.words.proofs.Borders.{border_border}
use Rattle.words.proofs.Covers.{cover_lt}
use Rattle.repeats.proofs.Starts.{start, start_none, start_whole, start_inner}
use Rattle.candidates.specs.Candidates.{bare, fall_row}

module _ (x : List ℕ) where
  abbrev test : ℕ → Bool
  test q = eqb (cover eqb x q) 0

  empty_bare : cover eqb x 0 ≡ 0
  unfolding cover greatest
  empty_bare = refl

  pub bare_le : (r : ℕ) → bare x r ≤ r
  unfolding bare
  bare_le r = omega (arith, greatest_lt test (suc r) (omega arith))

  pub bare_bare : (r : ℕ) → cover eqb x (bare x r) ≡ 0
  unfolding bare
  bare_bare r = eqb-true _ _ (greatest_passes test (suc r) (eq-eqb _ _ empty_bare))

  pub bare_most : (r q : ℕ) → q ≤ r → cover eqb x q ≡ 0 → q ≤ bare x r
  unfolding bare
  bare_most r q h z = greatest_most test (suc r) q (omega arith) (eq-eqb _ _ z)

  -- the same up to any length from it on
  pub bare_same : (m r : ℕ) → bare x r ≤ m → m ≤ r → bare x m ≡ bare x r
  bare_same m r l h = le_antisymm
      (bare_most r (bare x m) (omega (arith, bare_le m)) (bare_bare m))
      (bare_most m (bare x r) l (bare_bare r))

  -- a reading alone has none
  pub bare_some : (r : ℕ) → 0 < r → 0 < bare x r
  bare_some r h = omega (arith, bare_most r 1 h (omega (arith, cover_lt eqb x 1 (omega arith))))

  -- ---- row by row

  pub bare_zero : bare x 0 ≡ 0
  bare_zero = omega (arith, bare_le 0)

  pub bare_here : (r : ℕ) → cover eqb x r ≡ 0 → bare x r ≡ r
  bare_here r z = le_antisymm (bare_le r) (bare_most r r (omega arith) z)

  pub bare_before : (r : ℕ) → 0 < r → (cover eqb x r ≡ 0 → ⊥) → bare x r ≡ bare x (r - 1)
  bare_before r h nz = ⊎_elim
      (λ (e : bare x r ≡ r). absurd (nz (rw e at (bare_bare r))))
      (λ (l : bare x r < r). sym (bare_same (r - 1) r (omega arith) (omega arith)))
      (eq-or-lt_of_le (bare_le r))

  pub fall_zero : fall_row x 0 ≡ 0
  fall_zero = rw bare_zero (start_none eqb x 0)

  pub fall_here : (r : ℕ) → 0 < r → border eqb x r < bare x r → fall_row x r ≡ border eqb x r
  fall_here r h l = start_whole eqb x r (bare x r) h l

  pub fall_before : (r : ℕ) → 0 < r → bare x r ≤ border eqb x r → fall_row x r ≡ fall_row x (border eqb x r)
  fall_before r h l =
      let b = border_border eqb x r h in
      start_inner x r (border eqb x r) (bare x r) b l
      ∙ ap (start eqb x (border eqb x r)) (sym (bare_same (border eqb x r) r l (omega (arith, b.below))))
