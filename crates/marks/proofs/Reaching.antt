-- How far the occurrences reach, and the marks that follow from it. Each premise stands as the code's tests give it. Assumes nothing.
use Rattle.std.proofs.Common.{true, false, true≢false, ◌≡◌, refl, sym, ◌∙◌, List, inl, ⊎_elim, ℕ, suc, ◌+◌, ◌≤◌, ◌<◌, arith, eq-or-lt_of_le, eqb, leb, ltb, length, lt-ltb, ltb-true, leb-true}
use Rattle.words.specs.Words.{occurs, inside}
use Rattle.words.proofs.Tests.{not_passed, and_left, and_right, and_both, and3}
use Rattle.words.proofs.Search.{any_some, some_any}
use Rattle.marks.specs.Marks.{starts, mark_of, Reaches}

-- inside an occurrence: one starts at or before, and ends after
module _ (x : List ℕ) (q p : ℕ) where
  inside_start : inside eqb x (length x) q p ≡ true → (j : ℕ) × (j < suc p) × (p < j + q) × (starts x q j ≡ true)
  unfolding inside starts
  inside_start i =
      let w = any_some _ (suc p) i in
      let h = (and3 (ltb p (w.0 + q)) (leb (w.0 + q) (length x)) (occurs eqb x q w.0)).0 w.2 in
      (w.0, w.1, ltb-true p (w.0 + q) h.0, and_both _ _ h.1 h.2)

  start_inside : (j : ℕ) → j ≤ p → p < j + q → starts x q j ≡ true → inside eqb x (length x) q p ≡ true
  unfolding inside starts
  start_inside j h l s =
      some_any _ (suc p) j (omega arith)
      ((and3 (ltb p (j + q)) (leb (j + q) (length x)) (occurs eqb x q j)).1 (lt-ltb p (j + q) l, and_left (leb (j + q) (length x)) _ s, and_right (leb (j + q) (length x)) _ s))

pub reaches_none : (x : List ℕ) (q : ℕ) → Reaches x q 0 0
reaches_none x q = record { most = λ j h s. omega arith; some = inl refl }

-- a start
module _ (x : List ℕ) (q p : ℕ) (t : starts x q p ≡ true) where
  pub start_fits : p + q ≤ length x
  unfolding starts
  start_fits = leb-true (p + q) (length x) (and_left _ _ t)

  pub start_marked : 2 ≡ mark_of q x p
  unfolding mark_of
  start_marked = rw t

-- no start
module _ (x : List ℕ) (q p reach : ℕ) (r : Reaches x q p reach) (t : starts x q p ≡ false) where
  before : (j : ℕ) → j < suc p → starts x q j ≡ true → j < p
  before j h s =
      ⊎_elim
      (λ (z : j ≡ p). absurd (true≢false (sym (rw z at s) ∙ t)))
      (λ (l : j < p). l)
      (eq-or-lt_of_le (omega arith))

  covered : p < reach → inside eqb x (length x) q p ≡ true
  covered h = ⊎_elim (λ z. absurd (omega arith)) (λ w. start_inside x q p w.0 (omega (arith, w.1)) (omega (arith, w.3)) w.2) r.some

  uncovered : reach ≤ p → inside eqb x (length x) q p ≡ false
  uncovered h =
      not_passed _
      (λ i.
      let w = inside_start x q p i in
      omega (arith, r.most w.0 (before w.0 w.1 w.3) w.3, w.2))

  pub covered_marked : p < reach → 1 ≡ mark_of q x p
  unfolding mark_of
  covered_marked h = rw (t, covered h)

  pub uncovered_marked : reach ≤ p → 0 ≡ mark_of q x p
  unfolding mark_of
  uncovered_marked h = rw (t, uncovered h)
