-- Best and Count under any rule: the two numbers of the table are those of the shortest of the nonempty borders that cover the most, and no
-- other two are. Assumes nothing.
use mathlib.Core.Bool.{Bool}
use mathlib.Core.Path.{◌≡◌, ap}
use mathlib.Core.List.{List}
use mathlib.Core.Logic.{⊎_elim}
use Prim.Native.Nat.{ℕ, ◌≤◌, ◌<◌}
use native.Mathlib.Nat.{eq-zero-or-pos}
use native.Mathlib.Omega.{arith}
use Rattle.words.specs.Words.{is_border, covered, worth, best, count}
use Rattle.words.proofs.Tests.{cond_case}
use Rattle.words.proofs.Search.{peak_lt}
use Rattle.words.proofs.Tops.{Top, top_none, top_one, top_zero, top_peak}
use Rattle.words.proofs.Borders.{Border, is_border_iff}
use Rattle.words.proofs.Counts.{covered_le, covered_empty, covered_some}

-- the nonempty borders of x[1..i]
abbrev pub Nonempty : (ℕ → ℕ → Bool) → List ℕ → ℕ → ℕ → Type 0
Nonempty ag x i m = (0 < m) × Border ag x i m

-- b is the shortest of them that covers the most, k positions; both are 0 where there is none
abbrev pub Best : (ℕ → ℕ → Bool) → List ℕ → ℕ → ℕ → ℕ → Type 0
Best ag x i = Top (Nonempty ag x i) (covered ag x i)

module _ (ag : ℕ → ℕ → Bool) (x : List ℕ) (i : ℕ) where
  worth_border : (m : ℕ) → Border ag x i m → worth ag x i m ≡ covered ag x i m
  unfolding worth
  worth_border m b = rw ((is_border_iff ag x i m).1 b)

  -- what is worth something is a nonempty border
  worth_some : (m : ℕ) → 0 < worth ag x i m → Nonempty ag x i m
  unfolding worth
  worth_some m =
      cond_case (λ (r : ℕ). 0 < r → Nonempty ag x i m) (is_border ag x i m)
      (λ t l. (
        ⊎_elim
            (λ (z : m ≡ 0). absurd (omega (arith, covered_empty ag x i, ap (λ (n : ℕ). covered ag x i n) z)))
            (λ (g : 0 < m). g)
            (eq-zero-or-pos m),
        (is_border_iff ag x i m).0 t,
      ))
      (λ _ l. absurd (omega arith))

  pub count_le : count ag x i ≤ i
  unfolding count worth
  count_le =
      let m : ℕ = best ag x i in
      cond_case (λ (r : ℕ). r ≤ i) (is_border ag x i m) (λ _. covered_le ag x i m) (λ _. omega arith)

  pub best_lt : 0 < i → best ag x i < i
  unfolding best
  best_lt h = peak_lt (worth ag x i) i h

  -- a border covers something, so that two that are the best are the same
  some_covered : (m : ℕ) → Nonempty ag x i m → 0 < covered ag x i m
  some_covered m b = covered_some ag x i m b.0 b.1

  pub best_best : Best ag x i (best ag x i) (count ag x i)
  unfolding best count
  best_best = top_peak some_covered (worth ag x i) i (λ m b. (b.1.below, worth_border m b.1)) worth_some

  pub best_one : {b k c n : ℕ} → Best ag x i b k → Best ag x i c n → (b ≡ c) × (k ≡ n)
  best_one = top_one some_covered

  -- both are 0 exactly where there is no nonempty border
  pub best_zero : ((m : ℕ) → Nonempty ag x i m → ⊥) → (best ag x i ≡ 0) × (count ag x i ≡ 0)
  best_zero none = best_one best_best (top_none none)

  pub zero_best : count ag x i ≡ 0 → (m : ℕ) → Nonempty ag x i m → ⊥
  zero_best z = top_zero some_covered (rw z at best_best)

  pub best_some : (m : ℕ) → Nonempty ag x i m → 0 < best ag x i
  best_some m b = ⊎_elim (λ z. absurd (zero_best z.1 m b)) (λ v. v.0.0) best_best.is
