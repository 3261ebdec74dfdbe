-- Breakdowns under any rule: each part is at most half of the one before, so that one place for each power of two suffices. Assumes nothing.
use mathlib.Core.Bool.{Bool}
use mathlib.Core.Path.{◌≡◌, refl, ap}
use mathlib.Core.List.{List, [], ◌∷◌}
use Prim.Native.Nat.{ℕ, zero, suc, ◌-◌, ◌*◌, ◌/◌, ◌%◌, ◌^◌, ◌≤◌, ◌<◌}
use native.Mathlib.Nat.{one-mul, le_of_eq, le_trans, le-div_iff_mul-le, two-pow-succ, mod-lt, div-add-mod', div-mul-le_self, mul-le-mul_right}
use native.Mathlib.Omega.{arith}
use lib.Dec.{ltb}
use lib.ListN.{length, get_or}
use borrow.Author.Tests.{ltb-true}
use Rattle.words.specs.declared.Part.{Part}
use Rattle.words.specs.Words.{border, normal, next, breakdown}
use Rattle.words.specs.Refusals.{longest}
use Rattle.words.specs.Answers.{breakdown_places, no_part}
use Rattle.words.proofs.Tests.{by_test}
use Rattle.words.proofs.Borders.{border_lt}
use Rattle.words.proofs.Limits.{breakdown_places_lem}

-- c times d goes into i as often as the quotient says
times : (i d c : ℕ) → c ≤ i / d → c * d ≤ i
times i d c e = le_trans (mul-le-mul_right d e) (div-mul-le_self i d)

mod_half : (i d : ℕ) → 1 ≤ d → d ≤ i → 2 * (i % d) ≤ i
mod_half i d h l =
    omega (arith, mod-lt i h, div-add-mod' i d, mul-le-mul_right d ((le-div_iff_mul-le h).1 (le_trans (le_of_eq (one-mul d)) l)))

module _ (ag : ℕ → ℕ → Bool) (x : List ℕ) where
  -- the next part is at most half of the part
  pub next_half : (i : ℕ) → 1 ≤ i → 2 * next (normal ag x i) ≤ i
  unfolding next normal
  next_half i h =
      let low = border_lt ag x i h in
      by_test (ltb 0 (i % (i - border ag x i)))
      (λ t. rw t (mod_half i (i - border ag x i) (omega arith) (omega arith)))
      (λ t. rw t (by_test (ltb 1 (i / (i - border ag x i)))
      (λ u. rw u (times i (i - border ag x i) 2 (ltb-true 1 (i / (i - border ag x i)) u)))
      (λ u. rw u (omega arith))))

  pub normal_len : (i : ℕ) → (normal ag x i).len ≡ i
  unfolding normal
  normal_len i = refl

  pub breakdown_none : (d : ℕ) → breakdown ag x d 0 ≡ []
  unfolding breakdown
  breakdown_none zero = refl
  breakdown_none (suc d) = refl

  pub breakdown_more : (d i : ℕ) → (i ≡ 0 → ⊥) → breakdown ag x (suc d) i ≡ normal ag x i ∷ breakdown ag x d (next (normal ag x i))
  unfolding breakdown
  breakdown_more d zero h = absurd (h refl)
  breakdown_more d (suc i) h = refl

  pub breakdown_length : (d i : ℕ) → length (breakdown ag x d i) ≤ d
  unfolding breakdown
  breakdown_length zero i = omega arith
  breakdown_length (suc d) zero = omega arith
  breakdown_length (suc d) (suc i) = omega (arith, breakdown_length d (next (normal ag x (suc i))))

  -- d places suffice for a length below 2 ^ d: more change nothing
  pub breakdown_suffices : (d e i : ℕ) → i < 2 ^ d → d ≤ e → breakdown ag x d i ≡ breakdown ag x e i
  unfolding breakdown
  breakdown_suffices zero zero i h l = refl
  breakdown_suffices zero (suc e) zero h l = refl
  breakdown_suffices zero (suc e) (suc i) h l = absurd (omega arith)
  breakdown_suffices (suc d) zero i h l = absurd (omega arith)
  breakdown_suffices (suc d) (suc e) zero h l = refl
  breakdown_suffices (suc d) (suc e) (suc i) h l =
      ap (λ (r : List Part). normal ag x (suc i) ∷ r)
      (breakdown_suffices d e (next (normal ag x (suc i))) (omega (arith, next_half (suc i) (omega arith), two-pow-succ d)) (omega arith))

  -- up to the longest log
  pub breakdown_all : (e i : ℕ) → i ≤ longest → breakdown_places ≤ e → breakdown ag x breakdown_places i ≡ breakdown ag x e i
  breakdown_all e i h l = breakdown_suffices breakdown_places e i (omega (arith, breakdown_places_lem)) l

  -- each part is at most half of the one before
  pub breakdown_half : (d i k : ℕ) → suc k < length (breakdown ag x d i)
      → 2 * (get_or (breakdown ag x d i) (suc k) no_part).len ≤ (get_or (breakdown ag x d i) k no_part).len
  unfolding breakdown
  breakdown_half zero i k h = absurd (omega arith)
  breakdown_half (suc d) zero k h = absurd (omega arith)
  breakdown_half (suc zero) (suc i) zero h = absurd (omega arith)
  breakdown_half (suc (suc d)) (suc i) zero h = second (next (normal ag x (suc i))) (next_half (suc i) (omega arith)) h
    where
      second : (n : ℕ) → 2 * n ≤ suc i → 1 < suc (length (breakdown ag x (suc d) n)) → 2 * (get_or (breakdown ag x (suc d) n) 0 no_part).len ≤ (normal ag x (suc i)).len
      second zero l h = absurd (omega (arith, ap length (breakdown_none (suc d))))
      second (suc n) l h = omega (arith, normal_len (suc n), normal_len (suc i))
  breakdown_half (suc d) (suc i) (suc k) h = breakdown_half d (next (normal ag x (suc i))) k (omega arith)
