-- Cases: on a test, on an order, on a number below a bound. Assumes nothing.
use mathlib.Core.Bool.{Bool, true, false, cond, ◌&&◌, ◌||◌, true≢false}
use mathlib.Core.Path.{◌≡◌, refl, sym}
use mathlib.Core.Logic.{◌⊎◌, inl, inr, ⊎_elim, ◌↔◌}
use Prim.Native.Nat.{ℕ, suc, ◌≤◌, ◌<◌}
use native.Mathlib.Nat.{eq-or-lt_of_le, le_of_suc-le-suc, lt_of_not-le}
use native.Mathlib.Decide.{dec_le, ℕ_discrete}

-- what a test tells, each way
pub by_test : {P : Type 0} (b : Bool) → (b ≡ true → P) → (b ≡ false → P) → P
by_test true f g = f refl
by_test false f g = g refl

-- what holds of a where the test passes, and of c where it fails, holds of what the test picks
pub cond_case : {A : Type 0} (P : A → Type 0) (b : Bool) {a c : A} → (b ≡ true → P a) → (b ≡ false → P c) → P (cond b a c)
cond_case P true f g = f refl
cond_case P false f g = g refl

-- a test that cannot pass; two that pass together
pub not_passed : (b : Bool) → (b ≡ true → ⊥) → b ≡ false
not_passed true f = absurd (f refl)
not_passed false f = refl

pub both_ways : (b c : Bool) → (b ≡ true → c ≡ true) → (c ≡ true → b ≡ true) → b ≡ c
both_ways true c f g = sym (f refl)
both_ways false true f g = g refl
both_ways false false f g = refl

-- tests of several parts
pub or_cases : (a b : Bool) → a || b ≡ true → (a ≡ true) ⊎ (b ≡ true)
or_cases true b e = inl refl
or_cases false b e = inr e

pub or_left : (a b : Bool) → a ≡ true → a || b ≡ true
or_left a b e = rw e

pub or_right : (a b : Bool) → b ≡ true → a || b ≡ true
or_right true b e = refl
or_right false b e = e

pub and_left : (a b : Bool) → a && b ≡ true → a ≡ true
and_left true b e = refl
and_left false b e = e

pub and_right : (a b : Bool) → a && b ≡ true → b ≡ true
and_right true b e = e
and_right false b e = absurd (true≢false (sym e))

pub and_both : (a b : Bool) → a ≡ true → b ≡ true → a && b ≡ true
and_both true b e d = d
and_both false b e d = e

pub and3 : (a b c : Bool) → (a && b && c ≡ true) ↔ ((a ≡ true) × (b ≡ true) × (c ≡ true))
and3 a b c = (
  λ e. (and_left a b (and_left (a && b) c e), and_right a b (and_left (a && b) c e), and_right (a && b) c e),
  λ h. and_both (a && b) c (and_both a b h.0 h.1) h.2,
)

pub le_or_lt : (m n : ℕ) → (m ≤ n) ⊎ (n < m)
le_or_lt m n = go (dec_le m n)
  where
    go : Dec (m ≤ n) → (m ≤ n) ⊎ (n < m)
    go (yes h) = inl h
    go (no h) = inr (lt_of_not-le h)

pub eq_or_ne : (m n : ℕ) → (m ≡ n) ⊎ (m ≡ n → ⊥)
eq_or_ne m n = go (ℕ_discrete m n)
  where
    go : Dec (m ≡ n) → (m ≡ n) ⊎ (m ≡ n → ⊥)
    go (yes e) = inl e
    go (no e) = inr e

-- what holds of n, and of each number below n, holds of each below n + 1
pub last_or : (P : ℕ → Type 0) (n : ℕ) → P n → ((k : ℕ) → k < n → P k) → (k : ℕ) → k < suc n → P k
last_or P n here below k h = ⊎_elim (λ (e : k ≡ n). rw e here) (λ (l : k < n). below k l) (eq-or-lt_of_le (le_of_suc-le-suc h))
