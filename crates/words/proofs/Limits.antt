-- The exponent of the greatest power of two not above a number, and the places that follow from the longest log. Assumes nothing.
use mathlib.Core.Path.{◌≡◌}
use mathlib.Core.Logic.{⊎_elim}
use Prim.Native.Nat.{ℕ, zero, suc, ◌+◌, ◌^◌, ◌≤◌, ◌<◌}
use native.Mathlib.Nat.{two-pow-succ}
use native.Mathlib.Omega.{arith}
use lib.Dec.{leb}
use lib.Pow.{pow_mono}
use borrow.Author.Tests.{leb-true, le-leb}
use Rattle.words.specs.Words.{limit}
use Rattle.words.specs.Refusals.{longest}
use Rattle.words.specs.Answers.{weighed_places, breakdown_places}
use Rattle.words.proofs.Tests.{le_or_lt}
use Rattle.words.proofs.Search.{greatest_passes, greatest_most}

-- a number is below 2 to its power
below_power : (n : ℕ) → n < 2 ^ n
below_power zero = omega arith
below_power (suc n) = rw two-pow-succ (omega (arith, below_power n))

pub limit_most : (e i : ℕ) → 2 ^ e ≤ i → e ≤ limit i
unfolding limit
limit_most e i h = greatest_most (λ d. leb (2 ^ d) i) (suc i) e (omega (arith, below_power e)) (le-leb (2 ^ e) i h)

pub limit_power : (i : ℕ) → 0 < i → (2 ^ limit i ≤ i) × (i < 2 ^ (limit i + 1))
unfolding limit
limit_power i h = (
  leb-true (2 ^ limit i) i (greatest_passes (λ d. leb (2 ^ d) i) (suc i) (le-leb 1 i h)),
  ⊎_elim
      (λ (g : 2 ^ (limit i + 1) ≤ i). absurd (omega (arith, limit_most (limit i + 1) i g)))
      (λ (g : i < 2 ^ (limit i + 1)). g)
      (le_or_lt (2 ^ (limit i + 1)) i),
)

-- no other exponent is
pub limit_is : (e i : ℕ) → 2 ^ e ≤ i → i < 2 ^ (e + 1) → limit i ≡ e
limit_is e i l u =
    let p = limit_power i (omega (arith, pow_mono {i = 0} {j = e} (omega arith))) in
    ⊎_elim
    (λ (g : limit i ≤ e). omega (arith, limit_most e i l))
    (λ (g : e < limit i). absurd (omega (arith, pow_mono {i = e + 1} {j = limit i} (omega arith), p.0)))
    (le_or_lt (limit i) e)

pub limit_mono : (i n : ℕ) → 0 < i → i ≤ n → limit i ≤ limit n
limit_mono i n h l = limit_most (limit i) n (omega (arith, (limit_power i h).0))

-- ---- the longest log

pub weighed_places_lem : limit longest ≡ weighed_places
weighed_places_lem = limit_is weighed_places longest (omega arith) (omega arith)

pub breakdown_places_lem : longest < 2 ^ breakdown_places
breakdown_places_lem = omega arith
