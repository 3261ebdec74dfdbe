-- The proper covers of a prefix, from its longest border b and its period i - b, where readings agree by being equal: a cover of b covers i exactly
-- where it covers some prefix from the period on. The on-line cover table rests on this. Assumes nothing.
use mathlib.Core.Path.{◌≡◌}
use mathlib.Core.List.{List}
use mathlib.Core.Logic.{⊎_elim}
use Prim.Native.Nat.{ℕ, ◌-◌, ◌≤◌, ◌<◌}
use native.Mathlib.Nat.{eq-or-lt_of_le}
use native.Mathlib.Omega.{arith}
use lib.Dec.{eqb}
use Rattle.words.specs.Words.{border}
use Rattle.words.proofs.Occurrences.{eqb_refl, occurs_same, occurs_self}
use Rattle.words.proofs.Borders.{border_inner, border_border, border_most}
use Rattle.words.proofs.Covers.{Covers, covers_border, covers_inner, covers_join, covers_back}

module _ (x : List ℕ) where
  -- a proper cover is a cover of the longest border
  pub covers_of_border : (q i : ℕ) → Covers eqb x i q → q < i → Covers eqb x (border eqb x i) q
  covers_of_border q i c h =
      let b = border_border eqb x i (omega arith) in
      let w = covers_border eqb x q i c h in
      let l = border_most eqb x i q w in
      covers_inner eqb x q i (border eqb x i) c l (omega (arith, b.below)) (⊎_elim
      (λ (e : q ≡ border eqb x i). occurs_same eqb x q 0 (omega arith) (occurs_self eqb x eqb_refl q))
      (λ (u : q < border eqb x i). (border_inner x i (border eqb x i) q b w u).ends)
      (eq-or-lt_of_le l))

  -- of the covers of the longest border those cover i that cover a prefix from the period of i on, and shorter than i
  pub period_covers : (q r i : ℕ) → 0 < i → Covers eqb x (border eqb x i) q → Covers eqb x r q → i - border eqb x i ≤ r → r < i → Covers eqb x i q
  period_covers q r i h c d l u =
      let b = border_border eqb x i h in
      covers_join x q (border eqb x i) r i d c b.ends l (omega arith) (omega (arith, b.below))

  -- and back
  pub covers_period : (q i : ℕ) → Covers eqb x i q → q < i → (r : ℕ) × (i - border eqb x i ≤ r) × (r < i) × Covers eqb x r q
  covers_period q i c h =
      let r = covers_back eqb x q i c h in
      (r.0, omega (arith, (covers_of_border q i c h).most), r.2, r.3)
