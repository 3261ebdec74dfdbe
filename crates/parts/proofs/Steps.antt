-- What each way through the normal form and the breakdown comes to, on plain lists and numbers. Assumes nothing.
use Rattle.std.proofs.Common.{◌≡◌, refl, sym, ap, ◌∙◌, List, [], ◌∷◌, ◌++◌, append_assoc, append-nil, ⊎_elim, ℕ, suc, ◌+◌, ◌-◌, ◌*◌, ◌/◌, ◌%◌, ◌^◌, ◌≤◌, ◌<◌, mul-le-mul_right, mul_comm, mul_assoc, add-one, arith, pow_mono, eqb, length, get_or, set, replicate, length-append}
use native.Mathlib.Nat.{pow-succ'}
use Rattle.words.specs.declared.Part.{Part}
use Rattle.words.specs.declared.Breakdown.{Breakdown}
use Rattle.words.specs.Words.{border, normal, next, breakdown}
use Rattle.words.specs.Tables.{border_row}
use Rattle.words.specs.Refusals.{longest}
use Rattle.words.specs.Answers.{breakdown_places, no_part, broken}
use Rattle.words.proofs.Tests.{le_or_lt}
use Rattle.words.proofs.Tables.{Holds}
use Rattle.words.proofs.Borders.{border_lt}
use Rattle.words.proofs.Limits.{breakdown_places_lem}
use Rattle.words.proofs.Breakdowns.{next_half, breakdown_none, breakdown_more}
use Rattle.words.proofs.Places.{places_more, places_none}
use Rattle.parts.specs.Depth.{Deep, Broken}

-- ---- `normal`

module _ {x t : List ℕ} (h : Holds border_row x t) {i : ℕ} (some : 0 < i) (within : i ≤ length x) (b : ℕ) (e : b ≡ get_or t (i - 1) 0) where
  is_border_lem : b ≡ border eqb x i
  is_border_lem = e ∙ h.rows (i - 1) (omega arith) ∙ ap (border eqb x) (omega arith)

  below : b < i
  below = omega (arith, is_border_lem, border_lt eqb x i some)

  pub border_le : b ≤ i
  border_le = omega (arith, below)

  pub period_some : 0 < i - b
  period_some = omega (arith, below)

  pub normal_is : record { len = i; k1 = i - b; k2 = i % (i - b); k = i / (i - b) } ≡ normal eqb x i
  unfolding normal
  normal_is = rw is_border_lem

-- ---- `descend`

module _ {x : List ℕ} {i d : ℕ} (g : Deep x i d) where
  module _ (nz : i ≡ 0 → ⊥) where
    pub deep_place : d < breakdown_places
    deep_place =
        let q : 1 * 2 ^ d ≤ i * 2 ^ d = mul-le-mul_right (2 ^ d) (omega arith) in
        ⊎_elim
        (λ (l : breakdown_places ≤ d). absurd (omega (arith, g.halved, pow_mono {i = breakdown_places} {j = d} l)))
        (λ (l : d < breakdown_places). l)
        (le_or_lt breakdown_places d)

    module _ {p : Part} (ep : p ≡ normal eqb x i) (n : ℕ) (en : n ≡ next p) where
      e : n ≡ next (normal eqb x i)
      e = en ∙ ap next ep

      half : 2 * n ≤ i
      half = rw e (next_half eqb x i (omega arith))

      pub deep_falls : (t : ℕ) → i ≡ t → n < t
      deep_falls t z = omega (arith, half)

      pub deep_next : Deep x n (d + 1)
      deep_next =
          let q : 2 * n * 2 ^ d ≤ i * 2 ^ d = mul-le-mul_right (2 ^ d) half in
          let r : n * 2 ^ (d + 1) ≡ 2 * n * 2 ^ d = rw (add-one, pow-succ', mul_comm 2 n) (sym (mul_assoc n 2 (2 ^ d))) in
          record { most = g.most; within = omega (arith, half, g.within); halved = omega (arith, g.halved); place = omega (arith, deep_place) }

      pub broken_more : (a r : Breakdown)
          → Broken x n (d + 1) (record { number = a.number; used = a.used; parts = set a.parts d p }) r → Broken x i d a r
      broken_more a r b = record {
        whole = λ l z s k.
            let q : breakdown_places - d ≡ suc (breakdown_places - (d + 1)) = omega (arith, deep_place) in
            let m : breakdown eqb x (breakdown_places - d) i ≡ p ∷ breakdown eqb x (breakdown_places - (d + 1)) n =
            rw (q, ep, e) (breakdown_more eqb x (breakdown_places - (d + 1)) i nz) in
            b.whole (l ++ (p ∷ [])) z (ap (λ (y : List Part). set y d p) s ∙ places_more breakdown_places no_part l d p k deep_place) (length-append l (p ∷ []) ∙ omega arith)
            ∙ ap (broken 0) (append_assoc l (p ∷ []) (breakdown eqb x (breakdown_places - (d + 1)) n) ∙ ap (λ (y : List Part). l ++ y) (sym m));
      }

  pub broken_done : (a : Breakdown) → i ≡ 0 → Broken x i d a (record { number = a.number; used = d; parts = a.parts })
  unfolding broken
  broken_done a z = record {
    whole = λ l e s k.
        let m : l ++ breakdown eqb x (breakdown_places - d) i ≡ l = ap (λ (y : List Part). l ++ y) (rw z (breakdown_none eqb x (breakdown_places - d))) ∙ append-nil l in
        rw (m, e, s, k);
  }

-- ---- `breakdown`

pub deep_first : (x : List ℕ) → length x ≤ longest → Deep x (length x) 0
deep_first x h = record { most = h; within = omega arith; halved = omega (arith, breakdown_places_lem); place = omega arith }

pub broken_whole : (x : List ℕ) {r : Breakdown} → Broken x (length x) 0 (record { number = 0; used = 0; parts = replicate breakdown_places no_part }) r
    → r ≡ broken 0 (breakdown eqb x breakdown_places (length x))
broken_whole x b = b.whole [] refl (sym (places_none breakdown_places no_part)) refl
