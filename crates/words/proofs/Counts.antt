-- How many positions a pattern covers: from one end of an occurrence to the next the number grows by the positions that are new. Assumes nothing.
use mathlib.Core.Bool.{Bool, true, false}
use mathlib.Core.Path.{◌≡◌, ap, ◌∙◌}
use mathlib.Core.List.{List}
use mathlib.Core.Logic.{⊎_elim}
use Prim.Native.Nat.{ℕ, ◌+◌, ◌-◌, ◌≤◌, ◌<◌, min}
use native.Mathlib.Nat.{eq-or-lt_of_le, zero-add, le_trans}
use native.Mathlib.Omega.{arith}
use lib.Dec.{eqb}
use Rattle.words.specs.Words.{inside, covered}
use Rattle.words.proofs.Tests.{not_passed, both_ways}
use Rattle.words.proofs.Search.{how_many_zero, how_many_all, how_many_none, how_many_last, how_many_le, how_many_full, how_many_longer, some_how_many, how_many_same, how_many_mono}
use Rattle.words.proofs.Occurrences.{Occurs, occurs_through}
use Rattle.words.proofs.Borders.{Border}
use Rattle.words.proofs.Covers.{Covers, inside_iff, inside_wider}

module _ (ag : ℕ → ℕ → Bool) (x : List ℕ) where
  pub covered_le : (i q : ℕ) → covered ag x i q ≤ i
  unfolding covered
  covered_le i q = how_many_le (inside ag x i q) i

  -- the empty pattern covers nothing, one that ends at i something, a cover everything
  pub covered_empty : (i : ℕ) → covered ag x i 0 ≡ 0
  unfolding covered
  covered_empty i =
      let none = how_many_none (inside ag x i 0) 0 i (λ k _ _. not_passed (inside ag x i 0 k) (λ e. let u = (inside_iff ag x i 0 k).0 e in omega (arith, u.from, u.to))) in
      rw (zero-add i) at none ∙ how_many_zero (inside ag x i 0)

  pub covered_some : (i q : ℕ) → 0 < q → Border ag x i q → 0 < covered ag x i q
  unfolding covered
  covered_some i q h b =
      some_how_many (inside ag x i q) i (i - 1) (omega (arith, b.below))
      ((inside_iff ag x i q (i - 1)).1 (record {
        start = i - q;
        from = omega arith;
        to = omega (arith, b.below);
        ends = omega (arith, b.below);
        occurs = b.ends;
      }))

  pub covered_all : (i q : ℕ) → Covers ag x i q → covered ag x i q ≡ i
  unfolding covered
  covered_all i q c =
      let full = how_many_all (inside ag x i q) 0 i (λ k _ l. (inside_iff ag x i q k).1 (c.each k (omega arith))) in
      let e : 0 + i ≡ i = zero-add i in
      omega (arith, rw e at full, how_many_zero (inside ag x i q))

  -- and who covers every position is one
  pub all_covered : (i q : ℕ) → 0 < q → q ≤ i → covered ag x i q ≡ i → Covers ag x i q
  unfolding covered
  all_covered i q h l e = record { some = h; most = l; each = λ p u. (inside_iff ag x i q p).0 (how_many_full (inside ag x i q) i e p u) }

  -- what is covered stays covered
  pub covered_wider : (q j i : ℕ) → j ≤ i → covered ag x j q ≤ covered ag x i q
  unfolding covered
  covered_wider q j i h =
      le_trans (how_many_mono (inside ag x j q) (inside ag x i q) j (λ p _ e. (inside_iff ag x i q p).1 (inside_wider ag x q j i p h ((inside_iff ag x j q p).0 e))))
      (how_many_longer (inside ag x i q) j i h)

  -- ---- the count step

  module _ (q : ℕ) where
    -- no occurrence ends after r, up to i: nothing is added
    pub covered_stays : (r i : ℕ) → r ≤ i → ((s : ℕ) → s + q ≤ i → Occurs ag x q s → s + q ≤ r) → covered ag x i q ≡ covered ag x r q
    unfolding covered
    covered_stays r i h last =
        let e : r + (i - r) ≡ i = omega arith in
        let none = how_many_none (inside ag x i q) r (i - r) (λ k l _. not_passed (inside ag x i q k) (λ t.
        let u = (inside_iff ag x i q k).0 t in
        omega (arith, u.to, last u.start u.ends u.occurs))) in
        rw e at none ∙ how_many_same (inside ag x i q) (inside ag x r q) r (λ p l. both_ways (inside ag x i q p) (inside ag x r q p)
        (λ t. let u = (inside_iff ag x i q p).0 t in (inside_iff ag x r q p).1
        (record { start = u.start; from = u.from; to = u.to; ends = last u.start u.ends u.occurs; occurs = u.occurs }))
        (λ t. (inside_iff ag x i q p).1 (inside_wider ag x q r i p h ((inside_iff ag x r q p).0 t))))

    -- an occurrence ends at i, and the last before it ends at r
    module _ (r i : ℕ) (a : Occurs ag x q (r - q)) (b : Occurs ag x q (i - q)) (hq : q ≤ r) (h : r < i)
        (last : (s : ℕ) → s + q < i → Occurs ag x q s → s + q ≤ r) where
      -- below r nothing changes
      below : (p : ℕ) → p < r → inside ag x i q p ≡ inside ag x r q p
      below p l = both_ways (inside ag x i q p) (inside ag x r q p)
          (λ e. let u = (inside_iff ag x i q p).0 e in (inside_iff ag x r q p).1 (⊎_elim
          (λ (z : u.start + q ≡ i). record { start = r - q; from = omega (arith, u.from); to = omega arith; ends = omega arith; occurs = a })
          (λ (g : u.start + q < i). record { start = u.start; from = u.from; to = u.to; ends = last u.start g u.occurs; occurs = u.occurs })
          (eq-or-lt_of_le u.ends)))
          (λ e. (inside_iff ag x i q p).1 (inside_wider ag x q r i p (omega arith) ((inside_iff ag x r q p).0 e)))

      -- the last q positions are covered
      top : (p : ℕ) → i - q ≤ p → p < i → inside ag x i q p ≡ true
      top p l u = (inside_iff ag x i q p).1 (record { start = i - q; from = l; to = omega arith; ends = omega arith; occurs = b })

      -- between the two occurrences nothing is
      gap : (p : ℕ) → r ≤ p → p < i - q → inside ag x i q p ≡ false
      gap p l u = not_passed (inside ag x i q p) (λ e.
          let w = (inside_iff ag x i q p).0 e in
          ⊎_elim (λ (z : w.start + q ≡ i). omega (arith, w.from)) (λ (g : w.start + q < i). omega (arith, w.to, last w.start g w.occurs)) (eq-or-lt_of_le w.ends))

      pub covered_next : covered ag x i q ≡ covered ag x r q + min q (i - r)
      unfolding covered
      covered_next =
          how_many_last (inside ag x i q) r i q (omega arith) (omega arith) top gap
          ∙ ap (λ (n : ℕ). n + min q (i - r)) (how_many_same (inside ag x i q) (inside ag x r q) r below)

-- ---- where readings agree by being equal: a cover covers whatever the covered covers

pub covered_through : (x : List ℕ) (p q i : ℕ) → Covers eqb x q p → covered eqb x i q ≤ covered eqb x i p
unfolding covered
covered_through x p q i c =
    how_many_mono (inside eqb x i q) (inside eqb x i p) i (λ t _ e.
    let u = (inside_iff eqb x i q t).0 e in
    let v = c.each (t - u.start) (omega (arith, u.to)) in
    (inside_iff eqb x i p t).1 (record {
      start = u.start + v.start;
      from = omega (arith, v.from, u.from);
      to = omega (arith, v.to);
      ends = omega (arith, v.ends, u.ends);
      occurs = occurs_through x p q v.start u.start v.occurs v.ends u.occurs;
    }))
