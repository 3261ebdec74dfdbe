-- The left seed: what a pattern reaches by its occurrences, and by a start of it that ends the prefix. Under any rule: one reading more reaches at most one
-- position more. Where readings agree by being equal, a cover of a pattern reaches all that the pattern reaches. Assumes nothing.
use Rattle.std.proofs.Common.{Bool, true, ◌&&◌, ◌||◌, ◌≡◌, List, ◌⊎◌, inl, inr, ⊎_elim, ◌↔◌, ℕ, ◌+◌, ◌-◌, ◌≤◌, ◌<◌, eq-or-lt_of_le, arith, eqb, leb, leb-true, le-leb}
use Rattle.words.specs.Words.{is_border, inside, covered}
use Rattle.words.proofs.Tests.{and_left, and_right, and_both, or_cases, or_left, or_right, by_test, both_ways, le_or_lt}
use Rattle.words.proofs.Search.{any_some, some_any, how_many_le, how_many_hit, how_many_miss, how_many_same, how_many_mono}
use Rattle.words.proofs.Tops.{Top, top_one}
use Rattle.words.proofs.Occurrences.{occurs_same, occurs_shorter, occurs_through}
use Rattle.words.proofs.Borders.{Border, is_border_iff, border_shrink}
use Rattle.words.proofs.Covers.{Inside, Covers, inside_iff}
use Rattle.repeats.specs.Repeats.{begun, reached, left_seed, seed_count}
use Rattle.repeats.proofs.Repeating.{Repeats, repeats_top}
use Rattle.repeats.proofs.LeftCovers.{repeats_covered}

-- x[1..len] is shorter than x[1..q] and ends x[1..i], and the position after p readings lies in that end
pub record Begun (ag : ℕ → ℕ → Bool) (x : List ℕ) (i q p : ℕ) : Type 0 where
  pub len : ℕ
  pub short : len < q
  pub from : i - len ≤ p
  pub border : Border ag x i len

abbrev pub Reached : (ℕ → ℕ → Bool) → List ℕ → ℕ → ℕ → ℕ → Type 0
Reached ag x i q p = Inside ag x i q p ⊎ Begun ag x i q p

-- q is the shortest of the prefixes of x[1..i] that repeat and reach the most, k positions; both are 0 where none repeats
abbrev pub LeftSeed : (ℕ → ℕ → Bool) → List ℕ → ℕ → ℕ → ℕ → Type 0
LeftSeed ag x i = Top (Repeats ag x i) (reached ag x i)

module _ (ag : ℕ → ℕ → Bool) (x : List ℕ) where
  -- what `reached` counts
  abbrev pub reaches : ℕ → ℕ → ℕ → Bool
  reaches i q p = inside ag x i q p || begun ag x i q p

  pub begun_iff : (i q p : ℕ) → (begun ag x i q p ≡ true) ↔ Begun ag x i q p
  unfolding begun
  begun_iff i q p = (to, from)
    where
      test : ℕ → Bool
      test m = leb (i - m) p && is_border ag x i m

      to : begun ag x i q p ≡ true → Begun ag x i q p
      to e =
          let r = any_some test q e in record {
            len = r.0;
            short = r.1;
            from = leb-true _ _ (and_left (leb (i - r.0) p) (is_border ag x i r.0) r.2);
            border = (is_border_iff ag x i r.0).0 (and_right (leb (i - r.0) p) (is_border ag x i r.0) r.2);
          }

      from : Begun ag x i q p → begun ag x i q p ≡ true
      from b = some_any test q b.len b.short (and_both (leb (i - b.len) p) (is_border ag x i b.len) (le-leb _ _ b.from) ((is_border_iff ag x i b.len).1 b.border))

  pub reached_iff : (i q p : ℕ) → (reaches i q p ≡ true) ↔ Reached ag x i q p
  reached_iff i q p = (
    λ e. ⊎_elim (λ h. inl ((inside_iff ag x i q p).0 h)) (λ h. inr ((begun_iff i q p).0 h)) (or_cases (inside ag x i q p) (begun ag x i q p) e),
    λ r. ⊎_elim
        (λ h. or_left (inside ag x i q p) (begun ag x i q p) ((inside_iff ag x i q p).1 h))
        (λ h. or_right (inside ag x i q p) (begun ag x i q p) ((begun_iff i q p).1 h)) r,
  )

  pub reached_le : (i q : ℕ) → reached ag x i q ≤ i
  unfolding reached
  reached_le i q = how_many_le (reaches i q) i

  -- what is covered is reached
  pub reached_covered : (i q : ℕ) → covered ag x i q ≤ reached ag x i q
  unfolding covered reached
  reached_covered i q = how_many_mono (inside ag x i q) (reaches i q) i (λ p _ e. or_left (inside ag x i q p) (begun ag x i q p) e)

  pub repeats_reached : (i q : ℕ) → Repeats ag x i q → 0 < reached ag x i q
  repeats_reached i q t = omega (arith, repeats_covered ag x i q t, reached_covered i q)

  module _ (i : ℕ) where
    pub seed_seed : LeftSeed ag x i (left_seed ag x i) (seed_count ag x i)
    unfolding left_seed seed_count
    seed_seed = repeats_top ag x i (reached ag x i) (repeats_reached i)

    pub seed_one : {b k c n : ℕ} → LeftSeed ag x i b k → LeftSeed ag x i c n → (b ≡ c) × (k ≡ n)
    seed_one = top_one (repeats_reached i)

  -- ---- what ends at i reaches no more than it covers

  ended : (i q p : ℕ) → p < i → Border ag x i q → Reached ag x i q p → Inside ag x i q p
  ended i q p h b r = ⊎_elim
      (λ u. u)
      (λ u. record { start = i - q; from = omega (arith, u.short, u.from); to = omega (arith, b.below); ends = omega (arith, b.below); occurs = b.ends })
      r

  pub reached_border : (i q : ℕ) → Border ag x i q → reached ag x i q ≡ covered ag x i q
  unfolding reached covered
  reached_border i q b = how_many_same (reaches i q) (inside ag x i q) i (λ p l. both_ways (reaches i q p) (inside ag x i q p)
      (λ e. (inside_iff ag x i q p).1 (ended i q p l b ((reached_iff i q p).0 e)))
      (λ e. or_left (inside ag x i q p) (begun ag x i q p) e))

  -- ---- one reading more

  -- what is reached then was reached before
  before : (i q p : ℕ) → q ≤ i → p < i → Reached ag x (i + 1) q p → Reached ag x i q p
  before i q p l h r = ⊎_elim
      (λ u. ⊎_elim
      (λ (z : u.start + q ≡ i + 1).
      inr (record {
        len = q - 1;
        short = omega (arith, u.from, u.to);
        from = omega (arith, u.from);
        border = record { below = omega (arith, u.from, u.to); ends = occurs_same ag x (q - 1) u.start (omega (arith, u.from, u.to)) (occurs_shorter ag x q (q - 1) u.start (omega arith) u.occurs) };
      }))
      (λ (g : u.start + q < i + 1). inl (record { start = u.start; from = u.from; to = u.to; ends = omega arith; occurs = u.occurs }))
      (eq-or-lt_of_le u.ends))
      (λ u.
      let e : u.len - 1 + 1 ≡ u.len = omega (arith, u.from) in
      let b = (border_shrink ag x i (u.len - 1) (rw e u.border)).0 in
      inr (record { len = u.len - 1; short = omega (arith, u.short); from = omega (arith, u.from); border = b }))
      r

  pub reached_step : (i q : ℕ) → q ≤ i → reached ag x (i + 1) q ≤ reached ag x i q + 1
  unfolding reached
  reached_step i q l =
      let same = how_many_mono (reaches (i + 1) q) (reaches i q) i (λ p h e. (reached_iff i q p).1 (before i q p l h ((reached_iff (i + 1) q p).0 e))) in
      by_test (reaches (i + 1) q i)
      (λ t. omega (arith, how_many_hit (reaches (i + 1) q) i t))
      (λ t. omega (arith, how_many_miss (reaches (i + 1) q) i t))

-- ---- where readings agree by being equal: a cover reaches whatever the covered reaches

module _ (x : List ℕ) (r q i : ℕ) (c : Covers eqb x q r) where
  through : (p : ℕ) → p < i → Reached eqb x i q p → Reached eqb x i r p
  through p l s = ⊎_elim
      (λ u.
      let v = c.each (p - u.start) (omega (arith, u.to)) in
      inl (record {
        start = u.start + v.start;
        from = omega (arith, v.from, u.from);
        to = omega (arith, v.to);
        ends = omega (arith, v.ends, u.ends);
        occurs = occurs_through x r q v.start u.start v.occurs v.ends u.occurs;
      }))
      (λ u.
      let at : ℕ = i - u.len in
      let v = c.each (p - at) (omega (arith, u.from, u.short, u.border.below)) in ⊎_elim
      (λ (g : v.start + r ≤ u.len).
      inl (record {
        start = at + v.start;
        from = omega (arith, v.from, u.from);
        to = omega (arith, v.to);
        ends = omega (arith, u.border.below);
        occurs = occurs_through x r u.len v.start at v.occurs g u.border.ends;
      }))
      (λ (g : u.len < v.start + r).
      let d : ℕ = u.len - v.start in
      inr (record {
        len = d;
        short = omega arith;
        from = omega (arith, v.from, u.from, u.border.below);
        border = record {
          below = omega (arith, u.border.below);
          ends = occurs_same eqb x d (at + v.start) (omega (arith, v.from, u.from, u.border.below))
              (occurs_through x d u.len v.start at (occurs_shorter eqb x r d v.start (omega arith) v.occurs) (omega (arith, v.from, u.from, u.border.below)) u.border.ends);
        };
      }))
      (le_or_lt (v.start + r) u.len))
      s

  pub reached_through : reached eqb x i q ≤ reached eqb x i r
  unfolding reached
  reached_through = how_many_mono _ _ i (λ p l e. (reached_iff eqb x i r p).1 (through p l ((reached_iff eqb x i q p).0 e)))
